use Rattle.std.proofs.Common.{◌≡◌, length}
use Rattle.input.proofs.source.read_all.Given as goal

-- a source for each name so far
abbrev pub invariant-loop-name : goal.invariant-loop-name
invariant-loop-name l = length l.sources.items ≡ l.name-index
