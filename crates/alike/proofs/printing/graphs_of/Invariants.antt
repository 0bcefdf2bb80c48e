use Rattle.std.proofs.Common.{◌≡◌, take}
use Rattle.rows.specs.Written.{held}
use Rattle.input.specs.Source.{graphs_of}
use Rattle.alike.proofs.printing.graphs_of.Given as goal

-- the graphs of the sources so far
abbrev pub invariant-loop-source : goal.invariant-loop-source
invariant-loop-source l = held l.graphs.items ≡ graphs_of (take l.source-index l.sources)
