use Rattle.std.proofs.Common.{◌++◌, take, codes, decimal}
use Rattle.std.specs.List.{flat_map}
use Rattle.std.specs.Fmt.{HasWritten, IsPlainFormatter}
use Rattle.isomorphism.proofs.compare.display.ComparisonDisplay.fmt.Given as goal

-- the word is written and, each behind a blank, the places so far
abbrev pub invariant-loop-place : goal.invariant-loop-place
invariant-loop-place g l =
    IsPlainFormatter l.fn.f →
    HasWritten g.W.Write.write_str_gives l.fn.f (codes "alike" ++ flat_map (λ x. codes " " ++ decimal x) (take l.place-index l.place-items)) l.f
