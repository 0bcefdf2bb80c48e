use Rattle.std.proofs.Common.{◌++◌, take, codes, decimal}
use Rattle.std.specs.List.{flat_map}
use Rattle.std.specs.Fmt.{HasWritten, IsPlainFormatter}
use Rattle.form.proofs.line.LineDisplay.fmt.Given as goal

-- behind the first number the others so far are written, each behind a blank
abbrev pub invariant-loop-number : goal.invariant-loop-number
invariant-loop-number g l =
    IsPlainFormatter l.initial.f →
    HasWritten g.W.Write.write_str_gives l.initial.f (flat_map (λ y. codes " " ++ decimal y) (take l.number-index l.others)) l.f
