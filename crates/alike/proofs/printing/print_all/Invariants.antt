use Rattle.std.proofs.Common.{map, take}
use Rattle.std.specs.Io.KnownBytes.{Appends}
use Rattle.isomorphism.specs.Compared.{told}
use Rattle.alike.specs.Answer.{lines_of}
use Rattle.alike.proofs.printing.print_all.Given as goal

-- the lines of the answers so far are written
abbrev pub invariant-loop-answer : goal.invariant-loop-answer
invariant-loop-answer g l =
    Appends (g.W.Write.contents l.initial.out) (g.W.Write.contents l.out) (lines_of (map told (take l.answer-index l.answers)))
