use Rattle.std.proofs.Common.{take}
use Rattle.std.specs.Io.KnownBytes.{Appends}
use Rattle.input.specs.Source.{graphs_of}
use Rattle.form.specs.Line.{lines_of}
use Rattle.form.proofs.answer.print_lines.Given as goal

-- the lines of the sources so far are written
abbrev pub invariant-loop-source : goal.invariant-loop-source
invariant-loop-source g l =
    Appends (g.W.Write.contents l.initial.out) (g.W.Write.contents l.out) (lines_of (graphs_of (take l.source-index l.sources)))
