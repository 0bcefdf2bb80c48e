use Rattle.std.proofs.Common.{◌≡◌, ◌++◌}
use Rattle.std.specs.Io.KnownBytes.{Appends}
use Rattle.rows.specs.Written.{held}
use Rattle.input.specs.Graphs.{graphs_left}
use Rattle.input.specs.Source.{source_graphs}
use Rattle.form.specs.Line.{lines_of}
use Rattle.form.proofs.answer.print_source.Given as goal

-- the lines of the graphs so far are written, and those are the first of the source's
abbrev pub invariant-loop-graph : goal.invariant-loop-graph
invariant-loop-graph g l =
    Appends (g.W.Write.contents l.initial.out) (g.W.Write.contents l.out) (lines_of (held l.yielded))
    × (held l.yielded ++ graphs_left l.graph-iterator ≡ source_graphs l.source)
