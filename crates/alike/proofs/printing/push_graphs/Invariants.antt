use Rattle.std.proofs.Common.{◌≡◌, ◌++◌}
use Rattle.rows.specs.Written.{held}
use Rattle.input.specs.Graphs.{graphs_left}
use Rattle.input.specs.Source.{source_graphs}
use Rattle.alike.proofs.printing.push_graphs.Given as goal

-- the graphs so far are pushed, and those are the first of the source's
abbrev pub invariant-loop-graph : goal.invariant-loop-graph
invariant-loop-graph l =
    (held l.graphs.items ≡ held l.initial.graphs.items ++ held l.yielded)
    × (held l.yielded ++ graphs_left l.graph-iterator ≡ source_graphs l.source)
