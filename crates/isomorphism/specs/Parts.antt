-- A graph in its parts.
--
--   graph_of p   the graph that the parts are
use Rattle.std.specs.Prelude.{map}
use Rattle.theory.specs.Triple.{triple_of}
use Rattle.theory.specs.Graph.{Graph}
use Rattle.isomorphism.specs.declared.check.parts.Parts.{Parts}

abbrev pub graph_of : Parts → Graph
graph_of p = record { blanks = p.blanks; triples = map triple_of p.rows.now }
