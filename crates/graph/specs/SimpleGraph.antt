-- What a simple graph is.
--
--   graph_of s     the graph that s is
use Rattle.theory.specs.Graph.{Graph}
use Rattle.graph.specs.Triples.{first}
use Rattle.graph.specs.declared.simple.SimpleGraph.{SimpleGraph}
pub use Rattle.graph.specs.Triple.{term_is, triple_is}

abbrev pub graph_of : SimpleGraph → Graph
graph_of s = record { blanks = s.blanks; triples = first s.count s.triples }
