-- The graphs in a file, or in standard input.
--
--   graphs_in_bytes bytes  the graphs in its bytes
--   source_graphs s        the graphs in what was read
--   graphs_of sources      the graphs in all of these, in order
use Rattle.std.specs.Prelude.{ℕ, ◌%◌, Bool, not, List, length, vec_items, ◌==◌}
use Rattle.std.specs.List.{flat_map}
use Rattle.theory.specs.Row.{Row}
use Rattle.input.specs.Bytes.{numbers_in}
use Rattle.input.specs.Graphs.{graphs_in}
use Rattle.input.specs.declared.source.Source.{Source}

abbrev pub trailing_bytes : List ℕ → Bool
trailing_bytes bytes = not (length bytes % 4 == 0)

abbrev pub graphs_in_bytes : List ℕ → List Row
graphs_in_bytes bytes = graphs_in (trailing_bytes bytes) (numbers_in bytes)

abbrev pub source_graphs : Source → List Row
source_graphs s = graphs_in s.trailing_bytes (vec_items s.numbers)

abbrev pub graphs_of : List Source → List Row
graphs_of sources = flat_map source_graphs sources
