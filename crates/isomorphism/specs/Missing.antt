-- Triples of one graph looked for in another.
--
--   mapped_into n p rows r   the row r writes a triple of a graph of n blank nodes down, and the places p map that to one of the rows
--   InOrder rows             the rows are in order, as a sort leaves them
use Rattle.std.specs.Prelude.{ℕ, Bool, ◌&&◌, List}
use Rattle.std.specs.List.Sorted.{IsSorted}
use Rattle.std.specs.Cmp.Lexicographic.{slice_cmp}
use Rattle.std.specs.Ordering.{nat_cmp}
use Rattle.theory.specs.Row.{Row, same_row}
use Rattle.theory.specs.Lists.{member}
use Rattle.theory.specs.Triple.{triple_row, triple_of, triple_fits, relabel}
use Rattle.theory.specs.Isomorphism.{place}

abbrev pub mapped_into : ℕ → Row → List Row → Row → Bool
mapped_into n p rows r = triple_fits n r && member same_row (triple_row (relabel (place p) (triple_of r))) rows

abbrev pub InOrder : List Row → Type 0
InOrder rows = IsSorted (slice_cmp nat_cmp) rows
