-- Graphs with blank nodes.
--
--   Graph         how many blank nodes there are, numbered from 0, and the triples. Their order and repetition mean nothing; a blank
--                 node that no triple has is there all the same, and counts
--   holds t g     t is one of g's triples
--   different g   g's triples, each once
--   WellFormed g  the blank nodes of each triple are among those that g has
--   simple g      g with each triple once, and the triples in the order of their rows; one that points at itself stays
use Rattle.std.specs.Prelude.{◌≡◌, ℕ, Bool, true, List, map}
use Rattle.theory.specs.Lists.{member, distinct}
use Rattle.theory.specs.Multiset.{sorted_set}
use Rattle.theory.specs.Triple.{Triple, triple_row, triple_of, same_triple, Within}

pub record Graph : Type 0 where
  pub blanks : ℕ
  pub triples : List Triple

abbrev pub holds : Triple → Graph → Bool
holds t g = member same_triple t g.triples

abbrev pub different : Graph → List Triple
different g = distinct same_triple g.triples

abbrev pub WellFormed : Graph → Type 0
WellFormed g = (t : Triple) → holds t g ≡ true → Within g.blanks t

unfoldable pub simple : Graph → Graph
simple g = record { blanks = g.blanks; triples = map triple_of (sorted_set (map triple_row g.triples)) }
