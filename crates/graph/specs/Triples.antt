-- The triples of a simple graph: the first ones of an array.
--
--   first count triples            the triples that they are
--   Few blanks count               no more than a simple graph may have
--   Whole count triples            the array has so many
--   Fitting blanks count triples   each of them is written down by its row
--   Once count triples             their rows are in order, each once
use Rattle.std.specs.Prelude.{◌≡◌, ℕ, ◌≤◌, List, map, length, take}
use Rattle.std.specs.List.{AllPass}
use Rattle.theory.specs.Triple as theory
use Rattle.theory.specs.Multiset.{sorted_set}
use Rattle.theory.specs.Triple.{triple_row, triple_fits}
use Rattle.theory.specs.Encoding.{most_blanks, most_different}
use Rattle.graph.specs.Triple.{triple_is}
use Rattle.graph.specs.declared.triple.Triple.{Triple}

abbrev pub first : ℕ → List Triple → List theory.Triple
first count triples = map triple_is (take count triples)

abbrev pub Few : ℕ → ℕ → Type 0
Few blanks count = (blanks ≤ most_blanks) × (count ≤ most_different)

abbrev pub Whole : ℕ → List Triple → Type 0
Whole count triples = count ≤ length triples

abbrev pub Fitting : ℕ → ℕ → List Triple → Type 0
Fitting blanks count triples = AllPass (λ t. triple_fits blanks (triple_row t)) (first count triples)

abbrev pub Once : ℕ → List Triple → Type 0
Once count triples = sorted_set (map triple_row (first count triples)) ≡ map triple_row (first count triples)
