-- What is told of graphs that are taken in twos, and of all that was told.
--
--   of_two two        what is told of two graphs in a row; one that is missing is the empty row
--   in_twos graphs    what is told of the first two, of the next two and so on; a last one without a second has the empty row for it
--   alike v           whether v tells that two graphs are isomorphic
--   all_alike vs      whether all of vs do
--   status asked vs   the status that a program ends with: 1 where it is asked whether all are alike, and they are not
--   lines_of vs       the lines that tell all of vs, in order, each with its end
use Rattle.std.specs.Prelude.{ℕ, Bool, true, false, not, cond, ◌&&◌, List, [], ◌∷◌, ◌++◌, slice_index_or}
use Rattle.std.specs.List.{list_all, flat_map}
use Rattle.theory.specs.Row.{Row}
use Rattle.theory.specs.Comparison.{CompareVerdict, isomorphic_by, not_isomorphic, first_refused, second_refused, compare_verdict}
use Rattle.isomorphism.specs.Compared.{line}

abbrev pub of_two : List Row → CompareVerdict
of_two two = compare_verdict (slice_index_or two 0 []) (slice_index_or two 1 [])

unfoldable pub in_twos : List Row → List CompareVerdict
in_twos (xs ∷ ys ∷ graphs) = compare_verdict xs ys ∷ in_twos graphs
in_twos (xs ∷ []) = compare_verdict xs [] ∷ []
in_twos [] = []

abbrev pub alike : CompareVerdict → Bool
alike (isomorphic_by p) = true
alike not_isomorphic = false
alike (first_refused number place) = false
alike (second_refused number place) = false

abbrev pub all_alike : List CompareVerdict → Bool
all_alike vs = list_all alike vs

abbrev pub status : Bool → List CompareVerdict → ℕ
status asked vs = cond (asked && not (all_alike vs)) 1 0

abbrev pub lines_of : List CompareVerdict → List ℕ
lines_of vs = flat_map (λ v. line v ++ 10 ∷ []) vs
