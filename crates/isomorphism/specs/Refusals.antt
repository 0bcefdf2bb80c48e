-- What refusals of two graphs and of a mapping tell.
--
--   of_pair first second r   what is told of the graph that r refuses: `first` or `second` of its number and its place
--   first_line n p, second_line n p
--                            the lines that say that the first graph is refused, or the second, by number n at place p
--   pair_line r              the line that says so
--   OfCause xs r             a refusal of the graph that xs encodes is the one for its cause, where several share its number. There is room for
--                            any form
--   PairCaused xs ys r       so is a refusal of one of two graphs
--   misfit_number m          the number of the misfit m
--   misfit_place m           its place
--   misfit_told m            the verdict that it is
--   misfit_of r              the verdict on a mapping: it is accepted, or what its misfit tells
--   MisfitCaused m           where two causes share the number of m, it is the one for its cause: no triple has the place of other counts
--   check_told r             what a refusal in a check tells
--   checked r                the verdict that the result of a check is
--   check_line r             the line that a refusal in a check is printed as
--   CheckCaused xs ys r      a refusal in a check is the one for its cause
use Rattle.std.specs.Prelude.{◌≡◌, ℕ, List, ◌++◌, Ok, Err, codes, Result}
use Rattle.theory.specs.Row.{Row}
use Rattle.theory.specs.Refusal.{Verdict, accepted, refused}
use Rattle.theory.specs.Encoding.{most_written, graph_in, largest_form, CheckVerdict, mapping_accepted, first_refused, second_refused, mapping_refused}
use Rattle.graph.specs.Verdicts as graph
use Rattle.graph.specs.Verdicts.{number_of, place_of, cause, size_cause}
use Rattle.graph.specs.declared.refusal.Refusal.{Refusal}
use Rattle.isomorphism.specs.declared.refusal.PairRefusal.{PairRefusal}
use Rattle.isomorphism.specs.declared.refusal.PairRefusal.TheVariants.{First, Second}
use Rattle.isomorphism.specs.declared.refusal.Misfit.{Misfit}
use Rattle.isomorphism.specs.declared.refusal.Misfit.TheVariants.{NoPlace, MappedToNone, NotMappedTo, OtherCount}
use Rattle.isomorphism.specs.declared.refusal.CheckRefusal.{CheckRefusal}
use Rattle.isomorphism.specs.declared.refusal.CheckRefusal.TheVariants.{Graph, Mapping}

abbrev pub of_pair : {X : Type 0} → (first second : ℕ → ℕ → X) → PairRefusal → X
of_pair first second (First r) = first (number_of r) (place_of r)
of_pair first second (Second r) = second (number_of r) (place_of r)

abbrev pub first_line : ℕ → ℕ → List ℕ
first_line number place = codes "first " ++ graph.line (refused number place)

abbrev pub second_line : ℕ → ℕ → List ℕ
second_line number place = codes "second " ++ graph.line (refused number place)

abbrev pub pair_line : PairRefusal → List ℕ
pair_line r = of_pair first_line second_line r

abbrev pub OfCause : Row → Refusal → Type 0
OfCause xs r = (number_of r ≡ 1 → r ≡ cause xs) × (number_of r ≡ 3 → r ≡ size_cause (graph_in xs) largest_form)

abbrev pub PairCaused : Row → Row → PairRefusal → Type 0
PairCaused xs ys (First r) = OfCause xs r
PairCaused xs ys (Second r) = OfCause ys r

abbrev pub misfit_number : Misfit → ℕ
misfit_number (NoPlace node) = 6
misfit_number (MappedToNone triple) = 7
misfit_number (NotMappedTo triple) = 8
misfit_number OtherCount = 8

abbrev pub misfit_place : Misfit → ℕ
misfit_place (NoPlace node) = node
misfit_place (MappedToNone triple) = triple
misfit_place (NotMappedTo triple) = triple
misfit_place OtherCount = most_written

abbrev pub misfit_told : Misfit → Verdict
misfit_told m = refused (misfit_number m) (misfit_place m)

abbrev pub misfit_of : {X : Type 0} → Result X Misfit → Verdict
misfit_of (Ok x) = accepted
misfit_of (Err m) = misfit_told m

abbrev pub MisfitCaused : Misfit → Type 0
MisfitCaused m = misfit_number m ≡ 8 → misfit_place m ≡ most_written → m ≡ OtherCount

abbrev pub check_told : CheckRefusal → CheckVerdict
check_told (Graph r) = of_pair first_refused second_refused r
check_told (Mapping m) = mapping_refused (misfit_number m) (misfit_place m)

abbrev pub checked : {X : Type 0} → Result X CheckRefusal → CheckVerdict
checked (Ok x) = mapping_accepted
checked (Err r) = check_told r

abbrev pub check_line : CheckRefusal → List ℕ
check_line (Graph r) = pair_line r
check_line (Mapping m) = graph.line (misfit_told m)

abbrev pub CheckCaused : {X : Type 0} → Row → Row → Result X CheckRefusal → Type 0
CheckCaused xs ys (Ok x) = Unit {0}
CheckCaused xs ys (Err (Graph r)) = PairCaused xs ys r
CheckCaused xs ys (Err (Mapping m)) = MisfitCaused m
