-- That the definitions mean what they say.
use Rattle.std.proofs.Common.{◌≡◌, true, false, ◌∷◌, length, sym, refl, ◌∙◌, arith}
use mathlib.Core.List.{flatten}
use Rattle.std.proofs.lemmas.Bool.{lt-ltb, le-ltb}
use Rattle.theory.specs.Row.{before}
use Rattle.theory.specs.Lists.{member}
use Rattle.theory.specs.Multiset.{insert, sorted, sorted_set, least}
use Rattle.theory.specs.Colouring.{rounds}
use Rattle.theory.specs.SearchTree.{leaves_below}
use Rattle.theory.specs.Triple.{Triple, same_triple}
use Rattle.theory.specs.Graph.{holds, different}
use Rattle.theory.specs.Refinement.{stable, leaves}
use Rattle.theory.specs.CanonicalForm.{certificate_rows, certificate, certificates, form}
use Rattle.theory.specs.Sanity.{TestsAreEquality, OrderStrictTotal, NumberByNumber, SortingKeeps, SortingOrders, LeastIsLeast, RowWritesTriple, EmptyForm, RepeatForm, BoundsInclusive}
use Rattle.theory.proofs.Row.{same_row_true, same_row_refl, before_irrefl, before_trans, before_first, before_next, before_longer, rows}
use Rattle.theory.proofs.Lists.{same_tells}
use Rattle.theory.proofs.Multiset.{pairwise_at, ordered_sorted, rising_sorted_set, count_sorted, member_sorted_set, least_member, least_first}
use Rattle.theory.proofs.Triple.{triple_decider, triple_of_row}
use Rattle.theory.proofs.Isomorphism.{order_means_nothing}

pub tests_are_equality : TestsAreEquality
tests_are_equality =
    (λ r s. (same_row_true r s, λ e. let a = same_row_refl r in cc), λ s t. (triple_decider.sound s t, λ e. let a = triple_decider.itself s in cc))

pub order_strict_total : OrderStrictTotal
order_strict_total = (before_irrefl, before_trans, λ r s. grind (arith, rows))

pub number_by_number : NumberByNumber
number_by_number x y xs ys = (before_first x y xs ys, before_next x xs ys, before_longer x xs)

pub sorting_keeps : SortingKeeps
sorting_keeps r rows = (count_sorted r rows, member_sorted_set r rows)

pub sorting_orders : SortingOrders
sorting_orders rows i j l = (
  pairwise_at (λ s t. before t s ≡ false) (sorted rows) (ordered_sorted rows) i j l,
  pairwise_at (λ s t. before s t ≡ true) (sorted_set rows) (rising_sorted_set rows) i j l,
)

pub least_is_least : LeastIsLeast
least_is_least r rows = (least_member r rows, least_first r rows)

pub row_writes_triple : RowWritesTriple
row_writes_triple = triple_of_row

pub empty_form : EmptyForm
unfolding form certificates leaves leaves_below stable rounds least sorted insert certificate certificate_rows sorted_set flatten
empty_form = refl

pub repeat_form : RepeatForm
unfolding member
repeat_form n t ts w =
    order_means_nothing (record { blanks = n; triples = t ∷ t ∷ ts }) (record { blanks = n; triples = t ∷ ts }) (λ s m. w s (once s m)) w refl again
  where
    again : (s : Triple) → holds s (record { blanks = n; triples = t ∷ t ∷ ts }) ≡ holds s (record { blanks = n; triples = t ∷ ts })
    again s = let a = same_tells same_triple triple_decider s t in grind arith

    once : (s : Triple) → holds s (record { blanks = n; triples = t ∷ t ∷ ts }) ≡ true → holds s (record { blanks = n; triples = t ∷ ts }) ≡ true
    once s m = sym (again s) ∙ m

pub bounds_inclusive : BoundsInclusive
bounds_inclusive g room = (
  λ h. let a = le-ltb 256 (length (different g)) h in let b = le-ltb room room (omega arith) in cc,
  λ h. let a = lt-ltb 256 (length (different g)) h in cc,
  λ h. let a = le-ltb 1024 (length (leaves g)) h in cc,
  λ h. let a = lt-ltb 1024 (length (leaves g)) h in cc,
)
