-- That the definitions mean what they say: small facts that a newcomer can check against what they expect.
use Rattle.std.specs.Prelude.{◌≡◌, ℕ, ◌<◌, ◌≤◌, true, false, ◌⊎◌, List, [], ◌∷◌, length, slice_index_or}
use Rattle.theory.specs.Row.{Row, same_row, before}
use Rattle.theory.specs.Lists.{member, count}
use Rattle.theory.specs.Multiset.{sorted, sorted_set, least}
use Rattle.theory.specs.Triple.{Triple, triple_row, triple_of, same_triple}
use Rattle.theory.specs.Graph.{Graph, different, WellFormed}
use Rattle.theory.specs.Refinement.{leaves}
use Rattle.theory.specs.CanonicalForm.{form}
use Rattle.theory.specs.Refusal.{accepted, refused}
use Rattle.theory.specs.Encoding.{size_verdict, leaves_verdict}

-- `same_row` and `same_triple` are equality.
abbrev pub TestsAreEquality : Type 0
TestsAreEquality =
    ((r s : Row) → (same_row r s ≡ true → r ≡ s) × (r ≡ s → same_row r s ≡ true))
    × ((s t : Triple) → (same_triple s t ≡ true → s ≡ t) × (s ≡ t → same_triple s t ≡ true))

-- The order on rows is strict and total: no row comes before itself, it is transitive, and of two different rows one comes before the other.
abbrev pub OrderStrictTotal : Type 0
OrderStrictTotal =
    ((r : Row) → before r r ≡ false)
    × ((r s t : Row) → before r s ≡ true → before s t ≡ true → before r t ≡ true)
    × ((r s : Row) → (r ≡ s) ⊎ ((before r s ≡ true) ⊎ (before s r ≡ true)))

-- Rows are ordered number by number, the smaller number first, and a row comes before each longer one that it begins.
abbrev pub NumberByNumber : Type 0
NumberByNumber =
    (x y : ℕ) (xs ys : Row) →
    (x < y → before (x ∷ xs) (y ∷ ys) ≡ true) × (before (x ∷ xs) (x ∷ ys) ≡ before xs ys) × (before [] (x ∷ xs) ≡ true)

-- Sorting loses no row and adds none; the set has the rows that are there.
abbrev pub SortingKeeps : Type 0
SortingKeeps =
    (r : Row) (rows : List Row) →
    (count same_row r (sorted rows) ≡ count same_row r rows) × (member same_row r (sorted_set rows) ≡ member same_row r rows)

-- Sorted rows are in order: none comes before an earlier one, and in a set each comes before all later ones.
abbrev pub SortingOrders : Type 0
SortingOrders =
    (rows : List Row) (i j : ℕ) → i < j →
    (j < length (sorted rows) → before (slice_index_or (sorted rows) j []) (slice_index_or (sorted rows) i []) ≡ false)
    × (j < length (sorted_set rows) → before (slice_index_or (sorted_set rows) i []) (slice_index_or (sorted_set rows) j []) ≡ true)

-- The least of some rows is one of them, and none of them comes before it.
abbrev pub LeastIsLeast : Type 0
LeastIsLeast =
    (r : Row) (rows : List Row) →
    (member same_row (least (r ∷ rows)) (r ∷ rows) ≡ true)
    × ((s : Row) → member same_row s (r ∷ rows) ≡ true → before s (least (r ∷ rows)) ≡ false)

-- The row of a triple writes it down.
abbrev pub RowWritesTriple : Type 0
RowWritesTriple = (t : Triple) → triple_of (triple_row t) ≡ t

-- The form of the empty graph is its count of blank nodes, which is 0.
abbrev pub EmptyForm : Type 0
EmptyForm = form (record { blanks = 0; triples = [] }) ≡ 0 ∷ []

-- A graph and its copy with a triple repeated have one form.
abbrev pub RepeatForm : Type 0
RepeatForm =
    (n : ℕ) (t : Triple) (ts : List Triple) → WellFormed (record { blanks = n; triples = t ∷ ts }) →
    form (record { blanks = n; triples = t ∷ t ∷ ts }) ≡ form (record { blanks = n; triples = t ∷ ts })

-- 256 different triples are not too many, nor are 1,024 leaves; one more of either is.
abbrev pub BoundsInclusive : Type 0
BoundsInclusive =
    (g : Graph) (room : ℕ) →
    (length (different g) ≤ 256 → size_verdict g room room ≡ accepted)
    × (256 < length (different g) → size_verdict g room room ≡ refused 3 256)
    × (length (leaves g) ≤ 1024 → leaves_verdict g ≡ accepted)
    × (1024 < length (leaves g) → leaves_verdict g ≡ refused 5 1025)
