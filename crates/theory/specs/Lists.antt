-- Lists as finite collections, over any test `same` that says of two elements whether they are equal.
--
--   numbers n           0, 1, .., n - 1
--   member same x xs    x is in xs
--   count same x xs     how often x is in xs
--   index_of same x xs  the place of the first x in xs; the length of xs if there is none
--   distinct same xs    each element of xs once
--   EachOnce d xs       no element of xs stands at two places; d stands for what is past the end, where nobody looks
use Rattle.std.specs.Prelude.{◌≡◌, ℕ, suc, ◌<◌, Bool, true, false, cond, List, [], ◌∷◌, length, slice_index_or}
use Rattle.std.specs.List.{range_with_len}

abbrev pub numbers : ℕ → List ℕ
numbers n = range_with_len 0 n

module _ {X : Type 0} (same : X → X → Bool) where
  unfoldable pub member : X → List X → Bool
  member x [] = false
  member x (y ∷ ys) = cond (same x y) true (member x ys)

  unfoldable pub count : X → List X → ℕ
  count x [] = 0
  count x (y ∷ ys) = cond (same x y) (suc (count x ys)) (count x ys)

  unfoldable pub index_of : X → List X → ℕ
  index_of x [] = 0
  index_of x (y ∷ ys) = cond (same x y) 0 (suc (index_of x ys))

  -- an element is left out if it comes again
  unfoldable pub distinct : List X → List X
  distinct [] = []
  distinct (x ∷ xs) = cond (member x xs) (distinct xs) (x ∷ distinct xs)

abbrev pub EachOnce : {X : Type 0} → X → List X → Type 0
EachOnce d xs = (i j : ℕ) → i < length xs → j < length xs → slice_index_or xs i d ≡ slice_index_or xs j d → i ≡ j
