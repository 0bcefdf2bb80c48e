-- The numbers in bytes.
--
--   number four       the number that four bytes are, the low byte first
--   numbers_in bytes  the numbers in bytes, four bytes each; a rest of one to three bytes is no number
use Rattle.std.specs.Prelude.{ℕ, ◌+◌, ◌*◌, List, [], ◌∷◌, slice_index}

abbrev pub number : List ℕ → ℕ
number four = slice_index four 0 + slice_index four 1 * 256 + slice_index four 2 * 65536 + slice_index four 3 * 16777216

unfoldable pub numbers_in : List ℕ → List ℕ
numbers_in (a ∷ b ∷ c ∷ d ∷ bytes) = number (a ∷ b ∷ c ∷ d ∷ []) ∷ numbers_in bytes
numbers_in (a ∷ b ∷ c ∷ []) = []
numbers_in (a ∷ b ∷ []) = []
numbers_in (a ∷ []) = []
numbers_in [] = []
