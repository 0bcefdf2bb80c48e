-- The numbers in bytes, by the fours that the bytes are cut into.
use Rattle.std.proofs.Common.{◌≡◌, ℕ, zero, suc, ◌+◌, ◌*◌, ◌/◌, ◌<◌, ◌≤◌, List, [], ◌∷◌, map, length, sym, refl, ap, arith}
use Rattle.std.specs.Simd.{first_chunks}
use Rattle.input.specs.Bytes.{number, numbers_in}

by_fours : (k : ℕ) (bytes : List ℕ) → k * 4 ≤ length bytes → length bytes < k * 4 + 4 → map number (first_chunks 4 k bytes) ≡ numbers_in bytes
unfolding numbers_in
by_fours zero [] p q = refl
by_fours zero (a ∷ []) p q = refl
by_fours zero (a ∷ b ∷ []) p q = refl
by_fours zero (a ∷ b ∷ c ∷ []) p q = refl
by_fours zero (a ∷ b ∷ c ∷ d ∷ bytes) p q = absurd (omega arith)
by_fours (suc k) (a ∷ b ∷ c ∷ d ∷ bytes) p q = ap (λ xs. number (a ∷ b ∷ c ∷ d ∷ []) ∷ xs) (by_fours k bytes (omega arith) (omega arith))
by_fours (suc k) (a ∷ b ∷ c ∷ []) p q = absurd (omega arith)
by_fours (suc k) (a ∷ b ∷ []) p q = absurd (omega arith)
by_fours (suc k) (a ∷ []) p q = absurd (omega arith)
by_fours (suc k) [] p q = absurd (omega arith)

pub numbers_are : (bytes : List ℕ) → numbers_in bytes ≡ map number (first_chunks 4 (length bytes / 4) bytes)
numbers_are bytes = sym (by_fours (length bytes / 4) bytes (omega arith) (omega arith))
