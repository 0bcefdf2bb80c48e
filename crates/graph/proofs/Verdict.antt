-- What is told of rows: the place of the first that writes no triple down, or that there is none.
use Rattle.std.proofs.Common.{◌≡◌, ℕ, zero, suc, ◌/◌, not, List, ◌∷◌, length, take, drop, Option, sym, refl, ap, ◌∙◌, subst}
use Rattle.std.specs.Simd.{first_chunks}
use Rattle.std.specs.List.{position}
use Rattle.theory.specs.Row.{Row, rows_of}
use Rattle.theory.specs.Triple.{width, triple_fits}
use Rattle.theory.specs.Encoding.{rows_verdict}
use Rattle.theory.proofs.Refusal.{Tells, fault_told}

-- numbers cut into rows, as the code cuts them
pub chunks_rows : (w k : ℕ) (xs : Row) → first_chunks w k xs ≡ rows_of w k xs
unfolding rows_of
chunks_rows w zero xs = refl
chunks_rows w (suc k) xs = ap (λ rows. take w xs ∷ rows) (chunks_rows w k (drop w xs))

-- what the place of the first row of xs that writes no triple down tells, or that there is none
pub rows_told : (n : ℕ) (xs : Row) (chunks : List Row) (found : Option ℕ) → chunks ≡ first_chunks width (length xs / width) xs →
    found ≡ position (λ r. not (triple_fits n r)) chunks → Tells 2 (rows_verdict n (length xs / width) xs) found
rows_told n xs chunks found cut is =
    subst (Tells 2 (rows_verdict n (length xs / width) xs))
    (sym (is ∙ ap (position (λ r. not (triple_fits n r))) (cut ∙ chunks_rows width (length xs / width) xs)))
    (fault_told 2 (triple_fits n) (rows_of width (length xs / width) xs))
