-- Two graphs more of the graphs that are taken in twos, and what is told of them.
use Rattle.std.proofs.Common.{◌≡◌, ℕ, ◌<◌, ◌≤◌, min, List, [], ◌∷◌, ◌++◌, length, get_or, refl, ap, arith, Bor}
use Rattle.theory.specs.Row.{Row}
use Rattle.theory.specs.Comparison.{compare_verdict}
use Rattle.rows.specs.Written.{held}
use Rattle.alike.specs.Answer.{of_two, in_twos}

-- `two` are the first two of the graphs that are left, or the last one alone
pub in_twos_more : (left two rest : List (Bor Row)) (size : ℕ) → left ≡ two ++ rest → length two ≡ min size (length left) →
    size ≡ 2 → 0 < length left → in_twos (held left) ≡ of_two (held two) ∷ in_twos (held rest)
unfolding in_twos
in_twos_more left [] rest size cut long two some = absurd (omega arith)
in_twos_more left (x ∷ []) [] size cut long two some = rw cut
in_twos_more left (x ∷ []) (y ∷ rest) size cut long two some = let all = ap (λ (l : List (Bor Row)). length l) cut in absurd (omega arith)
in_twos_more left (x ∷ y ∷ []) rest size cut long two some = rw cut
in_twos_more left (x ∷ y ∷ z ∷ more) rest size cut long two some = absurd (omega arith)

pub in_twos_none : (left : List (Bor Row)) → length left ≡ 0 → length (in_twos (held left)) ≡ 0
unfolding in_twos
in_twos_none [] none = refl
in_twos_none (x ∷ left) none = absurd (omega arith)

-- two graphs that are there
pub of_both : (two : List (Bor Row)) (x y : Bor Row) → 1 < length two → compare_verdict (get_or two 0 x).now (get_or two 1 y).now ≡ of_two (held two)
of_both [] x y some = absurd (omega arith)
of_both (a ∷ []) x y some = absurd (omega arith)
of_both (a ∷ b ∷ two) x y some = refl

-- a last graph without a second
pub of_one : (two : List (Bor Row)) (x : Bor Row) → 0 < length two → length two ≤ 1 → compare_verdict (get_or two 0 x).now [] ≡ of_two (held two)
of_one [] x some one = absurd (omega arith)
of_one (a ∷ []) x some one = refl
of_one (a ∷ b ∷ two) x some one = absurd (omega arith)
