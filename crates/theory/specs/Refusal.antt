-- What is told of an input: that it is accepted, or the number of a refusal and its place.
--
--   refuse_if test number place     refused so if the test holds
--   first_refusal verdicts          the first of them that is a refusal
--   told_of who verdict next        a refusal, told of the one named; else what comes next
--   first_fault ok number i xs      refused at the place of the first element that is not ok, counted from i
use Rattle.std.specs.Prelude.{ℕ, suc, Bool, true, false, cond, List, [], ◌∷◌}

pub data Verdict : Type 0 where
  accepted : Verdict
  refused : (number place : ℕ) → Verdict

abbrev pub refuse_if : Bool → ℕ → ℕ → Verdict
refuse_if true number place = refused number place
refuse_if false number place = accepted

abbrev pub first_refusal : List Verdict → Verdict
first_refusal [] = accepted
first_refusal (accepted ∷ vs) = first_refusal vs
first_refusal (refused number place ∷ vs) = refused number place

abbrev pub told_of : {X : Type 0} → (ℕ → ℕ → X) → Verdict → X → X
told_of who accepted next = next
told_of who (refused number place) next = who number place

unfoldable pub first_fault : {X : Type 0} → (X → Bool) → ℕ → ℕ → List X → Verdict
first_fault ok number i [] = accepted
first_fault ok number i (x ∷ xs) = cond (ok x) (first_fault ok number (suc i) xs) (refused number i)
