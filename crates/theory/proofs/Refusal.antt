-- Verdicts: when a list of them, or a search for a fault, ends without a refusal, and where it ends with one.
use Rattle.std.proofs.Common.{◌≡◌, ℕ, zero, suc, ◌+◌, ◌<◌, ◌≤◌, get_or, Bool, true, false, not, cond, ltb, List, [], ◌∷◌, map, length, Some, Option, MatchOption, sym, refl, ap, ◌∙◌, subst, add-one, arith}
use Rattle.std.specs.List.{position, position_from}
use Rattle.std.proofs.lemmas.Iterator.Adapters.{position_from-zero}
use Rattle.std.proofs.lemmas.Bool.{ltb-false, le-ltb}
use Rattle.std.specs.List.{AllByRecursion as All}
use Rattle.theory.specs.Refusal.{Verdict, accepted, refused, refuse_if, first_refusal, first_fault}

pub no_refusal : (number at : ℕ) → refused number at ≡ accepted → ⊥
no_refusal number at e = let z : ◌≡◌ {A = ℕ} 0 1 = cc in omega arith

-- two refusals that are the same have one number
pub refused_number : (n p i j : ℕ) → refused n p ≡ refused i j → n ≡ i
refused_number n p i j e = cc

pub first_accepted : (v : Verdict) (vs : List Verdict) → first_refusal (v ∷ vs) ≡ accepted → (v ≡ accepted) × (first_refusal vs ≡ accepted)
first_accepted accepted vs e = (refl, e)
first_accepted (refused number at) vs e = absurd (no_refusal number at e)

pub all_accepted : (v : Verdict) (vs : List Verdict) → v ≡ accepted → first_refusal vs ≡ accepted → first_refusal (v ∷ vs) ≡ accepted
all_accepted accepted vs e f = f
all_accepted (refused number at) vs e f = absurd (no_refusal number at e)

pub not_refused : (b : Bool) (number at : ℕ) → refuse_if b number at ≡ accepted → b ≡ false
not_refused true number at e = absurd (no_refusal number at e)
not_refused false number at e = refl

pub no_fault : {X : Type 0} (ok : X → Bool) (number i : ℕ) (xs : List X) → first_fault ok number i xs ≡ accepted → All (λ x. ok x ≡ true) xs
unfolding first_fault
no_fault ok number i [] e = tt
no_fault ok number i (x ∷ xs) e = go (ok x) refl (λ f. no_fault ok number (suc i) xs f)
  where
    go : (b : Bool) → ok x ≡ b → (first_fault ok number (suc i) xs ≡ accepted → All (λ x. ok x ≡ true) xs) → All (λ x. ok x ≡ true) (x ∷ xs)
    go true t ih = (t, ih (cc))
    go false t ih = let f : refused number i ≡ accepted = cc in absurd (no_refusal number i f)

pub fault_none : {X : Type 0} (ok : X → Bool) (number i : ℕ) (xs : List X) → All (λ x. ok x ≡ true) xs → first_fault ok number i xs ≡ accepted
unfolding first_fault
fault_none ok number i [] h = refl
fault_none ok number i (x ∷ xs) h = let a = h.0 in let ih = fault_none ok number (suc i) xs h.1 in cc

-- one verdict, and a whole list of them
pub first_only : (v : Verdict) → first_refusal (v ∷ []) ≡ v
first_only accepted = refl
first_only (refused number at) = refl

pub each_accepted : (vs : List Verdict) → first_refusal vs ≡ accepted → All (λ v. v ≡ accepted) vs
each_accepted [] e = tt
each_accepted (v ∷ vs) e = let a = first_accepted v vs e in (a.0, each_accepted vs a.1)

pub accepted_from_each : (vs : List Verdict) → All (λ v. v ≡ accepted) vs → first_refusal vs ≡ accepted
accepted_from_each [] h = refl
accepted_from_each (v ∷ vs) h = all_accepted v vs h.0 (accepted_from_each vs h.1)

-- a bound that is kept
pub bound_kept : (bound n number at : ℕ) → refuse_if (ltb bound n) number at ≡ accepted → n ≤ bound
bound_kept bound n number at e = ltb-false bound n (not_refused (ltb bound n) number at e)

pub bound_accepted : (bound n number at : ℕ) → n ≤ bound → refuse_if (ltb bound n) number at ≡ accepted
bound_accepted bound n number at h = ap (λ b. refuse_if b number at) (le-ltb bound n h)

-- a search for a fault, of what is mapped, and by another test that says the same
pub fault_map : {X Y : Type 0} (number : ℕ) (f : X → Y) (ok : Y → Bool) (i : ℕ) (xs : List X) → first_fault ok number i (map f xs) ≡ first_fault (λ x. ok (f x)) number i xs
unfolding first_fault
fault_map number f ok i [] = refl
fault_map number f ok i (x ∷ xs) = ap (λ v. cond (ok (f x)) v (refused number i)) (fault_map number f ok (suc i) xs)

pub fault_same : {X : Type 0} (number : ℕ) (ok good : X → Bool) (i : ℕ) (xs : List X) → All (λ x. ok x ≡ good x) xs → first_fault ok number i xs ≡ first_fault good number i xs
unfolding first_fault
fault_same number ok good i [] h = refl
fault_same number ok good i (x ∷ xs) h = let e = h.0 in let ih = fault_same number ok good (suc i) xs h.1 in cc

-- the verdict that the place of the first fault tells, or that there is none
abbrev pub Tells : ℕ → Verdict → Option ℕ → Type 0
Tells number v r = MatchOption r (accepted ≡ v) (λ i. refused number i ≡ v)

fault_from : {X : Type 0} (number : ℕ) (ok : X → Bool) (i : ℕ) (xs : List X) → Tells number (first_fault ok number i xs) (position_from (λ x. not (ok x)) i xs)
unfolding first_fault
fault_from number ok i [] = refl
fault_from number ok i (x ∷ xs) = rw add-one (go (ok x) (fault_from number ok (suc i) xs))
  where
    go : (b : Bool) → Tells number (first_fault ok number (suc i) xs) (position_from (λ x. not (ok x)) (suc i) xs) →
        Tells number (cond b (first_fault ok number (suc i) xs) (refused number i)) (cond (not b) (Some i) (position_from (λ x. not (ok x)) (suc i) xs))
    go true h = h
    go false h = refl

pub fault_told : {X : Type 0} (number : ℕ) (ok : X → Bool) (xs : List X) → Tells number (first_fault ok number 0 xs) (position (λ x. not (ok x)) xs)
fault_told number ok xs = subst (Tells number (first_fault ok number 0 xs)) (sym (position_from-zero (λ x. not (ok x)) xs)) (fault_from number ok 0 xs)

-- the first fault is at the place k if all before it are right
pub fault_at : {X : Type 0} (number : ℕ) (ok : X → Bool) (d : X) (i : ℕ) (xs : List X) (k : ℕ) → k < length xs → ((j : ℕ) → j < k → ok (get_or xs j d) ≡ true) → ok (get_or xs k d) ≡ false →
    first_fault ok number i xs ≡ refused number (i + k)
unfolding first_fault
fault_at number ok d i [] k l h e = absurd (omega arith)
fault_at number ok d i (x ∷ xs) zero l h e = let z : i + 0 ≡ i = omega arith in rw (e, z) refl
fault_at number ok d i (x ∷ xs) (suc k) l h e =
    let a : ok x ≡ true = h 0 (omega arith) in
    let ih = fault_at number ok d (suc i) xs k (omega arith) (λ j m. h (suc j) (omega arith)) e in
    let z : suc i + k ≡ i + suc k = omega arith in rw a (ih ∙ ap (refused number) z)
