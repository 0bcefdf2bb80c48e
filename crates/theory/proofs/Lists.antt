-- Lists as finite collections: members and repeats. `Decider same` says that the test `same` is equality, `Apart` that no element comes
-- again; everything is stated of the test `member`, a Bool, so that `grind` can reason with it.
use Rattle.std.proofs.Common.{◌≡◌, ℕ, zero, suc, ◌+◌, ◌<◌, ◌≤◌, Bool, true, false, cond, ◌&&◌, eqb, ltb, leb, ◌⊎◌, List, [], ◌∷◌, ◌++◌, map, length, get_or, filter, sym, refl, ap, ◌∙◌, subst, inl, inr, arith}
use Rattle.std.specs.List.{AllByRecursion as All, range_with_len}
use Rattle.std.proofs.lemmas.Bool.{cases_Bool, cases_eq, eqb-true, eq-eqb}
use Rattle.std.proofs.lemmas.Bool.Decides.{nat_tests}
use Rattle.theory.specs.Lists.{numbers, member, count, index_of, distinct, EachOnce}

-- `same` is equality
pub record Decider {X : Type 0} (same : X → X → Bool) : Type 0 where
  pub sound : (x y : X) → same x y ≡ true → x ≡ y
  pub itself : (x : X) → same x x ≡ true

pub number_decider : Decider eqb
number_decider = record { sound = eqb-true; itself = λ x. eq-eqb x x refl }

-- without the first x
unfoldable pub without : {X : Type 0} → (X → X → Bool) → X → List X → List X
without same x [] = []
without same x (y ∷ ys) = cond (same x y) ys (y ∷ without same x ys)

-- no element comes again
abbrev pub Apart : {X : Type 0} → (X → X → Bool) → List X → Type 0
Apart same [] = Unit {0}
Apart same (x ∷ xs) = (member same x xs ≡ false) × Apart same xs

-- a member is what is there at least once
pub member_count : {X : Type 0} (same : X → X → Bool) (x : X) (l : List X) → member same x l ≡ ltb 0 (count same x l)
unfolding member count
member_count same x [] = refl
member_count same x (y ∷ ys) = let ih = member_count same x ys in let t = cases_Bool (same x y) in grind (arith, nat_tests)

module _ {X : Type 0} (same : X → X → Bool) (d : Decider same) where
  -- what the test of two elements says, for `grind`
  pub same_tells : (x y : X) → ((same x y ≡ true) × (x ≡ y)) ⊎ ((same x y ≡ false) × (x ≡ y → ⊥))
  same_tells x y = go (same x y) refl
    where
      go : (b : Bool) → same x y ≡ b → ((same x y ≡ true) × (x ≡ y)) ⊎ ((same x y ≡ false) × (x ≡ y → ⊥))
      go true e = inl (e, d.sound x y e)
      go false e = inr (e, λ p. let a = d.itself x in let z : ◌≡◌ {A = ℕ} 0 1 = cc in omega arith)

  pub member_here : (x : X) (l : List X) → member same x (x ∷ l) ≡ true
  unfolding member
  member_here x l = let a = d.itself x in cc

  pub member_later : (x y : X) (l : List X) → member same x l ≡ true → member same x (y ∷ l) ≡ true
  unfolding member
  member_later x y l h = let t = cases_Bool (same x y) in grind arith

  pub member_append : (x : X) (l m : List X) → member same x (l ++ m) ≡ cond (member same x l) true (member same x m)
  unfolding member
  member_append x [] m = refl
  member_append x (y ∷ ys) m = let ih = member_append x ys m in let t = cases_Bool (same x y) in grind arith

  -- a member stands at some place, and what stands at a place is a member
  pub member_at : (o : X) (x : X) (l : List X) → member same x l ≡ true → (i : ℕ) × (i < length l) × (get_or l i o ≡ x)
  unfolding member
  member_at o x [] h = let z : ◌≡◌ {A = ℕ} 0 1 = cc in absurd (omega arith)
  member_at o x (y ∷ ys) h = go (same x y) refl (λ m. member_at o x ys m)
    where
      go : (b : Bool) → same x y ≡ b → (member same x ys ≡ true → (i : ℕ) × (i < length ys) × (get_or ys i o ≡ x)) → (i : ℕ) × (i < length (y ∷ ys)) × (get_or (y ∷ ys) i o ≡ x)
      go true e ih = (0, omega arith, sym (d.sound x y e))
      go false e ih = let (i, p, q) = ih (cc) in (suc i, omega arith, q)

  pub at_member : (o : X) (l : List X) (i : ℕ) → i < length l → member same (get_or l i o) l ≡ true
  at_member o [] i h = absurd (omega arith)
  at_member o (y ∷ ys) zero h = member_here y ys
  at_member o (y ∷ ys) (suc i) h = member_later (get_or ys i o) y ys (at_member o ys i (omega arith))

  pub all_member : (P : X → Type 0) (l : List X) (x : X) → All P l → member same x l ≡ true → P x
  unfolding member
  all_member P [] x a h = let z : ◌≡◌ {A = ℕ} 0 1 = cc in absurd (omega arith)
  all_member P (y ∷ ys) x a h = go (same x y) refl (λ m. all_member P ys x a.1 m)
    where
      go : (b : Bool) → same x y ≡ b → (member same x ys ≡ true → P x) → P x
      go true e ih = subst P (sym (d.sound x y e)) a.0
      go false e ih = ih (cc)

  pub member_all : (P : X → Type 0) (l : List X) → ((x : X) → member same x l ≡ true → P x) → All P l
  member_all P [] h = tt
  member_all P (y ∷ ys) h = (h y (member_here y ys), member_all P ys (λ x m. h x (member_later x y ys m)))

  -- two tests of membership agree if each implies the other
  pub member_same : (l m : List X) → ((x : X) → member same x l ≡ true → member same x m ≡ true) → ((x : X) → member same x m ≡ true → member same x l ≡ true) →
      (x : X) → member same x l ≡ member same x m
  member_same l m p q x =
      let a = cases_Bool (member same x l) in let b = cases_Bool (member same x m) in
      let u = p x in let v = q x in grind arith

  pub apart_append : (l m : List X) → Apart same l → Apart same m → ((x : X) → member same x l ≡ true → member same x m ≡ false) → Apart same (l ++ m)
  apart_append [] m p q h = q
  apart_append (x ∷ xs) m p q h = (
    (let a = member_append x xs m in let b = h x (member_here x xs) in let c = p.0 in cc),
    apart_append xs m p.1 q (λ y k. h y (member_later y x xs k)),
  )

  pub once_from_apart : (o : X) (l : List X) → Apart same l → EachOnce o l
  once_from_apart o [] a i j p q e = absurd (omega arith)
  once_from_apart o (x ∷ xs) a zero zero p q e = refl
  once_from_apart o (x ∷ xs) a zero (suc j) p q e = let b = at_member o xs j (omega arith) in let c = a.0 in cc
  once_from_apart o (x ∷ xs) a (suc i) zero p q e = let b = at_member o xs i (omega arith) in let c = a.0 in cc
  once_from_apart o (x ∷ xs) a (suc i) (suc j) p q e = ap suc (once_from_apart o xs a.1 i j (omega arith) (omega arith) e)

  pub apart_from_once : (o : X) (l : List X) → EachOnce o l → Apart same l
  apart_from_once o [] h = tt
  apart_from_once o (x ∷ xs) h = (go (cases_Bool (member same x xs)), apart_from_once o xs (λ i j p q e. let z = h (suc i) (suc j) (omega arith) (omega arith) e in omega arith))
    where
      go : (member same x xs ≡ true) ⊎ (member same x xs ≡ false) → member same x xs ≡ false
      go (inr e) = e
      go (inl e) = let (i, p, q) = member_at o x xs e in let z = h 0 (suc i) (omega arith) (omega arith) (sym q) in absurd (omega arith)

  -- each element once
  pub member_distinct : (x : X) (l : List X) → member same x (distinct same l) ≡ member same x l
  unfolding member distinct
  member_distinct x [] = refl
  member_distinct x (y ∷ ys) = let ih = member_distinct x ys in let a = same_tells x y in let t = cases_Bool (member same y ys) in grind arith

  pub apart_distinct : (l : List X) → Apart same (distinct same l)
  unfolding distinct
  apart_distinct [] = tt
  apart_distinct (y ∷ ys) = go (member same y ys) refl (apart_distinct ys)
    where
      go : (b : Bool) → member same y ys ≡ b → Apart same (distinct same ys) → Apart same (cond b (distinct same ys) (y ∷ distinct same ys))
      go true e ih = ih
      go false e ih = (member_distinct y ys ∙ e, ih)

  -- taking one out
  pub without_member : (x y : X) (l : List X) → member same y (without same x l) ≡ true → member same y l ≡ true
  unfolding member without
  without_member x y [] h = h
  without_member x y (z ∷ zs) h = let ih = without_member x y zs in let a = same_tells x z in let b = same_tells y z in grind arith

  pub without_other : (x y : X) (l : List X) → same y x ≡ false → member same y (without same x l) ≡ member same y l
  unfolding member without
  without_other x y [] h = refl
  without_other x y (z ∷ zs) h =
      let ih = without_other x y zs h in
      let a = same_tells x z in let b = same_tells y z in let c = same_tells y x in grind arith

  pub without_itself : (x : X) (l : List X) → Apart same l → member same x (without same x l) ≡ false
  unfolding member without
  without_itself x [] h = refl
  without_itself x (z ∷ zs) h = let ih = without_itself x zs h.1 in let a = same_tells x z in grind arith

  pub apart_without : (x : X) (l : List X) → Apart same l → Apart same (without same x l)
  unfolding without
  apart_without x [] h = tt
  apart_without x (z ∷ zs) h = go (same x z) (apart_without x zs h.1)
    where
      go : (b : Bool) → Apart same (without same x zs) → Apart same (cond b zs (z ∷ without same x zs))
      go true ih = h.1
      go false ih = (let a = without_member x z zs in let c = h.0 in let t = cases_Bool (member same z (without same x zs)) in grind arith, ih)

  pub length_without : (x : X) (l : List X) → length l ≤ suc (length (without same x l))
  unfolding without
  length_without x [] = omega arith
  length_without x (y ∷ ys) = let ih = length_without x ys in let t = cases_Bool (same x y) in grind arith

  -- the place of the first x
  pub index_below : (x : X) (l : List X) → member same x l ≡ true → index_of same x l < length l
  unfolding member index_of
  index_below x [] h = grind arith
  index_below x (y ∷ ys) h = let ih = index_below x ys in let t = cases_Bool (same x y) in grind arith

  pub index_member : (x : X) (l : List X) → index_of same x l < length l → member same x l ≡ true
  unfolding member index_of
  index_member x [] h = absurd (omega arith)
  index_member x (y ∷ ys) h = let ih = index_member x ys in let t = cases_Bool (same x y) in grind arith

  pub index_absent : (x : X) (l : List X) → member same x l ≡ false → index_of same x l ≡ length l
  unfolding member index_of
  index_absent x [] h = refl
  index_absent x (y ∷ ys) h = let ih = index_absent x ys in let t = cases_Bool (same x y) in grind arith

  pub get_or_index : (o x : X) (l : List X) → member same x l ≡ true → get_or l (index_of same x l) o ≡ x
  unfolding member index_of
  get_or_index o x [] h = let z : ◌≡◌ {A = ℕ} 0 1 = cc in absurd (omega arith)
  get_or_index o x (y ∷ ys) h = go (same x y) refl (λ m. get_or_index o x ys m)
    where
      go : (b : Bool) → same x y ≡ b → (member same x ys ≡ true → get_or ys (index_of same x ys) o ≡ x) → get_or (y ∷ ys) (cond b 0 (suc (index_of same x ys))) o ≡ x
      go true e ih = sym (d.sound x y e)
      go false e ih = ih (cc)

  pub index_of_append : (x : X) (l m : List X) → index_of same x (l ++ m) ≡ cond (member same x l) (index_of same x l) (length l + index_of same x m)
  unfolding member index_of
  index_of_append x [] m = omega arith
  index_of_append x (y ∷ ys) m =
      let ih = index_of_append x ys m in let t = cases_Bool (same x y) in let u = cases_Bool (member same x ys) in grind arith

  -- what a test keeps
  pub member_kept : (p : X → Bool) (x : X) (l : List X) → member same x (filter p l) ≡ cond (member same x l) (p x) false
  unfolding member
  member_kept p x [] = refl
  member_kept p x (y ∷ ys) =
      let ih = member_kept p x ys in let a = same_tells x y in
      let t = cases_Bool (p y) in let u = cases_Bool (member same x ys) in grind arith

  pub apart_kept : (p : X → Bool) (l : List X) → Apart same l → Apart same (filter p l)
  apart_kept p [] h = tt
  apart_kept p (y ∷ ys) h = go (p y) (apart_kept p ys h.1)
    where
      go : (b : Bool) → Apart same (filter p ys) → Apart same (cond b (y ∷ filter p ys) (filter p ys))
      go true ih = (let a = member_kept p y ys in let e = h.0 in cc, ih)
      go false ih = ih

-- a list without repeats is the list of its different elements
pub distinct_apart : {X : Type 0} (same : X → X → Bool) (l : List X) → Apart same l → distinct same l ≡ l
unfolding distinct
distinct_apart same [] a = refl
distinct_apart same (x ∷ xs) a = let h = a.0 in let ih = distinct_apart same xs a.1 in cc

-- a mapped list
module _ {X Y : Type 0} (same : X → X → Bool) (d : Decider same) (same' : Y → Y → Bool) (d' : Decider same') (f : X → Y) where
  pub member_map : (x : X) (l : List X) → member same x l ≡ true → member same' (f x) (map f l) ≡ true
  unfolding member
  member_map x [] h = cc
  member_map x (y ∷ ys) h =
      let ih = member_map x ys in let a = same_tells same d x y in
      let b = same_tells same' d' (f x) (f y) in grind arith

  pub map_member : (y : Y) (l : List X) → member same' y (map f l) ≡ true → (x : X) × (member same x l ≡ true) × (f x ≡ y)
  unfolding member
  map_member y [] h = let z : ◌≡◌ {A = ℕ} 0 1 = cc in absurd (omega arith)
  map_member y (x ∷ xs) h = go (same' y (f x)) refl (λ m. map_member y xs m)
    where
      go : (b : Bool) → same' y (f x) ≡ b → (member same' y (map f xs) ≡ true → (x : X) × (member same x xs ≡ true) × (f x ≡ y)) → (x' : X) × (member same x' (x ∷ xs) ≡ true) × (f x' ≡ y)
      go true e ih = (x, member_here same d x xs, sym (d'.sound y (f x) e))
      go false e ih = let (x', p, q) = ih (cc) in (x', member_later same d x' x xs p, q)

  pub apart_map : (l : List X) → Apart same l → ((x y : X) → member same x l ≡ true → member same y l ≡ true → f x ≡ f y → x ≡ y) → Apart same' (map f l)
  apart_map [] a h = tt
  apart_map (x ∷ xs) a h = (
    go (cases_Bool (member same' (f x) (map f xs))),
    apart_map xs a.1 (λ y z p q e. h y z (member_later same d y x xs p) (member_later same d z x xs q) e),
  )
    where
      go : (member same' (f x) (map f xs) ≡ true) ⊎ (member same' (f x) (map f xs) ≡ false) → member same' (f x) (map f xs) ≡ false
      go (inr e) = e
      go (inl e) =
          let (y, p, q) = map_member (f x) xs e in
          let w = h y x (member_later same d y x xs p) (member_here same d x xs) q in
          let z = a.0 in cc

-- the numbers below n
pub member_counting : (b n k : ℕ) → member eqb k (range_with_len b n) ≡ (leb b k && ltb k (b + n))
unfolding member
member_counting b zero k = grind (arith, nat_tests)
member_counting b (suc n) k = let ih = member_counting (b + 1) n k in grind (arith, nat_tests)

pub member_numbers : (n k : ℕ) → member eqb k (numbers n) ≡ ltb k n
member_numbers n k = let a = member_counting 0 n k in grind (arith, nat_tests)

pub apart_counting : (b n : ℕ) → Apart eqb (range_with_len b n)
apart_counting b zero = tt
apart_counting b (suc n) = (let a = member_counting (b + 1) n b in grind (arith, nat_tests), apart_counting (b + 1) n)

-- numbers below n without repeats are n at most
pub pigeons : (n : ℕ) (l : List ℕ) → Apart eqb l → ((x : ℕ) → member eqb x l ≡ true → x < n) → length l ≤ n
pigeons n [] a h = omega arith
pigeons zero (x ∷ xs) a h = absurd (let p = h x (member_here eqb number_decider x xs) in omega arith)
pigeons (suc n) (x ∷ xs) a h =
    let w = length_without eqb number_decider n (x ∷ xs) in
    let ih = pigeons n (without eqb n (x ∷ xs)) (apart_without eqb number_decider n (x ∷ xs) a)
    (λ y m. let p = h y (without_member eqb number_decider n y (x ∷ xs) m) in
    let q = without_itself eqb number_decider n (x ∷ xs) a in
    go y p q m (cases_eq y n)) in
    omega arith
  where
    go : (y : ℕ) → y < suc n → member eqb n (without eqb n (x ∷ xs)) ≡ false → member eqb y (without eqb n (x ∷ xs)) ≡ true → (y ≡ n) ⊎ (y ≡ n → ⊥) → y < n
    go y p q m (inl e) = let z : ◌≡◌ {A = ℕ} 0 1 = cc in omega arith
    go y p q m (inr e) = omega arith

-- two members are two places; and where there are several, there is another
pub two_members : (l : List ℕ) (i j : ℕ) → (i ≡ j → ⊥) → member eqb i l ≡ true → member eqb j l ≡ true → 1 < length l
unfolding member
two_members [] i j n h k = grind (arith, nat_tests)
two_members (x ∷ []) i j n h k = grind (arith, nat_tests)
two_members (x ∷ y ∷ l) i j n h k = omega arith

pub another_member : (l : List ℕ) → Apart eqb l → 1 < length l → (i : ℕ) → (j : ℕ) × (member eqb j l ≡ true) × (i ≡ j → ⊥)
unfolding member
another_member [] a h i = absurd (omega arith)
another_member (x ∷ []) a h i = absurd (omega arith)
another_member (x ∷ y ∷ l) a h i = go (cases_eq i x)
  where
    go : (i ≡ x) ⊎ (i ≡ x → ⊥) → (j : ℕ) × (member eqb j (x ∷ y ∷ l) ≡ true) × (i ≡ j → ⊥)
    go (inl e) = (y, grind (arith, nat_tests), let p = a.0 in grind (arith, nat_tests))
    go (inr e) = (x, grind (arith, nat_tests), e)
