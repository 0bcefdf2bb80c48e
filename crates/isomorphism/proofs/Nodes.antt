-- Leading places back to the nodes that have them, one node after the other.
--
-- The idea: of the nodes so far the first that has a place is the one that was written there, and where none has it still stands the count. So a
-- place is taken exactly if something else stands there.
use Rattle.std.proofs.Common.{◌≡◌, ◌≢◌, ℕ, ◌+◌, ◌<◌, ◌≤◌, ◌⊎◌, inl, inr, Bool, true, false, not, cond, eqb, ltb, [], ◌∷◌, length, take, set, get_or, replicate, sym, refl, ap, ◌∙◌, subst, arith}
use Rattle.std.proofs.lemmas.Bool.{cases_Bool, cases_eq, and_from, lt-ltb, le-ltb, ltb-true, eqb-true, eq-eqb}
use Rattle.std.proofs.lemmas.List.{get_or-set_same, get_or-set_other, get_or-replicate, length-set, length-replicate, take_more, length-take-le}
use Rattle.std.proofs.lemmas.List.FromFn.{length-range_with_len, get_or-range_with_len}
use Rattle.theory.specs.Row.{Row}
use Rattle.theory.specs.Lists.{numbers, member, index_of}
use Rattle.theory.specs.Isomorphism.{place}
use Rattle.theory.specs.Refusal.{accepted, refused, first_fault}
use Rattle.theory.specs.Encoding.{most_blanks, place_fits}
use Rattle.theory.proofs.Lists.{number_decider, member_append, index_of_append, index_below, index_absent, member_numbers, member_all}
use Rattle.theory.proofs.Refusal.{fault_at, fault_none}
use Rattle.isomorphism.specs.Back.{Back}

module _ (n m : ℕ) (p : Row) where
  -- the first k nodes have places of their own, and these places are led back
  pub record BackSoFar (k : ℕ) (back : Row) : Type 0 where
    pub fit : (j : ℕ) → j < k → place_fits m p j ≡ true
    pub within : k ≤ length p
    pub long : length back ≡ most_blanks
    pub is : (x : ℕ) → x < most_blanks → place back x ≡ cond (member eqb x (take k p)) (index_of eqb x (take k p)) n

  pub back_none : BackSoFar 0 (replicate most_blanks n)
  unfolding member
  back_none =
      record {
        fit = λ j l. absurd (omega arith);
        within = omega arith;
        long = length-replicate {A = ℕ} most_blanks n;
        is = λ x l. get_or-replicate {A = ℕ} most_blanks x n 0 l;
      }

  module _ (k : ℕ) (back : Row) (h : BackSoFar k back) where
    abbrev pub taken : ℕ → Bool
    taken x = member eqb x (take k p)

    -- what stands at a number tells whether it is taken
    pub stands : k < n → (x : ℕ) → x < most_blanks → (place back x ≡ n → taken x ≡ false) × (place back x ≢ n → taken x ≡ true)
    stands l x b = go (cases_Bool (taken x))
      where
        go : (taken x ≡ true) ⊎ (taken x ≡ false) → (place back x ≡ n → taken x ≡ false) × (place back x ≢ n → taken x ≡ true)
        go (inl t) =
            let e = h.is x b ∙ ap (λ z. cond z (index_of eqb x (take k p)) n) t in
            let i = index_below eqb number_decider x (take k p) t in let c = length-take-le k p h.within in
            (λ f. absurd (omega arith), λ f. t)
        go (inr t) = let e = h.is x b ∙ ap (λ z. cond z (index_of eqb x (take k p)) n) t in (λ f. t, λ f. absurd (f e))

    back_more : k < n → k < length p → place p k < m → m ≤ most_blanks → place back (place p k) ≡ n → BackSoFar (k + 1) (set back (place p k) k)
    unfolding member index_of
    back_more l w b few free =
        let new = (stands l (place p k) (omega arith)).0 free in
        record {
          fit = λ j i. go j i (cases_eq j k) new;
          within = omega arith;
          long = length-set back (place p k) k ∙ h.long;
          is = λ x c. back_at x c new (cases_eq x (place p k));
        }
      where
        go : (j : ℕ) → j < k + 1 → (j ≡ k) ⊎ (j ≢ k) → taken (place p k) ≡ false → place_fits m p j ≡ true
        go j i (inl e) new =
            subst (λ j. place_fits m p j ≡ true) (sym e)
            (and_from (ltb k (length p)) _ (lt-ltb k (length p) w) (and_from (ltb (place p k) m) _ (lt-ltb (place p k) m b) (ap not new)))
        go j i (inr e) new = h.fit j (omega arith)

        back_at : (x : ℕ) → x < most_blanks → taken (place p k) ≡ false → (x ≡ place p k) ⊎ (x ≢ place p k) →
            place (set back (place p k) k) x ≡ cond (member eqb x (take (k + 1) p)) (index_of eqb x (take (k + 1) p)) n
        back_at x c new (inl e) =
            let t = take_more p k 0 w in
            let size = length-take-le k p h.within in
            let a = member_append eqb number_decider x (take k p) (place p k ∷ []) in
            let b = index_of_append eqb number_decider x (take k p) (place p k ∷ []) in
            let f = eq-eqb x (place p k) e in
            let s = subst (λ x. place (set back (place p k) k) x ≡ k) (sym e) (get_or-set_same back (place p k) k 0 (let z = h.long in omega arith)) in
            let u : taken x ≡ false = subst (λ x. taken x ≡ false) (sym e) new in
            rw t (grind arith)
        back_at x c new (inr e) =
            let t = take_more p k 0 w in
            let a = member_append eqb number_decider x (take k p) (place p k ∷ []) in
            let b = index_of_append eqb number_decider x (take k p) (place p k ∷ []) in
            let s = get_or-set_other back (place p k) x k 0 e in
            let o = h.is x c in
            let u = cases_Bool (taken x) in let v = cases_Bool (eqb x (place p k)) in
            let z = eqb-true x (place p k) in
            rw t (grind arith)

    -- the same with the place as it is read, and where it is taken
    pub back_at_place : (v : ℕ) → v ≡ place p k → k < n → k < length p → v < m → m ≤ most_blanks → place back v ≡ n → BackSoFar (k + 1) (set back v k)
    back_at_place v e l w b few free =
        subst (λ v. v < m → place back v ≡ n → BackSoFar (k + 1) (set back v k)) (sym e) (λ b free. back_more l w b few free) b free

    -- the node that comes next is at fault
    pub back_fault : k < n → place_fits m p k ≡ false → refused 6 k ≡ first_fault (place_fits m p) 6 0 (numbers n)
    back_fault l f =
        let c = length-range_with_len 0 n in
        let at : get_or (numbers n) k 0 ≡ k = get_or-range_with_len 0 n k 0 l ∙ omega arith in
        let z : 0 + k ≡ k = omega arith in
        ap (refused 6) (sym z)
        ∙ sym (fault_at 6 (place_fits m p) 0 0 (numbers n) k (omega arith)
        (λ j i. subst (λ j. place_fits m p j ≡ true) (sym (get_or-range_with_len 0 n j 0 (omega arith) ∙ omega arith)) (h.fit j i))
        (subst (λ k. place_fits m p k ≡ false) (sym at) f))

    -- it has no place, or one that is too large, or one that is taken
    pub no_place : length p ≤ k → place_fits m p k ≡ false
    no_place l = let a = le-ltb k (length p) l in rw a refl

    pub place_beyond : (v : ℕ) → v ≡ place p k → m ≤ v → place_fits m p k ≡ false
    place_beyond v e l = let a = le-ltb (place p k) m (omega arith) in let b = cases_Bool (ltb k (length p)) in grind arith

    pub place_taken : (v : ℕ) → v ≡ place p k → k < n → v < m → m ≤ most_blanks → place back v ≢ n → place_fits m p k ≡ false
    place_taken v e l b few other =
        let t = (stands l (place p k) (omega arith)).1 (λ f. other (ap (place back) e ∙ f)) in
        let c = cases_Bool (ltb k (length p)) in let d = cases_Bool (ltb (place p k) m) in grind arith

    pub back_all : k ≡ n → (accepted ≡ first_fault (place_fits m p) 6 0 (numbers n)) × Back n p back
    back_all e = (
      sym (fault_none (place_fits m p) 6 0 (numbers n)
          (member_all eqb number_decider (λ j. place_fits m p j ≡ true) (numbers n) (λ j i. h.fit j (let l = ltb-true j n (sym (member_numbers n j) ∙ i) in omega arith)))),
      λ x b. subst (λ k. place back x ≡ index_of eqb x (take k p)) e (at x b (cases_Bool (taken x))),
    )
      where
        at : (x : ℕ) → x < most_blanks → (taken x ≡ true) ⊎ (taken x ≡ false) → place back x ≡ index_of eqb x (take k p)
        at x b (inl t) = h.is x b ∙ ap (λ z. cond z (index_of eqb x (take k p)) n) t
        at x b (inr t) =
            h.is x b ∙ ap (λ z. cond z (index_of eqb x (take k p)) n) t ∙ sym e ∙ sym (length-take-le k p h.within)
            ∙ sym (index_absent eqb number_decider x (take k p) t)
