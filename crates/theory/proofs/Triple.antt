-- What the rest needs of a triple's shape: rows tell triples apart and write them down, relabelling follows the mapping, and what a blank
-- node sees of a triple goes along with a one-to-one mapping.
use Rattle.std.proofs.Common.{◌≡◌, ℕ, zero, suc, ◌<◌, true, ◌∷◌, ◌++◌, length, ltb, get_or, sym, refl, ap, ◌∙◌, arith}
use Rattle.std.proofs.lemmas.Bool.{and_parts, and_from, ltb-true, lt-ltb}
use Rattle.std.proofs.lemmas.Bool.Decides.{nat_tests}
use Rattle.theory.specs.Row.{Row}
use Rattle.theory.specs.Colouring.{Colouring, Agree}
use Rattle.theory.specs.Triple.{Term, named, blank, Triple, width, term_row, triple_row, term_of, triple_of, term_fits, name_fits, triple_fits, same_triple, relabel_term, relabel, TermWithin, Within, is_blank, seen, incidences}
use Rattle.theory.proofs.Row.{same_row_true, same_row_refl}
use Rattle.theory.proofs.Lists.{Decider}

-- a row writes its triple down
pub triple_of_row : (t : Triple) → triple_of (triple_row t) ≡ t
unfolding triple_of triple_row term_row term_of
triple_of_row t = go t.subject t.predicate t.object
  where
    go : (s : Term) (p : ℕ) (o : Term) → triple_of (term_row s ++ p ∷ term_row o) ≡ record { subject = s; predicate = p; object = o }
    go (named m) p (named n) = refl
    go (named m) p (blank n) = refl
    go (blank m) p (named n) = refl
    go (blank m) p (blank n) = refl

pub triple_row_apart : (s t : Triple) → triple_row s ≡ triple_row t → s ≡ t
triple_row_apart s t e = sym (triple_of_row s) ∙ ap triple_of e ∙ triple_of_row t

pub length_triple_row : (t : Triple) → length (triple_row t) ≡ width
unfolding triple_row term_row
length_triple_row t = go t.subject t.predicate t.object
  where
    go : (s : Term) (p : ℕ) (o : Term) → length (term_row s ++ p ∷ term_row o) ≡ width
    go (named m) p (named n) = refl
    go (named m) p (blank n) = refl
    go (blank m) p (named n) = refl
    go (blank m) p (blank n) = refl

pub triple_decider : Decider same_triple
unfolding same_triple
triple_decider = record { sound = λ s t h. triple_row_apart s t (same_row_true (triple_row s) (triple_row t) h); itself = λ t. same_row_refl (triple_row t) }

-- a row that fits writes a triple of blank nodes below n
pub term_fits_within : (n kind x : ℕ) → term_fits n kind x ≡ true → TermWithin n (term_of kind x)
unfolding term_of
term_fits_within n zero x h = tt
term_fits_within n (suc zero) x h = ltb-true x n h
term_fits_within n (suc (suc kind)) x h = let z : ◌≡◌ {A = ℕ} 0 1 = cc in absurd (omega arith)

pub fits_within : (n : ℕ) (r : Row) → triple_fits n r ≡ true → Within n (triple_of r)
unfolding triple_of
fits_within n r h =
    let a = and_parts _ _ h in
    let b = and_parts _ _ a.1 in
    (term_fits_within n (get_or r 0 0) (get_or r 1 0) a.0, term_fits_within n (get_or r 3 0) (get_or r 4 0) b.1)

-- relabelling
pub term_id : (x : Term) → relabel_term (λ k. k) x ≡ x
unfolding relabel_term
term_id (named m) = refl
term_id (blank k) = refl

pub relabel_id : (t : Triple) → relabel (λ k. k) t ≡ t
unfolding relabel
relabel_id t = let p = term_id t.subject in let q = term_id t.object in λ i. record { subject = p i; predicate = t.predicate; object = q i }

pub term_after : (n : ℕ) (f g to : ℕ → ℕ) → ((k : ℕ) → k < n → g (to k) ≡ f k) → (x : Term) → TermWithin n x → relabel_term g (relabel_term to x) ≡ relabel_term f x
unfolding relabel_term
term_after n f g to e (named m) h = refl
term_after n f g to e (blank k) h = ap blank (e k h)

-- one mapping after another
pub relabel_after : (n : ℕ) (f g to : ℕ → ℕ) → ((k : ℕ) → k < n → g (to k) ≡ f k) → (t : Triple) → Within n t → relabel g (relabel to t) ≡ relabel f t
unfolding relabel
relabel_after n f g to e t h =
    let p = term_after n f g to e t.subject h.0 in let q = term_after n f g to e t.object h.1 in
    λ i. record { subject = p i; predicate = t.predicate; object = q i }

-- mappings that do the same to the blank nodes
pub relabel_same : (n : ℕ) (f g : ℕ → ℕ) → ((k : ℕ) → k < n → g k ≡ f k) → (t : Triple) → Within n t → relabel g t ≡ relabel f t
relabel_same n f g e t h = ap (relabel g) (sym (relabel_id t)) ∙ relabel_after n f g (λ k. k) e t h

-- there and back
pub relabel_back : (n : ℕ) (to from : ℕ → ℕ) → ((k : ℕ) → k < n → from (to k) ≡ k) → (t : Triple) → Within n t → relabel from (relabel to t) ≡ t
relabel_back n to from e t h = relabel_after n (λ k. k) from to e t h ∙ relabel_id t

-- the same where only what the way back leads to is known to be within
term_forth : (n : ℕ) (to from : ℕ → ℕ) → ((x : ℕ) → from x < n → to (from x) ≡ x) → (x : Term) → TermWithin n (relabel_term from x) →
    relabel_term to (relabel_term from x) ≡ x
unfolding relabel_term
term_forth n to from e (named m) h = refl
term_forth n to from e (blank k) h = ap blank (e k h)

pub relabel_forth : (n : ℕ) (to from : ℕ → ℕ) → ((x : ℕ) → from x < n → to (from x) ≡ x) → (t : Triple) → Within n (relabel from t) →
    relabel to (relabel from t) ≡ t
unfolding relabel
relabel_forth n to from e t h =
    let p = term_forth n to from e t.subject h.0 in let q = term_forth n to from e t.object h.1 in
    λ i. record { subject = p i; predicate = t.predicate; object = q i }

pub term_relabel_within : (n : ℕ) (to : ℕ → ℕ) → ((k : ℕ) → k < n → to k < n) → (x : Term) → TermWithin n x → TermWithin n (relabel_term to x)
unfolding relabel_term
term_relabel_within n to e (named m) h = tt
term_relabel_within n to e (blank k) h = e k h

pub relabel_within : (n : ℕ) (to : ℕ → ℕ) → ((k : ℕ) → k < n → to k < n) → (t : Triple) → Within n t → Within n (relabel to t)
unfolding relabel
relabel_within n to e t h = (term_relabel_within n to e t.subject h.0, term_relabel_within n to e t.object h.1)

-- a triple that fits as a row still does
pub relabel_fits : (n : ℕ) (f : ℕ → ℕ) → ((k : ℕ) → k < n → f k < n) →
    (t : Triple) → triple_fits n (triple_row t) ≡ true → triple_fits n (triple_row (relabel f t)) ≡ true
unfolding relabel relabel_term triple_row term_row
relabel_fits n f below t h = go t.subject t.predicate t.object h
  where
    kept : (k : ℕ) → ltb k n ≡ true → ltb (f k) n ≡ true
    kept k l = lt-ltb (f k) n (below k (ltb-true k n l))

    go : (s : Term) (p : ℕ) (o : Term) → triple_fits n (term_row s ++ p ∷ term_row o) ≡ true →
        triple_fits n (term_row (relabel_term f s) ++ p ∷ term_row (relabel_term f o)) ≡ true
    go (named i) p (named j) h = h
    go (named i) p (blank j) h =
        let a = and_parts (name_fits i) _ h in let b = and_parts (name_fits p) (ltb j n) a.1 in
        and_from (name_fits i) _ a.0 (and_from (name_fits p) _ b.0 (kept j b.1))
    go (blank i) p (named j) h = let a = and_parts (ltb i n) _ h in and_from (ltb (f i) n) _ (kept i a.0) a.1
    go (blank i) p (blank j) h =
        let a = and_parts (ltb i n) _ h in let b = and_parts (name_fits p) (ltb j n) a.1 in
        and_from (ltb (f i) n) _ (kept i a.0) (and_from (name_fits p) _ b.0 (kept j b.1))

-- what is seen from a node goes with it
module _ (n : ℕ) (to from : ℕ → ℕ) (from_to : (k : ℕ) → k < n → from (to k) ≡ k) where
  pub is_blank_goes : (b : ℕ) (x : Term) → b < n → TermWithin n x → is_blank (to b) (relabel_term to x) ≡ is_blank b x
  unfolding is_blank relabel_term
  is_blank_goes b (named m) h k = refl
  is_blank_goes b (blank j) h k = let p = from_to b h in let q = from_to j k in grind (arith, nat_tests)

  pub seen_goes : (c d : Colouring) → Agree n to c d → (b : ℕ) (x : Term) → b < n → TermWithin n x → seen d (to b) (relabel_term to x) ≡ seen c b x
  unfolding seen relabel_term
  seen_goes c d e b (named m) h k = refl
  seen_goes c d e b (blank j) h k = let p = from_to b h in let q = from_to j k in let r = e j k in grind (arith, nat_tests)

  pub incidences_go : (c d : Colouring) → Agree n to c d → (b : ℕ) → b < n → (t : Triple) → Within n t → incidences d (to b) (relabel to t) ≡ incidences c b t
  unfolding incidences relabel
  incidences_go c d e b h t w =
      let p = is_blank_goes b t.subject h w.0 in let q = is_blank_goes b t.object h w.1 in
      let u = seen_goes c d e b t.subject h w.0 in let v = seen_goes c d e b t.object h w.1 in
      cc
