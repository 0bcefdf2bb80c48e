-- Looking for the triples of one graph among those of another.
--
-- The idea: a row that fits writes one triple down, so that a mapped triple is one of the other graph's exactly if its row is one of the rows. And
-- a triple of the second graph is one that is mapped to it exactly if it is one of the first graph's when it is led back.
use Rattle.std.proofs.Common.{◌≡◌, ◌≢◌, ℕ, ◌<◌, Bool, IfSome, cond, ltb, eqb, true, false, not, List, [], ◌∷◌, map, length, Option, Some, None, sym, refl, ap, ◌∙◌, subst, arith}
use Rattle.std.specs.List.{position, position_or_len, AllByRecursion as All}
use Rattle.std.proofs.lemmas.Bool.{cases_Bool, eqb-true, eq-eqb, ltb-true}
use Rattle.std.proofs.ByRecursion.{All-weaker}
use Rattle.std.proofs.lemmas.List.Elements.{recursion_from_All}
use Rattle.theory.specs.Row.{Row, same_row}
use Rattle.theory.specs.Lists.{numbers, member}
use Rattle.theory.specs.Triple.{Triple, width, triple_row, triple_of, triple_fits, same_triple, relabel, Within}
use Rattle.theory.specs.Graph.{holds, WellFormed}
use Rattle.theory.specs.Isomorphism.{place}
use Rattle.theory.specs.Refusal.{Verdict, accepted, refused, refuse_if, first_refusal, first_fault}
use Rattle.theory.specs.Encoding.{most_written, place_fits}
use Rattle.theory.proofs.Row.{row_decider}
use Rattle.theory.proofs.Lists.{all_member, member_all, map_member}
use Rattle.theory.proofs.Refusal.{Tells, first_only, fault_told, fault_map, fault_same}
use Rattle.theory.proofs.Triple.{triple_decider, fits_within, relabel_same}
use Rattle.theory.proofs.ReadBack.{IsTripleRow, member_triples}
use Rattle.theory.proofs.Written.{fits_row}
use Rattle.theory.proofs.Mapping.{node_at, mapped_back}
use Rattle.isomorphism.specs.Back.{Back}
use Rattle.isomorphism.specs.Missing.{mapped_into}
use Rattle.isomorphism.specs.Parts.{graph_of}
use Rattle.isomorphism.specs.declared.check.parts.Parts.{Parts}

-- rows that write triples down
module _ (a : Parts) where
  rows_fit : All (λ r. (length r ≡ width) × (triple_fits a.blanks r ≡ true)) a.rows.now
  rows_fit =
      member_all same_row row_decider (λ r. (length r ≡ width) × (triple_fits a.blanks r ≡ true)) a.rows.now
      (λ r m. (
        all_member same_row row_decider (λ r. length r ≡ width) a.rows.now r (recursion_from_All _ _ a.wide) m,
        all_member same_row row_decider (λ r. triple_fits a.blanks r ≡ true) a.rows.now r (recursion_from_All _ _ a.fitting) m,
      ))

  rows_are : All IsTripleRow a.rows.now
  rows_are = All-weaker (λ r. (length r ≡ width) × (triple_fits a.blanks r ≡ true)) IsTripleRow (λ r f. fits_row a.blanks r f.0 f.1) a.rows.now rows_fit

  pub well_formed : WellFormed (graph_of a)
  well_formed t m =
      let (r, i, e) = map_member same_row row_decider same_triple triple_decider triple_of t a.rows.now m in
      let f = all_member same_row row_decider (λ r. (length r ≡ width) × (triple_fits a.blanks r ≡ true)) a.rows.now r rows_fit i in
      subst (Within a.blanks) e (fits_within a.blanks r f.1)

  holds_row : (t : Triple) → holds t (graph_of a) ≡ member same_row (triple_row t) a.rows.now
  holds_row t = member_triples t a.rows.now rows_are

-- the first triple of a that is none of those of b with the places p, and what a verdict says of it that asks the same of each triple
module _ (a b : Parts) (p : Row) (ok : Triple → _) (number : ℕ)
    (same : (t : Triple) → Within a.blanks t → ok t ≡ holds (relabel (place p) t) (graph_of b)) where
  missing_told : (found : Option ℕ) → found ≡ position (λ r. not (mapped_into a.blanks p b.rows.now r)) a.rows.now →
      Tells number (first_fault ok number 0 (graph_of a).triples) found
  missing_told found is =
      subst (Tells number (first_fault ok number 0 (graph_of a).triples)) (sym is)
      (subst (λ v. Tells number v (position (λ r. not (mapped_into a.blanks p b.rows.now r)) a.rows.now))
      (fault_same number (mapped_into a.blanks p b.rows.now) (λ r. ok (triple_of r)) 0 a.rows.now each ∙ sym (fault_map number triple_of ok 0 a.rows.now))
      (fault_told number (mapped_into a.blanks p b.rows.now) a.rows.now))
    where
      each : All (λ r. mapped_into a.blanks p b.rows.now r ≡ ok (triple_of r)) a.rows.now
      each = All-weaker (λ r. (length r ≡ width) × (triple_fits a.blanks r ≡ true)) (λ r. mapped_into a.blanks p b.rows.now r ≡ ok (triple_of r))
          (λ r f. let w = fits_within a.blanks r f.1 in let e = f.1 in rw e (sym (same (triple_of r) w ∙ holds_row b (relabel (place p) (triple_of r)))))
          a.rows.now (rows_fit a)

-- a triple of the second graph, led back
led_back : (a b : Parts) (p back : Row) → first_fault (place_fits b.blanks p) 6 0 (numbers a.blanks) ≡ accepted → Back a.blanks p back →
    (t : Triple) → Within b.blanks t → member same_triple t (map (relabel (place p)) (graph_of a).triples) ≡ holds (relabel (place back) t) (graph_of a)
led_back a b p back ok is t w =
    let few = b.few_blanks in
    mapped_back (graph_of a) (graph_of b) p ok (well_formed a) t
    ∙ ap (λ t. holds t (graph_of a)) (sym (relabel_same b.blanks (node_at (graph_of a) (graph_of b) p ok) (place back) (λ x l. is x (omega arith)) t w))

-- the first triple that is mapped to none, and the first that none is mapped to
module _ (a b : Parts) (p : Row) where
  pub there_told : (found : Option ℕ) → found ≡ position (λ r. not (mapped_into a.blanks p b.rows.now r)) a.rows.now →
      Tells 7 (first_fault (λ t. holds (relabel (place p) t) (graph_of b)) 7 0 (graph_of a).triples) found
  there_told found is = missing_told a b p _ 7 (λ t w. refl) found is

  pub back_told : (back : Row) → accepted ≡ first_fault (place_fits b.blanks p) 6 0 (numbers a.blanks) → Back a.blanks p back →
      (found : Option ℕ) → found ≡ position (λ r. not (mapped_into b.blanks back a.rows.now r)) b.rows.now →
      Tells 8 (first_fault (λ t. member same_triple t (map (relabel (place p)) (graph_of a).triples)) 8 0 (graph_of b).triples) found
  back_told back ok led found is = missing_told b a back _ 8 (led_back a b p back (sym ok) led) found is

-- a place that is found is one of the list
pub position_within : {X : Type 0} (p : X → Bool) (xs : List X) (r : Option ℕ) → r ≡ position p xs → IfSome r (λ i. i < length xs)
position_within p xs r is = subst (λ r. IfSome r (λ i. i < length xs)) (sym is) (go (ltb (position_or_len p xs) (length xs)) refl)
  where
    go : (b : Bool) → ltb (position_or_len p xs) (length xs) ≡ b → IfSome (cond b (Some (position_or_len p xs)) None) (λ i. i < length xs)
    go true e = ltb-true (position_or_len p xs) (length xs) e
    go false e = tt

-- what the place of a fault tells, and the four parts of a verdict on a mapping
pub told_some : (number : ℕ) (v : Verdict) (r : Option ℕ) (i : ℕ) → Tells number v r → r ≡ Some i → refused number i ≡ v
told_some number v r i t e = subst (Tells number v) e t

pub told_none : (number : ℕ) (v : Verdict) (r : Option ℕ) → Tells number v r → r ≡ None → accepted ≡ v
told_none number v r t e = subst (Tells number v) e t

module _ (a b c d : Verdict) (x : accepted ≡ a) where
  pub second_told : (i : ℕ) → refused 7 i ≡ b → refused 7 i ≡ first_refusal (a ∷ b ∷ c ∷ d ∷ [])
  second_told i y = rw (← x, ← y) refl

  module _ (y : accepted ≡ b) where
    pub third_told : (i : ℕ) → refused 8 i ≡ c → refused 8 i ≡ first_refusal (a ∷ b ∷ c ∷ d ∷ [])
    third_told i z = rw (← x, ← y, ← z) refl

    pub last_told : accepted ≡ c → d ≡ first_refusal (a ∷ b ∷ c ∷ d ∷ [])
    last_told z = rw (← x, ← y, ← z) (sym (first_only d))

pub counts_differ : (n m : ℕ) → n ≢ m → refused 8 most_written ≡ refuse_if (not (eqb n m)) 8 most_written
counts_differ n m e = let t = cases_Bool (eqb n m) in let f = eqb-true n m in grind arith

pub counts_same : (n m : ℕ) → n ≡ m → accepted ≡ refuse_if (not (eqb n m)) 8 most_written
counts_same n m e = rw (eq-eqb n m e) refl
