-- Looking for a row among rows in order: it is found exactly if it is one of them, and putting rows in order neither takes one away nor adds one.
use Rattle.std.proofs.Common.{◌≡◌, ℕ, ◌<◌, true, false, not, cond, ◌&&◌, ◌⊎◌, inl, inr, List, [], ◌∷◌, length, get_or, Less, Greater, Ok, Err, Result, sym, refl, ap, ◌∙◌, subst, arith}
use Rattle.std.specs.Prelude.{is_ok, sum_by}
use Rattle.std.specs.List.{position}
use Rattle.std.specs.List.Sorted.{IsPermutation, IsPartitionPoint, IsBinarySearchResult, IsSearchInRange}
use Rattle.std.specs.Cmp.Lexicographic.{slice_cmp}
use Rattle.std.specs.Ordering.{nat_cmp, is_eq}
use Rattle.std.proofs.lemmas.Bool.{cases_Bool, cases_order}
use Rattle.std.proofs.lemmas.Cmp.{nat_list_cmp_total}
use Rattle.std.proofs.lemmas.List.Sorted.{searchable_from_sorted, sum_by-IsPermutation}
use Rattle.std.proofs.lemmas.List.Sums.{sum_by-cons}
use Rattle.theory.specs.Row.{Row, same_row}
use Rattle.theory.specs.Lists.{member, count}
use Rattle.theory.specs.Triple.{triple_row, triple_of, triple_fits, relabel}
use Rattle.theory.specs.Isomorphism.{place}
use Rattle.theory.proofs.Row.{row_decider}
use Rattle.theory.proofs.Lists.{member_count, member_at, at_member}
use Rattle.rows.proofs.Comparison.{same_is}
use Rattle.isomorphism.specs.Missing.{mapped_into, InOrder}

-- a search in rows in order
module _ (rows : List Row) (r : Row) where
  tied : (i : ℕ) → i < length rows → get_or rows i [] ≡ r → is_eq (slice_cmp nat_cmp (get_or rows i []) r) ≡ true
  tied i l e = sym (same_is (get_or rows i []) r) ∙ subst (λ y. same_row y r ≡ true) (sym e) (row_decider.itself r)

  pub found_among : (res : Result ℕ ℕ) → InOrder rows → IsSearchInRange res (length rows) → IsBinarySearchResult (λ y. slice_cmp nat_cmp y r) rows res →
      is_ok res ≡ member same_row r rows
  found_among (Ok i) order within found =
      let same : get_or rows i [] ≡ r = row_decider.sound (get_or rows i []) r (same_is (get_or rows i []) r ∙ ap is_eq (found [])) in
      sym (subst (λ y. member same_row y rows ≡ true) same (at_member same_row row_decider [] rows i within))
  found_among (Err i) order within found = go (cases_Bool (member same_row r rows))
    where
      parted : IsPartitionPoint (λ y. slice_cmp nat_cmp y r ≡ Less) (λ y. slice_cmp nat_cmp y r ≡ Greater) rows i
      parted = found (searchable_from_sorted nat_list_cmp_total (λ y. y) rows r order)

      apart : (j : ℕ) → j < length rows → is_eq (slice_cmp nat_cmp (get_or rows j []) r) ≡ true → (j ≡ i) ⊎ ((j < i) ⊎ (i < j)) → false ≡ true
      apart j l equal (inl o) = let greater = parted.1 j [] (omega arith) l in cc
      apart j l equal (inr (inl o)) = let less = parted.0 j [] (omega arith) o in cc
      apart j l equal (inr (inr o)) = let greater = parted.1 j [] (omega arith) l in cc

      go : (member same_row r rows ≡ true) ⊎ (member same_row r rows ≡ false) → false ≡ member same_row r rows
      go (inr m) = sym m
      go (inl m) = let (j, l, e) = member_at same_row row_decider [] r rows m in apart j l (tied j l e) (cases_order j i) ∙ sym m

-- rows that are put in order
module _ (r : Row) where
  abbrev one : Row → ℕ
  one y = cond (same_row r y) 1 0

  counted : (l : List Row) → count same_row r l ≡ sum_by one l
  unfolding count
  counted [] = refl
  counted (y ∷ l) = let ih = counted l in let t = cases_Bool (same_row r y) in let s = sum_by-cons one y l in grind arith

  member_permuted : (xs ys : List Row) → IsPermutation xs ys → member same_row r ys ≡ member same_row r xs
  member_permuted xs ys h =
      let s = sum_by-IsPermutation one xs ys h in
      let a = member_count same_row r xs in let b = member_count same_row r ys in let c = counted xs in let d = counted ys in cc

pub missing_permuted : (n : ℕ) (p : Row) (rows sorted xs : List Row) → IsPermutation rows sorted →
    position (λ r. not (mapped_into n p sorted r)) xs ≡ position (λ r. not (mapped_into n p rows r)) xs
missing_permuted n p rows sorted xs h =
    λ i. position (λ r. not (triple_fits n r && member_permuted (triple_row (relabel (place p) (triple_of r))) rows sorted h i)) xs
