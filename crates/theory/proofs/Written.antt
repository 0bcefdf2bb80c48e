-- Rows that are accepted. Each has a triple's width and fits, so that it is the row of the triple that it writes down; the simple graph is
-- therefore read off the rows as they are written.
use Rattle.std.proofs.Common.{◌≡◌, ℕ, zero, suc, ◌*◌, ◌≤◌, true, List, [], ◌∷◌, map, length, drop, sym, refl, ap, ◌∙◌, arith}
use Rattle.std.specs.List.{AllByRecursion as All}
use Rattle.std.proofs.lemmas.List.{length-map}
use Rattle.std.proofs.lemmas.Bool.{and_parts}
use Rattle.theory.specs.Row.{Row, rows_of}
use Rattle.theory.specs.Multiset.{sorted_set}
use Rattle.theory.specs.Triple.{width, term_row, triple_row, term_of, triple_of, term_fits, triple_fits, triples_of}
use Rattle.theory.specs.Graph.{Graph, different, simple}
use Rattle.theory.specs.Refusal.{Verdict, accepted, first_refusal}
use Rattle.theory.specs.Encoding.{blank_count, triple_count, header_verdict, rows_verdict, encoding_verdict}
use Rattle.theory.proofs.RowsOf.{Wide, rows_of_wide}
use Rattle.theory.proofs.Refusal.{first_accepted, no_fault}
use Rattle.theory.proofs.ReadBack.{IsTripleRow}
use Rattle.theory.proofs.Simple.{simple_length}

-- a row that fits is the row of the triple that it writes down
kind_fits : (n kind x : ℕ) → term_fits n kind x ≡ true → term_row (term_of kind x) ≡ kind ∷ x ∷ []
unfolding term_row term_of
kind_fits n zero x h = refl
kind_fits n (suc zero) x h = refl
kind_fits n (suc (suc kind)) x h = let z : ◌≡◌ {A = ℕ} 0 1 = cc in absurd (omega arith)

pub fits_row : (n : ℕ) (r : Row) → length r ≡ width → triple_fits n r ≡ true → IsTripleRow r
unfolding triple_row triple_of
fits_row n (a ∷ b ∷ c ∷ d ∷ e ∷ []) l h =
    let f = and_parts _ _ h in
    let g = and_parts _ _ f.1 in
    let s = kind_fits n a b f.0 in
    let o = kind_fits n d e g.1 in
    rw (s, o)
fits_row n (a ∷ b ∷ c ∷ d ∷ e ∷ x ∷ xs) l h = absurd (omega arith)
fits_row n (a ∷ b ∷ c ∷ d ∷ []) l h = absurd (omega arith)
fits_row n (a ∷ b ∷ c ∷ []) l h = absurd (omega arith)
fits_row n (a ∷ b ∷ []) l h = absurd (omega arith)
fits_row n (a ∷ []) l h = absurd (omega arith)
fits_row n [] l h = absurd (omega arith)

pub rows_fit : (n : ℕ) (rows : List Row) → Wide width rows → All (λ r. triple_fits n r ≡ true) rows → All IsTripleRow rows
rows_fit n [] w f = tt
rows_fit n (r ∷ rs) w f = (fits_row n r w.0 f.0, rows_fit n rs w.1 f.1)

pub rows_again : (rows : List Row) → All IsTripleRow rows → map triple_row (map triple_of rows) ≡ rows
rows_again [] h = refl
rows_again (r ∷ rs) h = let e = h.0 in let ih = rows_again rs h.1 in cc

-- the first k rows of xs, in a graph of n blank nodes, if they are accepted after what is told before
module _ (before : Verdict) (n k : ℕ) (xs : Row) (ok : first_refusal (before ∷ rows_verdict n k xs ∷ []) ≡ accepted) where
  pub written_fit : All (λ r. triple_fits n r ≡ true) (rows_of width k xs)
  written_fit =
      let a = first_accepted before (rows_verdict n k xs ∷ []) ok in
      no_fault (triple_fits n) 2 0 (rows_of width k xs) (first_accepted (rows_verdict n k xs) [] a.1).0

  module _ (long : width * k ≤ length xs) where
    written_rows : All IsTripleRow (rows_of width k xs)
    written_rows = rows_fit n (rows_of width k xs) (rows_of_wide width k xs long) written_fit

    -- the simple graph, read off the rows
    pub simple_written : simple (record { blanks = n; triples = triples_of k xs }) ≡ record { blanks = n; triples = map triple_of (sorted_set (rows_of width k xs)) }
    unfolding simple triples_of
    simple_written = ap (λ rows. record { blanks = n; triples = map triple_of (sorted_set rows) }) (rows_again (rows_of width k xs) written_rows)

    pub different_written : length (different (record { blanks = n; triples = triples_of k xs })) ≡ length (sorted_set (rows_of width k xs))
    different_written =
        sym (simple_length (record { blanks = n; triples = triples_of k xs }))
        ∙ ap (λ (g : Graph). length g.triples) simple_written
        ∙ length-map (sorted_set (rows_of width k xs)) triple_of

-- those of an accepted encoding
module _ (xs : Row) (ok : encoding_verdict xs ≡ accepted) where
  abbrev pub rows_in : List Row
  rows_in = rows_of width (triple_count xs) (drop 2 xs)

  pub accepted_fit : All (λ r. triple_fits (blank_count xs) r ≡ true) rows_in
  accepted_fit = written_fit (header_verdict xs) (blank_count xs) (triple_count xs) (drop 2 xs) ok
