-- The parts of an encoded graph that is accepted: its rows are those of its triples, each of which fits.
use Rattle.std.proofs.Common.{◌≡◌, ℕ, ◌≤◌, ◌/◌, List, map, length, drop, sym, ap, ◌∙◌, subst, arith, length-drop}
use Rattle.std.specs.List.{between, All as Every, AllPass}
use Rattle.std.specs.Simd.{first_chunks}
use Rattle.std.proofs.lemmas.List.Elements.{All-from_recursion}
use Rattle.theory.specs.Row.{Row, rows_of}
use Rattle.theory.specs.Triple.{width, triple_of, triple_fits, triples_of}
use Rattle.theory.specs.Refusal.{accepted}
use Rattle.theory.specs.Encoding.{most_written, graph_in, graph_length, blank_count, triple_count, encoding_verdict}
use Rattle.theory.proofs.RowsOf.{rows_of_wide, length_rows_of}
use Rattle.theory.proofs.Written.{accepted_fit}
use Rattle.theory.proofs.FormVerdict.{encoding_parts}
use Rattle.graph.proofs.Verdict.{chunks_rows}
use Rattle.graph.proofs.Parts.{count_encoded, rows_encoded}

module _ (xs : Row) (ok : encoding_verdict xs ≡ accepted) (whole : ℕ) (is : whole ≡ graph_length xs) (n : ℕ) (blanks : n ≡ blank_count xs) (rows : List Row)
    (cut : rows ≡ first_chunks width (length (between 2 whole xs) / width) (between 2 whole xs)) where
  there : whole ≤ length xs
  there = let l = (encoding_parts xs ok).0 in omega arith

  rows_are : rows ≡ rows_of width (triple_count xs) (drop 2 xs)
  rows_are =
      cut ∙ chunks_rows width (length (between 2 whole xs) / width) (between 2 whole xs)
      ∙ ap (λ k. rows_of width k (between 2 whole xs)) (count_encoded xs whole is there) ∙ rows_encoded xs whole is there

  pub graph_is : record { blanks = n; triples = map triple_of rows } ≡ graph_in xs
  unfolding graph_in triples_of
  graph_is = ap (λ n. record { blanks = n; triples = map triple_of rows }) blanks ∙ ap (λ rows. record { blanks = blank_count xs; triples = map triple_of rows }) rows_are

  pub few_rows : length rows ≤ most_written
  few_rows =
      let l = ap (λ (rows : List Row). length rows) rows_are in let k = length_rows_of width (triple_count xs) (drop 2 xs) in
      let (a, b, c, d) = encoding_parts xs ok in omega arith

  pub rows_wide : Every (λ r. length r ≡ width) rows
  rows_wide =
      let d = length-drop 2 xs in let l = (encoding_parts xs ok).0 in
      subst (Every (λ r. length r ≡ width)) (sym rows_are) (All-from_recursion _ _ (rows_of_wide width (triple_count xs) (drop 2 xs) (omega arith)))

  pub rows_fit : AllPass (triple_fits n) rows
  rows_fit = rw (blanks, rows_are) (All-from_recursion _ _ (accepted_fit xs ok))
