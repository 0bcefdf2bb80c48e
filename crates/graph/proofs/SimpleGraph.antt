-- A simple graph is well formed, and its triples are different: their rows rise, so that no two of them are the same.
use Rattle.std.proofs.Common.{◌≡◌, ℕ, ◌<◌, ◌≤◌, true, List, [], ◌∷◌, map, length, take, get_or, sym, refl, ap, ◌∙◌, subst, arith, length-take}
use Rattle.std.proofs.lemmas.List.{length-map}
use Rattle.std.proofs.lemmas.List.Elements.{All-map, recursion_from_All}
use Rattle.theory.specs.Row.{Row, same_row}
use Rattle.theory.specs.Triple.{Triple, triple_row, triple_of, same_triple, Within}
use Rattle.theory.specs.Lists.{member}
use Rattle.theory.specs.Graph.{different, WellFormed}
use Rattle.theory.specs.Encoding.{most_different}
use Rattle.theory.proofs.Row.{row_decider}
use Rattle.theory.proofs.Lists.{Apart, all_member, apart_map, distinct_apart}
use Rattle.theory.proofs.Multiset.{Rising, rising_sorted_set, rising_apart}
use Rattle.theory.proofs.ReadBack.{IsTripleRow}
use Rattle.theory.proofs.Triple.{triple_decider, triple_of_row, fits_within}
use Rattle.graph.specs.Triple.{triple_is}
use Rattle.graph.specs.SimpleGraph.{graph_of}
use Rattle.graph.specs.declared.simple.SimpleGraph.{SimpleGraph}

-- as many triples as are lent
pub count_is : {X Y : Type 0} (f : X → Y) (ts : List X) (us : List Y) → map f ts ≡ us → length ts ≡ length us
count_is f ts us e = sym (length-map ts f) ∙ ap length e

-- triples are read off their rows
triples_again : (ts : List Triple) → map triple_of (map triple_row ts) ≡ ts
triples_again [] = refl
triples_again (t ∷ ts) = let e = triple_of_row t in let ih = triples_again ts in cc

module _ (s : SimpleGraph) where
  abbrev triples : List Triple
  triples = (graph_of s).triples

  pub few_triples : length triples ≤ most_different
  few_triples = omega (arith, length-map (take s.count s.triples) triple_is, length-take s.count s.triples, s.few)

  pub triple_within : (i : ℕ) (d : Triple) → i < length triples → Within s.blanks (get_or triples i d)
  triple_within i d h = let t = get_or triples i d in subst (Within s.blanks) (triple_of_row t) (fits_within s.blanks (triple_row t) (s.fitting i d h))

  pub well_formed : WellFormed (graph_of s)
  well_formed t h = all_member same_triple triple_decider (Within s.blanks) triples t (recursion_from_All (Within s.blanks) triples triple_within) h

  abbrev rows : List Row
  rows = map triple_row triples

  row_again : (r : Row) → member same_row r rows ≡ true → IsTripleRow r
  row_again r =
      all_member same_row row_decider IsTripleRow rows r
      (recursion_from_All IsTripleRow rows (All-map IsTripleRow triple_row triples (λ k t h. ap triple_row (triple_of_row (get_or triples k t)))))

  pub different_triples : different (graph_of s) ≡ triples
  different_triples =
      distinct_apart same_triple triples
      (subst (Apart same_triple) (triples_again triples)
      (apart_map same_row row_decider same_triple triple_decider triple_of rows (rising_apart rows (subst Rising s.once (rising_sorted_set rows)))
      (λ q r p m e. sym (row_again q p) ∙ ap triple_row e ∙ row_again r m)))
