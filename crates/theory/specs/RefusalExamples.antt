-- Worked refusals: what is told of some encoded graphs, forms and mappings, by number and place; and of two graphs that are compared.
--
--   encoded g       the numbers that encode g
use Rattle.std.specs.Prelude.{◌≡◌, [], ◌∷◌, map, length}
use mathlib.Core.List.{flatten}
use Rattle.theory.specs.Row.{Row}
use Rattle.theory.specs.Triple.{triple_row}
use Rattle.theory.specs.Graph.{Graph}
use Rattle.theory.specs.Refusal.{accepted, refused}
use Rattle.theory.specs.Encoding.{counts_verdict, form_verdict, read_verdict, check_verdict, mapping_accepted, first_refused, second_refused, mapping_refused}
use Rattle.theory.specs.Comparison.{compare_verdict, isomorphic_by, not_isomorphic}
use Rattle.theory.specs.Comparison as compared
use Rattle.theory.specs.Examples.{x, n, triple, graph, chain, chain_again, twins, ring, two_pairs, isolated}

abbrev pub encoded : Graph → Row
encoded g = g.blanks ∷ length g.triples ∷ flatten (map triple_row g.triples)

-- the form of `chain`, with its second and third row exchanged, and with its last row repeated
abbrev pub chain_form : Row
chain_form = 2 ∷ 1 ∷ 0 ∷ 1 ∷ 0 ∷ 5 ∷ 1 ∷ 0 ∷ 2 ∷ 1 ∷ 1 ∷ 1 ∷ 1 ∷ 1 ∷ 0 ∷ 5 ∷ []

abbrev pub chain_exchanged : Row
chain_exchanged = 2 ∷ 1 ∷ 0 ∷ 1 ∷ 0 ∷ 5 ∷ 1 ∷ 1 ∷ 1 ∷ 0 ∷ 5 ∷ 1 ∷ 0 ∷ 2 ∷ 1 ∷ 1 ∷ []

abbrev pub chain_repeated : Row
chain_repeated = 2 ∷ 1 ∷ 0 ∷ 1 ∷ 0 ∷ 5 ∷ 1 ∷ 0 ∷ 2 ∷ 1 ∷ 1 ∷ 1 ∷ 1 ∷ 1 ∷ 0 ∷ 5 ∷ 1 ∷ 1 ∷ 1 ∷ 0 ∷ 5 ∷ []

-- `chain` with x2, which is not there, in its second triple
abbrev pub stray : Graph
stray = graph 2 (triple (x 0) 1 (n 5) ∷ triple (x 0) 2 (x 2) ∷ triple (x 1) 1 (n 5) ∷ [])

-- three blank nodes and no triples
abbrev pub three_isolated : Graph
three_isolated = graph 3 []

-- three blank nodes one after the other, and the same with each numbered like the next one
abbrev pub path : Graph
path = graph 3 (triple (x 0) 3 (x 1) ∷ triple (x 1) 3 (x 2) ∷ [])

abbrev pub path_turned : Graph
path_turned = graph 3 (triple (x 1) 3 (x 2) ∷ triple (x 2) 3 (x 0) ∷ [])

-- finding a form: cut short comes before too many blank nodes, and these before too many triples; 16 numbers are room enough for `chain`
pub record Finding : Type 0 where
  pub nothing : form_verdict [] 100 ≡ refused 1 0
  pub no_count : form_verdict (7 ∷ []) 100 ≡ refused 1 1
  pub cut_short : form_verdict (33 ∷ 65537 ∷ []) 100 ≡ refused 1 2
  pub blanks : form_verdict (33 ∷ 0 ∷ []) 100 ≡ refused 1 33
  pub blanks_first : counts_verdict 33 65537 ≡ refused 1 33
  pub triples : counts_verdict 32 65537 ≡ refused 1 65537
  pub bounds : counts_verdict 32 65536 ≡ accepted
  pub no_node : form_verdict (encoded stray) 0 ≡ refused 2 1
  pub no_room : form_verdict (encoded chain) 15 ≡ refused 3 15
  pub room : form_verdict (encoded chain) 16 ≡ accepted
  pub empty : form_verdict (0 ∷ 0 ∷ []) 1 ≡ accepted

-- reading a form: 17 numbers are room enough for the graph that `chain_form` writes down
pub record Reading : Type 0 where
  pub nothing : read_verdict [] 100 ≡ refused 1 0
  pub length_wrong : read_verdict (2 ∷ 0 ∷ 0 ∷ []) 100 ≡ refused 1 3
  pub blanks : read_verdict (33 ∷ []) 100 ≡ refused 1 33
  pub no_node : read_verdict (0 ∷ 1 ∷ 0 ∷ 3 ∷ 1 ∷ 0 ∷ []) 0 ≡ refused 2 0
  pub no_room : read_verdict chain_form 16 ≡ refused 3 16
  pub room : read_verdict chain_form 17 ≡ accepted
  pub other_order : read_verdict chain_exchanged 17 ≡ refused 4 16
  pub repeat : read_verdict chain_repeated 22 ≡ refused 4 21
  pub empty : read_verdict (0 ∷ []) 2 ≡ accepted

-- a mapping of `chain` to `chain_again`, and others
pub record Mapping : Type 0 where
  pub right : check_verdict (encoded chain) (encoded chain_again) (1 ∷ 0 ∷ []) ≡ mapping_accepted
  pub longer : check_verdict (encoded chain) (encoded chain_again) (1 ∷ 0 ∷ 7 ∷ []) ≡ mapping_accepted
  pub both_refused : check_verdict (0 ∷ []) [] [] ≡ first_refused 1 1
  pub second : check_verdict (encoded chain) [] [] ≡ second_refused 1 0
  pub too_short : check_verdict (encoded chain) (encoded chain_again) (1 ∷ []) ≡ mapping_refused 6 1
  pub too_large : check_verdict (encoded chain) (encoded chain_again) (2 ∷ 0 ∷ []) ≡ mapping_refused 6 0
  pub taken : check_verdict (encoded chain) (encoded chain_again) (0 ∷ 0 ∷ []) ≡ mapping_refused 6 1
  pub not_there : check_verdict (encoded chain) (encoded chain_again) (0 ∷ 1 ∷ []) ≡ mapping_refused 7 1
  pub not_back : check_verdict (encoded twins) (encoded chain) (0 ∷ 1 ∷ []) ≡ mapping_refused 8 1
  pub counts : check_verdict (encoded isolated) (encoded three_isolated) (0 ∷ 1 ∷ []) ≡ mapping_refused 8 65536

-- two graphs compared
pub record Comparing : Type 0 where
  pub renumbered : compare_verdict (encoded chain) (encoded chain_again) ≡ isomorphic_by (1 ∷ 0 ∷ [])
  pub turned : compare_verdict (encoded path) (encoded path_turned) ≡ isomorphic_by (1 ∷ 2 ∷ 0 ∷ [])
  pub itself : compare_verdict (encoded twins) (encoded twins) ≡ isomorphic_by (0 ∷ 1 ∷ [])
  pub colours_alone : compare_verdict (encoded ring) (encoded two_pairs) ≡ not_isomorphic
  pub counts : compare_verdict (encoded isolated) (encoded three_isolated) ≡ not_isomorphic
  pub empty : compare_verdict (0 ∷ 0 ∷ []) (0 ∷ 0 ∷ []) ≡ isomorphic_by []
  pub both_refused : compare_verdict (0 ∷ []) [] ≡ compared.first_refused 1 1
  pub second : compare_verdict (encoded chain) (encoded stray) ≡ compared.second_refused 2 1

pub record RefusalTable : Type 0 where
  pub finding : Finding
  pub reading : Reading
  pub mapping : Mapping
  pub comparing : Comparing
