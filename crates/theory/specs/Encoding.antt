-- Graphs in lent numbers, and which refusal is told of them with which place. Of several that apply the first is told.
--
--   number  when                                                                                    place
--   1       the numbers are cut short, or the length of a form is not one more than a multiple      the length; the count; the count
--           of a triple's width; more than 32 blank nodes; more than 65,536 triples as written
--   2       a row that writes no triple down                                                        the row
--   3       more than 256 different triples; too little room for the answer                         256; the room
--   4       the row is not the form of the graph that it writes down                                its length
--   5       more than 1,024 leaves                                                                  1,025
--   6       a blank node of the first graph has no place in the second, or one that is taken        the blank node
--   7       a triple of the first graph is mapped to none of the second                             the triple
--   8       no triple of the first graph is mapped to this one of the second; or else the counts    the triple; 65,536
--           of blank nodes differ
--
--   graph_in xs              the graph that xs encodes: the count of blank nodes, the count of triples, and a row for each triple; what
--                            comes behind is not looked at
--   encoding_verdict xs      whether xs encodes a graph: numbers 1 and 2
--   form_size g              how many numbers the form of g has
--   largest_form             the most numbers that a form has
--   graph_verdict xs room    reading that graph, with room for so many numbers of its form: 1, 2, 3
--   form_verdict xs room     finding its form, with that room: 1, 2, 3, 5
--   encoded_form xs          the encoded graph that the form xs writes down: its count of blank nodes, its count of rows, and its rows
--   read_verdict xs room     reading the form xs back into an encoded graph, with room for so many numbers: 1, 2, 3, 5, 4
--   mapping_verdict g h p    whether the row p is an isomorphism of g and h: 6, 7, 8
--   CheckVerdict             what is told of two encoded graphs and a mapping: it is accepted, or refused, or one of the graphs is
--   check_verdict xs ys p    that verdict: 1 and 2 of the first, then of the second, then 6, 7, 8
--   WrittenAnew xs ys        ys encodes what xs does, with other numbers for blank nodes, and with triples in any order and as often as it likes
use Rattle.std.specs.Prelude.{◌≡◌, ℕ, suc, ◌+◌, ◌-◌, ◌*◌, ◌/◌, ◌%◌, Bool, not, ◌&&◌, [], ◌∷◌, map, length, take, drop, ◌==◌, nat_eq, nat_lt, slice_index}
use Rattle.theory.specs.Row.{Row, same_row, rows_of}
use Rattle.theory.specs.Lists.{numbers, member}
use Rattle.theory.specs.Colouring.{Numbering}
use Rattle.theory.specs.Triple.{Triple, width, triple_fits, same_triple, relabel, Within, triples_of}
use Rattle.theory.specs.Graph.{Graph, holds, different}
use Rattle.theory.specs.Refinement.{leaves}
use Rattle.theory.specs.CanonicalForm.{form, read_back}
use Rattle.theory.specs.Isomorphism.{place}
use Rattle.theory.specs.Refusal.{Verdict, refuse_if, first_refusal, first_fault, told_of}

abbrev pub most_blanks : ℕ
most_blanks = 32

abbrev pub most_written : ℕ
most_written = 65536

abbrev pub most_different : ℕ
most_different = 256

abbrev pub most_leaves : ℕ
most_leaves = 1024

abbrev pub blank_count : Row → ℕ
blank_count xs = slice_index xs 0

abbrev pub triple_count : Row → ℕ
triple_count xs = slice_index xs 1

-- how many numbers an encoded graph has, by its count of triples
abbrev pub graph_length : Row → ℕ
graph_length xs = 2 + width * triple_count xs

unfoldable pub graph_in : Row → Graph
graph_in xs = record { blanks = blank_count xs; triples = triples_of (triple_count xs) (drop 2 xs) }

abbrev pub WrittenAnew : Row → Row → Type 0
WrittenAnew xs ys =
    (p : Row)
    × (blank_count xs ≡ blank_count ys)
    × Numbering (blank_count xs) p
    × ((t : Triple) → Within (blank_count xs) t → holds (relabel (place p) t) (graph_in ys) ≡ holds t (graph_in xs))

-- n blank nodes and k triples as written
abbrev pub counts_verdict : ℕ → ℕ → Verdict
counts_verdict n k = first_refusal (refuse_if (nat_lt most_blanks n) 1 n ∷ refuse_if (nat_lt most_written k) 1 k ∷ [])

abbrev pub header_verdict : Row → Verdict
header_verdict xs =
    first_refusal (refuse_if (nat_lt (length xs) (graph_length xs)) 1 (length xs) ∷ counts_verdict (blank_count xs) (triple_count xs) ∷ [])

-- the first k rows of xs, each with blank nodes below n
abbrev pub rows_verdict : ℕ → ℕ → Row → Verdict
rows_verdict n k xs = first_fault (triple_fits n) 2 0 (rows_of width k xs)

abbrev pub encoding_verdict : Row → Verdict
encoding_verdict xs = first_refusal (header_verdict xs ∷ rows_verdict (blank_count xs) (triple_count xs) (drop 2 xs) ∷ [])

-- the different triples of g, and room for an answer of so many numbers
abbrev pub size_verdict : Graph → ℕ → ℕ → Verdict
size_verdict g needed room =
    first_refusal (refuse_if (nat_lt most_different (length (different g))) 3 most_different ∷ refuse_if (nat_lt room needed) 3 room ∷ [])

abbrev pub leaves_verdict : Graph → Verdict
leaves_verdict g = refuse_if (nat_lt most_leaves (length (leaves g))) 5 (suc most_leaves)

abbrev pub form_size : Graph → ℕ
form_size g = 1 + width * length (different g)

abbrev pub largest_form : ℕ
largest_form = 1 + width * most_different

abbrev pub graph_verdict : Row → ℕ → Verdict
graph_verdict xs room = first_refusal (encoding_verdict xs ∷ size_verdict (graph_in xs) (form_size (graph_in xs)) room ∷ [])

abbrev pub form_verdict : Row → ℕ → Verdict
form_verdict xs room = first_refusal (graph_verdict xs room ∷ leaves_verdict (graph_in xs) ∷ [])

-- how many rows of a triple's width come behind the first number
abbrev pub row_count : Row → ℕ
row_count xs = (length xs - 1) / width

abbrev pub encoded_form : Row → Row
encoded_form xs = blank_count xs ∷ row_count xs ∷ drop 1 xs

abbrev pub read_verdict : Row → ℕ → Verdict
read_verdict xs room =
    first_refusal
    (refuse_if (not (length xs % width == 1)) 1 (length xs)
    ∷ counts_verdict (blank_count xs) (row_count xs)
    ∷ rows_verdict (blank_count xs) (row_count xs) (drop 1 xs)
    ∷ size_verdict (read_back xs) (2 + width * row_count xs) room
    ∷ leaves_verdict (read_back xs)
    ∷ refuse_if (not (same_row xs (form (read_back xs)))) 4 (length xs)
    ∷ [])

-- blank node k has a place of its own: p says which, it is below n, and no earlier blank node has it
abbrev pub place_fits : ℕ → Row → ℕ → Bool
place_fits n p k = nat_lt k (length p) && (nat_lt (place p k) n && not (member nat_eq (place p k) (take k p)))

abbrev pub mapping_verdict : Graph → Graph → Row → Verdict
mapping_verdict g h p =
    first_refusal
    (first_fault (place_fits h.blanks p) 6 0 (numbers g.blanks)
    ∷ first_fault (λ t. holds (relabel (place p) t) h) 7 0 g.triples
    ∷ first_fault (λ t. member same_triple t (map (relabel (place p)) g.triples)) 8 0 h.triples
    ∷ refuse_if (not (g.blanks == h.blanks)) 8 most_written
    ∷ [])

-- what is told of two graphs and a mapping, and of which of them it is told
pub data CheckVerdict : Type 0 where
  mapping_accepted : CheckVerdict
  first_refused : (number place : ℕ) → CheckVerdict
  second_refused : (number place : ℕ) → CheckVerdict
  mapping_refused : (number place : ℕ) → CheckVerdict

abbrev pub check_verdict : Row → Row → Row → CheckVerdict
check_verdict xs ys p =
    told_of first_refused (encoding_verdict xs)
    (told_of second_refused (encoding_verdict ys) (told_of mapping_refused (mapping_verdict (graph_in xs) (graph_in ys) p) mapping_accepted))
