-- A graph in its two parts: how many blank nodes it has, and the numbers of its rows. How many numbers there are tells how many rows; what is left
-- behind the last whole row is not looked at.
--
--   whole_rows xs          how many rows of a triple's width xs has
--   graph_of_rows n xs     the graph of n blank nodes and these rows
--   parts_verdict n xs     whether they are the parts of a graph: numbers 1 and 2
--   simple_verdict n xs    reading its simple graph: 1, 2, 3
--   room_verdict n xs m    the same, with room for m numbers of its form
use Rattle.std.specs.Prelude.{ℕ, ◌/◌, [], ◌∷◌, length, nat_lt}
use Rattle.theory.specs.Row.{Row}
use Rattle.theory.specs.Triple.{width, triples_of}
use Rattle.theory.specs.Graph.{Graph, different}
use Rattle.theory.specs.Refusal.{Verdict, refuse_if, first_refusal}
use Rattle.theory.specs.Encoding.{most_different, counts_verdict, rows_verdict, size_verdict, form_size}

abbrev pub whole_rows : Row → ℕ
whole_rows xs = length xs / width

abbrev pub graph_of_rows : ℕ → Row → Graph
graph_of_rows n xs = record { blanks = n; triples = triples_of (whole_rows xs) xs }

abbrev pub parts_verdict : ℕ → Row → Verdict
parts_verdict n xs = first_refusal (counts_verdict n (whole_rows xs) ∷ rows_verdict n (whole_rows xs) xs ∷ [])

abbrev pub simple_verdict : ℕ → Row → Verdict
simple_verdict n xs =
    first_refusal
    (counts_verdict n (whole_rows xs)
    ∷ rows_verdict n (whole_rows xs) xs
    ∷ refuse_if (nat_lt most_different (length (different (graph_of_rows n xs)))) 3 most_different
    ∷ [])

abbrev pub room_verdict : ℕ → Row → ℕ → Verdict
room_verdict n xs m = first_refusal (parts_verdict n xs ∷ size_verdict (graph_of_rows n xs) (form_size (graph_of_rows n xs)) m ∷ [])
