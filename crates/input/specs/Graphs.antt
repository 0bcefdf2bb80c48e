-- The graphs in numbers, one after the other.
--
--   graphs_in trailing xs    the graphs in the numbers xs. If the first is cut short it is all of xs, and the input ends. Else it is its own
--                            numbers, and the next begins behind it, unless the input ends there: there are no more numbers, and no
--                            trailing bytes either, which are one to three bytes that make no number. So there is always a graph, be it
--                            the empty row
--   graphs_after trailing r  the graphs in the numbers r that are left, or none if the input has ended
--   graphs_left s            the graphs that are still to come
use Rattle.std.specs.Prelude.{ℕ, zero, suc, Bool, cond, not, ◌&&◌, List, [], ◌∷◌, length, take, drop, Some, None, Option, ◌==◌, nat_lt}
use Rattle.std.specs.Borrow.{Bor}
use Rattle.theory.specs.Row.{Row}
use Rattle.theory.specs.Encoding.{graph_length}
use Rattle.input.specs.declared.graphs.Graphs.{Graphs}

-- the first k of the graphs in xs
unfoldable pub first_graphs : ℕ → Bool → Row → List Row
first_graphs zero trailing xs = []
first_graphs (suc k) trailing xs =
    cond (nat_lt (length xs) (graph_length xs))
    (xs ∷ [])
    (take (graph_length xs) xs ∷ cond (length (drop (graph_length xs) xs) == 0 && not trailing) [] (first_graphs k trailing (drop (graph_length xs) xs)))

-- all of them: each has numbers of its own, but for a last one that may be the empty row
abbrev pub graphs_in : Bool → Row → List Row
graphs_in trailing xs = first_graphs (suc (length xs)) trailing xs

abbrev pub graphs_after : Bool → Option (Bor Row) → List Row
graphs_after trailing None = []
graphs_after trailing (Some xs) = graphs_in trailing xs.now

abbrev pub graphs_left : Graphs → List Row
graphs_left s = graphs_after s.trailing_bytes s.rest
