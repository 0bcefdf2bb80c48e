-- The graph at the front of some numbers, and the graphs behind it. `graphs_in` counts down from the length, which is more than it needs,
-- so what it gives does not depend on where the count begins.
use Rattle.std.proofs.Common.{◌≡◌, ℕ, zero, suc, ◌<◌, ◌≤◌, Bool, cond, not, ◌&&◌, eqb, List, [], ◌∷◌, length, take, drop, arith, length-drop}
use Rattle.std.proofs.lemmas.Bool.{lt-ltb, le-ltb}
use Rattle.std.proofs.lemmas.Bool.Decides.{nat_tests}
use Rattle.theory.specs.Row.{Row}
use Rattle.theory.specs.Encoding.{graph_length}
use Rattle.input.specs.Graphs.{first_graphs, graphs_in}

enough : (k m : ℕ) (trailing : Bool) (xs : Row) → length xs < k → length xs < m → first_graphs k trailing xs ≡ first_graphs m trailing xs
unfolding first_graphs
enough zero m trailing xs p q = absurd (omega arith)
enough (suc k) zero trailing xs p q = absurd (omega arith)
enough (suc k) (suc m) trailing xs p q =
    let left = length-drop (graph_length xs) xs in
    let behind : graph_length xs ≤ length xs → first_graphs k trailing (drop (graph_length xs) xs) ≡ first_graphs m trailing (drop (graph_length xs) xs) =
    λ long. enough k m trailing (drop (graph_length xs) xs) (omega arith) (omega arith) in
    grind (arith, nat_tests)

pub cut_short : (trailing : Bool) (xs : Row) → length xs < graph_length xs → graphs_in trailing xs ≡ xs ∷ []
unfolding first_graphs
cut_short trailing xs h = rw (lt-ltb _ _ h)

-- the graphs behind a whole graph
abbrev pub graphs_behind : Bool → Row → List Row
graphs_behind trailing xs = cond (eqb (length xs) 0 && not trailing) [] (graphs_in trailing xs)

pub whole : (trailing : Bool) (xs : Row) → graph_length xs ≤ length xs →
    graphs_in trailing xs ≡ take (graph_length xs) xs ∷ graphs_behind trailing (drop (graph_length xs) xs)
unfolding first_graphs
whole trailing xs h =
    let left = length-drop (graph_length xs) xs in
    let same = enough (length xs) (suc (length (drop (graph_length xs) xs))) trailing (drop (graph_length xs) xs) (omega arith) (omega arith) in
    rw (le-ltb _ _ h, same)
