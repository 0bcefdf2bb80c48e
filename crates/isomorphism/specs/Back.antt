-- Places led back to the nodes that have them.
--
--   Back n p back   back has at each number that can be a blank node's the first of n nodes whose place it is in p, or n if there is none
use Rattle.std.specs.Prelude.{◌≡◌, ℕ, ◌<◌, take, nat_eq, slice_index}
use Rattle.theory.specs.Row.{Row}
use Rattle.theory.specs.Lists.{index_of}
use Rattle.theory.specs.Encoding.{most_blanks}

abbrev pub Back : ℕ → Row → Row → Type 0
Back n p back = (x : ℕ) → x < most_blanks → slice_index back x ≡ index_of nat_eq x (take n p)
