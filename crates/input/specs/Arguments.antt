-- The words that a program is called with, behind its own name.
--
--   behind option words   the words behind the option, if that is the first of them
use Rattle.std.specs.Prelude.{ℕ, List, [], ◌∷◌, cond, Option, Some, None, bytes_eq}

abbrev pub behind : List ℕ → List (List ℕ) → Option (List (List ℕ))
behind option [] = None
behind option (word ∷ words) = cond (bytes_eq word option) (Some words) None
