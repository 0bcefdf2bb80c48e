-- What a refusal tells: its number and its place, and the line that says so.
--
--   number_of r   the number of the refusal r
--   place_of r    its place
--   told r        the verdict that it is
--   verdict_of r  the verdict that a check's result is: accepted, or what its refusal tells
--   ForCause number c r   if the result r is a refusal by that number, it is the refusal c
--   count_cause n k   which of the two causes of number 1 applies first to n blank nodes and k triples as written, if one does
--   cause xs      which of the three causes of number 1 applies first to the numbers xs that encode a graph, if one does
--   Caused xs r   a refusal of xs by number 1 is the one for that cause
--   size_cause g room   which of the two causes of number 3 applies first to the graph g and the room for its form
--   Sized g room r      a refusal by number 3 is the one for that cause
--   Headed xs h   h has the counts that xs begins with, they are within their bounds, and xs has all its numbers
--   line v        the verdict in a line of text
use Rattle.std.specs.Prelude.{◌≡◌, ℕ, suc, ◌≤◌, cond, List, ◌++◌, length, Ok, Err, codes, decimal, Result, nat_lt}
use Rattle.theory.specs.Row.{Row}
use Rattle.theory.specs.Graph.{Graph, different}
use Rattle.theory.specs.Refusal.{Verdict, accepted, refused}
use Rattle.theory.specs.Encoding.{most_blanks, most_written, most_different, most_leaves, blank_count, triple_count, graph_length}
use Rattle.graph.specs.declared.encoded.Header.{Header}
use Rattle.graph.specs.declared.refusal.Refusal.{Refusal}
use Rattle.graph.specs.declared.refusal.Refusal.TheVariants.{CutShort, WrongLength, TooManyBlankNodes, TooManyTriples, NoTriple, TooManyDifferentTriples, TooLittleRoom, NotItsForm, TooManyLeaves}

abbrev pub number_of : Refusal → ℕ
number_of (CutShort length) = 1
number_of (WrongLength length) = 1
number_of (TooManyBlankNodes count) = 1
number_of (TooManyTriples count) = 1
number_of (NoTriple row) = 2
number_of TooManyDifferentTriples = 3
number_of (TooLittleRoom room) = 3
number_of (NotItsForm length) = 4
number_of TooManyLeaves = 5

abbrev pub place_of : Refusal → ℕ
place_of (CutShort length) = length
place_of (WrongLength length) = length
place_of (TooManyBlankNodes count) = count
place_of (TooManyTriples count) = count
place_of (NoTriple row) = row
place_of TooManyDifferentTriples = most_different
place_of (TooLittleRoom room) = room
place_of (NotItsForm length) = length
place_of TooManyLeaves = suc most_leaves

abbrev pub told : Refusal → Verdict
told r = refused (number_of r) (place_of r)

abbrev pub verdict_of : {X : Type 0} → Result X Refusal → Verdict
verdict_of (Ok x) = accepted
verdict_of (Err r) = told r

abbrev pub ForCause : {X : Type 0} → ℕ → Refusal → Result X Refusal → Type 0
ForCause number c (Ok x) = Unit {0}
ForCause number c (Err r) = number_of r ≡ number → r ≡ c

abbrev pub count_cause : ℕ → ℕ → Refusal
count_cause n k = cond (nat_lt most_blanks n) (TooManyBlankNodes n) (TooManyTriples k)

abbrev pub cause : Row → Refusal
cause xs = cond (nat_lt (length xs) (graph_length xs)) (CutShort (length xs)) (count_cause (blank_count xs) (triple_count xs))

abbrev pub Caused : {X : Type 0} → Row → Result X Refusal → Type 0
Caused xs r = ForCause 1 (cause xs) r

abbrev pub size_cause : Graph → ℕ → Refusal
size_cause g room = cond (nat_lt most_different (length (different g))) TooManyDifferentTriples (TooLittleRoom room)

abbrev pub Sized : {X : Type 0} → Graph → ℕ → Result X Refusal → Type 0
Sized g room r = ForCause 3 (size_cause g room) r

pub record Headed (xs : Row) (h : Header) : Type 0 where
  pub blanks : h.blanks ≡ blank_count xs
  pub triples : h.triples ≡ triple_count xs
  pub few_blanks : h.blanks ≤ most_blanks
  pub few_triples : h.triples ≤ most_written
  pub whole : graph_length xs ≤ length xs

abbrev pub line : Verdict → List ℕ
line accepted = codes "accepted"
line (refused number place) = codes "refused " ++ (decimal number ++ (codes " at " ++ decimal place))
