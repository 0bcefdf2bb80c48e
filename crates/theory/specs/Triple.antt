-- Terms and triples: all that knows the shape of a triple.
--
--   named n, blank k    a term: a name, or a blank node whose number means nothing outside its own graph
--   Triple              subject, predicate, object
--   width               how many numbers a triple is written with
--   triple_row t        those numbers: subject, predicate, object; a term is 0 and its name, or 1 and its number
--   triple_of r         the triple that a row of that width writes down
--   triples_of k xs     the triples that the first k rows of that width in xs write down
--   triple_fits n r     the row writes a triple down: kinds are 0 or 1, names and predicates are below 2^32, blank nodes below n
--   same_triple s t     s and t are the same triple
--   relabel f t         t with blank node f k for each blank node k
--   Within n t          the blank nodes of t are below n
--   incidences c b t    how t is seen from blank node b, by rows of role, predicate and other end. The role is 0 where b is the
--                       subject and 1 where it is the object; both rows if it is both, none if it is neither
--   seen c b x          the other end as b sees it: 0 and the name, 1 and 0 for b itself, or 2 and the colour of another blank node
use Rattle.std.specs.Prelude.{ℕ, zero, suc, ◌<◌, Bool, false, cond, ◌&&◌, List, [], ◌∷◌, ◌++◌, map, ◌==◌, nat_lt, slice_index}
use Rattle.theory.specs.Row.{Row, same_row, rows_of}
use Rattle.theory.specs.Colouring.{Colouring, colour}

pub data Term : Type 0 where
  named : ℕ → Term
  blank : ℕ → Term

pub record Triple : Type 0 where
  pub subject : Term
  pub predicate : ℕ
  pub object : Term

abbrev pub width : ℕ
width = 5

unfoldable pub term_row : Term → Row
term_row (named n) = 0 ∷ n ∷ []
term_row (blank k) = 1 ∷ k ∷ []

unfoldable pub triple_row : Triple → Row
triple_row t = term_row t.subject ++ t.predicate ∷ term_row t.object

-- the term of a kind, 0 for a name, and a number
unfoldable pub term_of : ℕ → ℕ → Term
term_of zero n = named n
term_of (suc kind) k = blank k

unfoldable pub triple_of : Row → Triple
triple_of r = record { subject = term_of (slice_index r 0) (slice_index r 1); predicate = slice_index r 2; object = term_of (slice_index r 3) (slice_index r 4) }

unfoldable pub triples_of : ℕ → Row → List Triple
triples_of k xs = map triple_of (rows_of width k xs)

abbrev pub name_fits : ℕ → Bool
name_fits n = nat_lt n 4294967296

abbrev pub term_fits : ℕ → ℕ → ℕ → Bool
term_fits n zero x = name_fits x
term_fits n (suc zero) x = nat_lt x n
term_fits n (suc (suc kind)) x = false

abbrev pub triple_fits : ℕ → Row → Bool
triple_fits n r = term_fits n (slice_index r 0) (slice_index r 1) && (name_fits (slice_index r 2) && term_fits n (slice_index r 3) (slice_index r 4))

unfoldable pub same_triple : Triple → Triple → Bool
same_triple s t = same_row (triple_row s) (triple_row t)

unfoldable pub relabel_term : (ℕ → ℕ) → Term → Term
relabel_term f (named n) = named n
relabel_term f (blank k) = blank (f k)

unfoldable pub relabel : (ℕ → ℕ) → Triple → Triple
relabel f t = record { subject = relabel_term f t.subject; predicate = t.predicate; object = relabel_term f t.object }

abbrev pub TermWithin : ℕ → Term → Type 0
TermWithin n (named m) = Unit {0}
TermWithin n (blank k) = k < n

abbrev pub Within : ℕ → Triple → Type 0
Within n t = TermWithin n t.subject × TermWithin n t.object

unfoldable pub is_blank : ℕ → Term → Bool
is_blank b (named n) = false
is_blank b (blank k) = k == b

unfoldable pub seen : Colouring → ℕ → Term → Row
seen c b (named n) = 0 ∷ n ∷ []
seen c b (blank k) = cond (k == b) (1 ∷ 0 ∷ []) (2 ∷ colour c k ∷ [])

unfoldable pub incidences : Colouring → ℕ → Triple → List Row
incidences c b t =
    cond (is_blank b t.subject) ((0 ∷ t.predicate ∷ seen c b t.object) ∷ []) []
    ++ cond (is_blank b t.object) ((1 ∷ t.predicate ∷ seen c b t.subject) ∷ []) []
