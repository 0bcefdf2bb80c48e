-- What terms and triples are.
--
--   term_is x      the term that x is
--   triple_is t    the triple that t is
use Rattle.theory.specs.Triple as theory
use Rattle.graph.specs.declared.triple.Term.{Term}
use Rattle.graph.specs.declared.triple.Term.TheVariants.{Named, Blank}
use Rattle.graph.specs.declared.triple.Triple.{Triple}

abbrev pub term_is : Term → theory.Term
term_is (Named n) = theory.named n
term_is (Blank k) = theory.blank k

abbrev pub triple_is : Triple → theory.Triple
triple_is t = record { subject = term_is t.subject; predicate = t.predicate; object = term_is t.object }
