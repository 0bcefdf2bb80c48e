-- What C is answered, and what the memory holds that it lends.
--
--   form_told v form      the answer where finding a form has the verdict v: no refusal and how long the form is, or the refusal's number and place
--   form_left v form was  what the lent row that held `was` holds then: it begins with the form, or is as it was
--   compare_told v        the answer where comparing two graphs has the verdict v
--   places_left v was     what the lent places that held `was` hold then: they begin with the mapping, or are as they were
use Rattle.std.specs.Prelude.{length}
use Rattle.theory.specs.Row.{Row}
use Rattle.theory.specs.Refusal.{Verdict, accepted, refused}
use Rattle.theory.specs.Comparison.{CompareVerdict, isomorphic_by, not_isomorphic, first_refused, second_refused}
use Rattle.rows.specs.RowIndex.{overwritten}
use Rattle.c_entry.specs.declared.finding.Answer.{Answer}
use Rattle.c_entry.specs.declared.comparing.ComparisonAnswer.{ComparisonAnswer}

abbrev pub form_told : Verdict → Row → Answer
form_told accepted form = record { refusal = 0; value = length form }
form_told (refused number place) form = record { refusal = number; value = place }

abbrev pub form_left : Verdict → Row → Row → Row
form_left accepted form was = overwritten form was
form_left (refused number place) form was = was

abbrev pub compare_told : CompareVerdict → ComparisonAnswer
compare_told not_isomorphic = record { kind = 0; refusal = 0; value = 0 }
compare_told (isomorphic_by p) = record { kind = 1; refusal = 0; value = length p }
compare_told (first_refused number place) = record { kind = 2; refusal = number; value = place }
compare_told (second_refused number place) = record { kind = 3; refusal = number; value = place }

abbrev pub places_left : CompareVerdict → Row → Row
places_left (isomorphic_by p) was = overwritten p was
places_left not_isomorphic was = was
places_left (first_refused number place) was = was
places_left (second_refused number place) was = was
