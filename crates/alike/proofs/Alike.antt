-- All answers tell that two graphs are isomorphic if all verdicts do.
use Rattle.std.proofs.Common.{◌≡◌, List, map, sym}
use Rattle.std.specs.List.{list_all}
use Rattle.std.proofs.lemmas.List.Folds.{list_all-map}
use Rattle.isomorphism.specs.declared.compare.Comparison.{Comparison}
use Rattle.isomorphism.specs.Compared.{told}
use Rattle.alike.specs.Answer.{alike, all_alike}

pub all_told : (answers : List Comparison) → list_all (λ a. alike (told a)) answers ≡ all_alike (map told answers)
all_told answers = sym (list_all-map alike told answers)
