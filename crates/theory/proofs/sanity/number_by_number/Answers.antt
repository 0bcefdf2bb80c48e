use Rattle.theory.proofs.Meanings.{number_by_number}
use Rattle.theory.proofs.sanity.number_by_number.Goals as goal

pub returns : goal.returns
returns c = number_by_number
