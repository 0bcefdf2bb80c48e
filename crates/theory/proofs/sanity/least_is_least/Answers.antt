use Rattle.theory.proofs.Meanings.{least_is_least}
use Rattle.theory.proofs.sanity.least_is_least.Goals as goal

pub returns : goal.returns
returns c = least_is_least
