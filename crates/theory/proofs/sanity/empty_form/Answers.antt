use Rattle.theory.proofs.Meanings.{empty_form}
use Rattle.theory.proofs.sanity.empty_form.Goals as goal

pub returns : goal.returns
returns c = empty_form
