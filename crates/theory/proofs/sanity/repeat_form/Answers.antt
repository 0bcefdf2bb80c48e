use Rattle.theory.proofs.Meanings.{repeat_form}
use Rattle.theory.proofs.sanity.repeat_form.Goals as goal

pub returns : goal.returns
returns c = repeat_form
