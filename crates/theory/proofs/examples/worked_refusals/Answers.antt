use Rattle.theory.proofs.RefusalTable.{refusal_table}
use Rattle.theory.proofs.examples.worked_refusals.Goals as goal

pub returns : goal.returns
returns c = refusal_table
