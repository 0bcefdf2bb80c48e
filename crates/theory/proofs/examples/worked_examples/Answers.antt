use Rattle.theory.proofs.Table.{table}
use Rattle.theory.proofs.examples.worked_examples.Goals as goal

pub returns : goal.returns
returns c = table
