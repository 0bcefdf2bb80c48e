use Rattle.theory.proofs.Meanings.{row_writes_triple}
use Rattle.theory.proofs.sanity.row_writes_triple.Goals as goal

pub returns : goal.returns
returns c = row_writes_triple
