use Rattle.theory.proofs.Meanings.{order_strict_total}
use Rattle.theory.proofs.sanity.order_strict_total.Goals as goal

pub returns : goal.returns
returns c = order_strict_total
