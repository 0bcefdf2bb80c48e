use Rattle.theory.proofs.Meanings.{sorting_orders}
use Rattle.theory.proofs.sanity.sorting_orders.Goals as goal

pub returns : goal.returns
returns c = sorting_orders
