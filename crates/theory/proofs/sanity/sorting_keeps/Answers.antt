use Rattle.theory.proofs.Meanings.{sorting_keeps}
use Rattle.theory.proofs.sanity.sorting_keeps.Goals as goal

pub returns : goal.returns
returns c = sorting_keeps
