use Rattle.theory.proofs.Meanings.{bounds_inclusive}
use Rattle.theory.proofs.sanity.bounds_inclusive.Goals as goal

pub returns : goal.returns
returns c = bounds_inclusive
