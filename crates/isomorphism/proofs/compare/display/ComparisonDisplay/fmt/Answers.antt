use Rattle.std.proofs.Common.{arith}
use Rattle.std.proofs.lemmas.Grind.{common_steps}
use Rattle.isomorphism.proofs.compare.display.ComparisonDisplay.fmt.Goals as goal

pub loop-place-preserved : goal.loop-place-preserved
loop-place-preserved g c = grind (arith, common_steps)

pub returns-after-loop-place-clause-writes : goal.returns-after-loop-place-clause-writes
returns-after-loop-place-clause-writes g c = grind (arith, common_steps)
