use Rattle.theory.proofs.Comparison.{compared_together}
use Rattle.isomorphism.proofs.promises.compare_three.Goals as goal

pub returns-clause-chained : goal.returns-clause-chained
returns-clause-chained c =
    rw (c.compare.ensures.told, c.compare-2.ensures.told, c.compare-3.ensures.told) (compared_together c.args.first.now c.args.second.now c.args.third.now).2
