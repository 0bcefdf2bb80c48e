use Rattle.theory.proofs.Comparison.{compared_together}
use Rattle.isomorphism.proofs.promises.compare_both_ways.Goals as goal

pub returns-clause-turned : goal.returns-clause-turned
returns-clause-turned c =
    let xs = c.args.first.now in let ys = c.args.second.now in
    rw (c.compare.ensures.told, c.compare-2.ensures.told) (compared_together xs ys xs).1
