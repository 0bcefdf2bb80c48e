use Rattle.std.proofs.Common.{sym, subst}
use Rattle.theory.specs.Comparison.{Itself}
use Rattle.theory.specs.Encoding.{blank_count}
use Rattle.theory.proofs.Comparison.{compared_together}
use Rattle.isomorphism.proofs.promises.compare_itself.Goals as goal

pub returns-clause-itself : goal.returns-clause-itself
returns-clause-itself c = let xs = c.args.graph.now in subst (Itself (blank_count xs)) (sym c.compare.ensures.told) (compared_together xs xs xs).0
