use Rattle.std.proofs.Common.{rules}
use Rattle.isomorphism.proofs.Checked.{check_exact}
use Rattle.isomorphism.proofs.check.check_mapping.Goals as goal

pub returns-clause-verdict : goal.returns-clause-verdict
returns-clause-verdict c = search rules

pub returns-clause-exact : goal.returns-clause-exact
returns-clause-exact c ex ey = check_exact c.args.first.now c.args.second.now c.args.places.now ex ey _ (returns-clause-verdict c)
