use Rattle.theory.proofs.Meanings.{tests_are_equality}
use Rattle.theory.proofs.sanity.tests_are_equality.Goals as goal

pub returns : goal.returns
returns c = tests_are_equality
