use Rattle.std.proofs.Common.{arith}
use Rattle.graph.proofs.Verdict.{rows_told}
use Rattle.graph.proofs.encoded.check_rows.Goals as goal

pub returns-in-Some-clause-verdict : goal.returns-in-Some-clause-verdict
returns-in-Some-clause-verdict c = let told = rows_told c.args.blanks c.args.rows.now _ _ c.as_chunks.ensures.front c.in-Some.ensures in grind arith

pub returns-in-None-clause-verdict : goal.returns-in-None-clause-verdict
returns-in-None-clause-verdict c = let told = rows_told c.args.blanks c.args.rows.now _ _ c.as_chunks.ensures.front c.in-None.ensures in grind arith
