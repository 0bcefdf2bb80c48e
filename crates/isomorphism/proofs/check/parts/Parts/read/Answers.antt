use Rattle.std.proofs.Common.{sym, arith}
use Rattle.isomorphism.proofs.Encoded.{graph_is, few_rows, rows_wide, rows_fit}
use Rattle.isomorphism.proofs.check.parts.Parts.read.Goals as goal

pub invariant_of-result-clause-few_triples : goal.invariant_of-result-clause-few_triples
invariant_of-result-clause-few_triples c =
    let header = c.in_ok-header.ensures.header in let count = header.triples in
    few_rows c.args.graph.now (sym c.in_ok-header.ensures.verdict) _ (omega arith) _ header.blanks _ c.as_chunks.ensures.front

pub invariant_of-result-clause-wide : goal.invariant_of-result-clause-wide
invariant_of-result-clause-wide c =
    let header = c.in_ok-header.ensures.header in let count = header.triples in
    rows_wide c.args.graph.now (sym c.in_ok-header.ensures.verdict) _ (omega arith) _ header.blanks _ c.as_chunks.ensures.front

pub invariant_of-result-clause-fitting : goal.invariant_of-result-clause-fitting
invariant_of-result-clause-fitting c =
    let header = c.in_ok-header.ensures.header in let count = header.triples in
    rows_fit c.args.graph.now (sym c.in_ok-header.ensures.verdict) _ (omega arith) _ header.blanks _ c.as_chunks.ensures.front

pub returns-clause-graph : goal.returns-clause-graph
returns-clause-graph c =
    let header = c.in_ok-header.ensures.header in let count = header.triples in
    graph_is c.args.graph.now (sym c.in_ok-header.ensures.verdict) _ (omega arith) _ header.blanks _ c.as_chunks.ensures.front
