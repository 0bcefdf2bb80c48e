use Rattle.std.proofs.Common.{◌≡◌, true, ap, ◌∙◌, rules}
use Rattle.theory.specs.Row.{same_row}
use Rattle.theory.specs.Lists.{member}
use Rattle.theory.specs.Triple.{triple_row, triple_of, triple_fits, relabel}
use Rattle.theory.specs.Isomorphism.{place}
use Rattle.graph.specs.SimpleGraph.{triple_is}
use Rattle.isomorphism.proofs.Searching.{found_among}
use Rattle.isomorphism.proofs.check.missing.is_mapped_into.Goals as goal

pub returns-in-Some : goal.returns-in-Some
returns-in-Some c =
    let fits : triple_fits c.args.blanks c.args.row.now ≡ true = search rules in
    let is : triple_is c.in-Some.triple ≡ triple_of c.args.row.now = search rules in
    let found = found_among c.args.sorted.now _ c.binary_search.result c.requires c.binary_search.ensures.bound c.binary_search.ensures.position in
    rw fits
    (c.is_ok.ensures.value ∙ found ∙ ap (λ r. member same_row r c.args.sorted.now) c.relabelled_row.ensures
    ∙ ap (λ t. member same_row (triple_row (relabel (place c.args.places.now) t)) c.args.sorted.now) is)
