use Rattle.std.proofs.Common.{◌≡◌, ◌∙◌, subst, rules}
use Rattle.std.specs.List.Sorted.{IsPermutation}
use Rattle.isomorphism.proofs.Searching.{missing_permuted}
use Rattle.isomorphism.proofs.check.missing.missing_from.Goals as goal

pub returns : goal.returns
returns g c =
    let copied : c.copy_from_slice.new.self ≡ c.args.rows.now = search rules in
    c.first_outside.ensures
    ∙ missing_permuted c.args.graph.now.blanks c.args.places.now c.args.rows.now c.sort_unstable.new.self c.args.graph.now.rows.now
    (subst (λ rows. IsPermutation rows c.sort_unstable.new.self) copied c.sort_unstable.ensures.permutation)
