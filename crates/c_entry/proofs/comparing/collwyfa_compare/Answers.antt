use borrow.Rule.Slice.PartMut.{post_of}
use Rattle.std.proofs.Common.{◌++◌, length, take, sym, ap, refl, subst, ◌∙◌}
use Rattle.std.proofs.Math.Seq.{take-append_seam}
use Rattle.theory.specs.Row.{Row}
use Rattle.theory.specs.Isomorphism.{Isomorphism, place}
use Rattle.theory.specs.Encoding.{graph_in}
use Rattle.isomorphism.specs.Mapping.{places_of}
use Rattle.c_entry.proofs.comparing.collwyfa_compare.Goals as goal

pub returns-in-Isomorphic-clause-isomorphism : goal.returns-in-Isomorphic-clause-isomorphism
returns-in-Isomorphic-clause-isomorphism c h =
    let found = c.places-found.result.now in
    let rest = post_of 0 (length found) c.args.places.now in
    let Holds : Row → Type 0 = λ p. Isomorphism (graph_in c.args.first.now) (graph_in c.args.second.now) (place p) in
    let written = ap (λ xs. take (length found) (xs ++ rest)) c.copy_from_slice.ensures.after ∙ take-append_seam found rest ∙ c.places-found.ensures.value in
    subst Holds (sym written) (c.in-Isomorphic.ensures.isomorphism (places_of c.in-Isomorphic.mapping) refl)
