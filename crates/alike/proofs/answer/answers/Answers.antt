use Rattle.std.proofs.Common.{◌≡◌, rules, tests, sym, ap, ◌∙◌, arith, Bor}
use Rattle.std.specs.Prelude.{map, Some}
use Rattle.std.specs.Slice.Iter.{chunks_rest, chunks_size, chunks_steps}
use Rattle.std.proofs.lemmas.Iterator.{YieldsList-from_map_by}
use Rattle.std.proofs.lemmas.Iterator.Consumers.{map_from_collect, YieldsList-at}
use Rattle.std.proofs.lemmas.Iterator.Splits.{YieldsList-from_shown_while}
use Rattle.std.proofs.lemmas.List.{map-id}
use Rattle.std.proofs.lemmas.Result.{IfOk-weaker}
use Rattle.std.proofs.lemmas.Simd.{map-map}
use Rattle.theory.specs.Row.{Row}
use Rattle.rows.specs.Written.{held}
use Rattle.isomorphism.specs.Compared.{told, line}
use Rattle.alike.specs.Answer.{of_two, in_twos}
use Rattle.alike.proofs.Twos.{in_twos_more, in_twos_none}
use Rattle.alike.proofs.answer.answers.Goals as goal

pub returns-clause-told : goal.returns-clause-told
returns-clause-told c =
    let left = YieldsList-from_shown_while (chunks_steps {A = Bor Row}) (λ x. of_two (held x.now)) (λ s. in_twos (held (chunks_rest s))) (λ s. chunks_size s ≡ 2)
    (λ s t p e. in_twos_none (chunks_rest s) e.1.0)
    (λ s x t p e. (omega (arith, p, e.0), in_twos_more _ _ _ _ e.1.0 e.1.1 p e.1.2)) c.chunks.result (omega arith) in
    rw (← map-id (in_twos (held c.args.graphs.now)), ← c.chunks.ensures.rest)
    (map_from_collect _ c.collect.ensures.ran
    (YieldsList-from_map_by _ told (λ y. y) (YieldsList-at c.map.ensures.source left) c.map.ensures.closure (λ x r q k. search (rules, tests))))

pub returns-clause-printed : goal.returns-clause-printed
returns-clause-printed c =
    IfOk-weaker c.collect.result _ _
    (λ v e. sym (map-map (λ w. Some (line w)) told v.items) ∙ ap (map (λ w. Some (line w))) e) (returns-clause-told c)
