use Rattle.std.proofs.Common.{◌∙◌}
use Rattle.isomorphism.proofs.Triples.{there_told, back_told, told_some, told_none, second_told, third_told, last_told, counts_differ, counts_same}
use Rattle.isomorphism.proofs.check.check_places.Goals as goal

pub returns-in-Some-clause-verdict : goal.returns-in-Some-clause-verdict
returns-in-Some-clause-verdict c =
    let there = there_told c.args.from.now c.args.to.now c.args.places.now _ c.first_missing.ensures.place in
    second_told _ _ _ _ c.in_ok-back.ensures.verdict _ (told_some 7 _ _ _ there c.in-Some.is)

pub returns-in-Some-first_missing-clause-verdict : goal.returns-in-Some-first_missing-clause-verdict
returns-in-Some-first_missing-clause-verdict c =
    let there = there_told c.args.from.now c.args.to.now c.args.places.now _ c.first_missing.ensures.place in
    let back = back_told c.args.from.now c.args.to.now c.args.places.now _ c.in_ok-back.ensures.verdict c.in_ok-back.ensures.back _ c.first_missing-2.ensures.place in
    third_told _ _ _ _ c.in_ok-back.ensures.verdict (told_none 7 _ _ there c.in_default.is) _ (told_some 8 _ _ _ back c.in-Some-first_missing.is)

pub returns-then-from-to-clause-verdict : goal.returns-then-from-to-clause-verdict
returns-then-from-to-clause-verdict c =
    let there = there_told c.args.from.now c.args.to.now c.args.places.now _ c.first_missing.ensures.place in
    let back = back_told c.args.from.now c.args.to.now c.args.places.now _ c.in_ok-back.ensures.verdict c.in_ok-back.ensures.back _ c.first_missing-2.ensures.place in
    counts_differ _ _ c.if-from-to.true
    ∙ last_told _ _ _ _ c.in_ok-back.ensures.verdict (told_none 7 _ _ there c.in_default.is) (told_none 8 _ _ back c.in_default-first_missing.is)

pub returns-clause-verdict : goal.returns-clause-verdict
returns-clause-verdict c =
    let there = there_told c.args.from.now c.args.to.now c.args.places.now _ c.first_missing.ensures.place in
    let back = back_told c.args.from.now c.args.to.now c.args.places.now _ c.in_ok-back.ensures.verdict c.in_ok-back.ensures.back _ c.first_missing-2.ensures.place in
    counts_same _ _ c.if-from-to.false
    ∙ last_told _ _ _ _ c.in_ok-back.ensures.verdict (told_none 7 _ _ there c.in_default.is) (told_none 8 _ _ back c.in_default-first_missing.is)
