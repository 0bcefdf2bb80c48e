use Rattle.std.proofs.Common.{◌≡◌, ◌<◌, ◌≤◌, length, arith, rules, tests}
use Rattle.theory.specs.Isomorphism.{place}
use Rattle.isomorphism.proofs.Nodes.{back_none, back_at_place, back_fault, no_place, place_beyond, place_taken, back_all}
use Rattle.isomorphism.proofs.check.back.places_back.Goals as goal

pub loop-node-init : goal.loop-node-init
loop-node-init c = back_none c.args.nodes c.args.other_nodes c.args.places.now

pub loop-node-preserved : goal.loop-node-preserved
loop-node-preserved c =
    let there : c.loop-node.node < length c.args.places.now = search (rules, tests) in
    let place_is : c.in-Some.field-0.now ≡ place c.args.places.now c.loop-node.node = search (rules, tests) in
    back_at_place _ _ _ _ _ c.loop-node.invariant _ place_is (omega arith) there c.if-place-other_nodes.true c.requires c.if-back-place.true

-- the place is taken, or too large, or there is none
pub returns-in_default-clause-verdict : goal.returns-in_default-clause-verdict
returns-in_default-clause-verdict c =
    let place_is : c.in-Some.field-0.now ≡ place c.args.places.now c.loop-node.node = search (rules, tests) in
    back_fault _ _ _ _ _ c.loop-node.invariant (omega arith)
    (place_taken _ _ _ _ _ c.loop-node.invariant _ place_is (omega arith) c.if-place-other_nodes.true c.requires c.if-back-place.false)

pub returns-in_default-2-clause-verdict : goal.returns-in_default-2-clause-verdict
returns-in_default-2-clause-verdict c =
    let place_is : c.in-Some.field-0.now ≡ place c.args.places.now c.loop-node.node = search (rules, tests) in
    back_fault _ _ _ _ _ c.loop-node.invariant (omega arith) (place_beyond _ _ _ _ _ c.loop-node.invariant _ place_is c.if-place-other_nodes.false)

pub returns-in_default-3-clause-verdict : goal.returns-in_default-3-clause-verdict
returns-in_default-3-clause-verdict c =
    let none : length c.args.places.now ≤ c.loop-node.node = search (rules, tests) in
    back_fault _ _ _ _ _ c.loop-node.invariant (omega arith) (no_place _ _ _ _ _ c.loop-node.invariant none)

pub returns-clause-verdict : goal.returns-clause-verdict
returns-clause-verdict c = (back_all _ _ _ _ _ c.loop-node.invariant (omega arith)).0

pub returns-clause-back : goal.returns-clause-back
returns-clause-back c = (back_all _ _ _ _ _ c.loop-node.invariant (omega arith)).1
