use Rattle.isomorphism.proofs.Nodes.{BackSoFar}
use Rattle.isomorphism.proofs.check.back.places_back.Given as goal

abbrev pub invariant-loop-node : goal.invariant-loop-node
invariant-loop-node l = BackSoFar l.fn.nodes l.fn.other_nodes l.places l.node l.back
