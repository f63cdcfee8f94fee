-- `unitless_kind` answers the lowest type in use that has no unit: it is the lowest over the operations passed.
use Rattle.admission.proofs.Unitless.{SoFar}
use Rattle.admission.proofs.shape.unitless_kind.Given as goal

abbrev pub invariant-loop-own : goal.invariant-loop-own
invariant-loop-own l = SoFar l.graph.types.now l.units l.graph.kinds l.lowest l.own-index
