-- After k turns the first k entries are the cycle's, and the rest is as it was.
use Rattle.theory.specs.cycle.WritingTheCycle.{Wrote}
use Rattle.cycle.proofs.Walked.write.Given as goal

abbrev pub invariant-loop-k : goal.invariant-loop-k
invariant-loop-k l = Wrote l.self.met l.self.twice l.self.count l.lowest l.initial.out l.out l.k
