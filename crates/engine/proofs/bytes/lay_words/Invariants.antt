-- `lay_words` has written as many entries as it has passed.
use Rattle.engine.specs.Laid.{WordsLaid}
use Rattle.engine.proofs.bytes.lay_words.Given as goal

abbrev pub invariant-loop-i : goal.invariant-loop-i
invariant-loop-i l = WordsLaid l.row l.i l.initial.bytes l.at l.bytes
