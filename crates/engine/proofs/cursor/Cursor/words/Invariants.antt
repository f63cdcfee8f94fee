-- `words` has read as many entries as it has passed.
use Rattle.std.proofs.Common.{◌≡◌, ◌*◌, ℕ, ◌<◌, get_or}
use Rattle.engine.specs.Frame.{two}
use Rattle.engine.proofs.cursor.Cursor.words.Given as goal

abbrev pub invariant-loop-i : goal.invariant-loop-i
invariant-loop-i l = (k : ℕ) → k < l.i → get_or l.word-items k 0 ≡ two l.entries (2 * k)
