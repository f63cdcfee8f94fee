-- `words` reads the row that the bytes hold.
use Rattle.std.proofs.Common.{rules}
use Rattle.engine.proofs.Reading.{read_is}
use Rattle.engine.proofs.cursor.Cursor.words.Goals as goal

pub returns-clause-read : goal.returns-clause-read
returns-clause-read c =
    record {
      at = search rules;
      len = search rules;
      short = search rules;
      room = search rules;
      is = read_is _ _ _ _ _ _ _ (search rules) c.in_ok-len.ensures.moved c.in_ok-len.ensures.read (search rules) (λ k l. c.loop-i.invariant k (search rules));
      next_is = search rules;
    }
