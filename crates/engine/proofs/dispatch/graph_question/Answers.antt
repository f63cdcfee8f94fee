-- `graph_question` lends the graph that the bytes hold, and replies to the question about it.
use Rattle.std.proofs.Common.{rules}
use Rattle.engine.proofs.Dispatching.{replied}
use Rattle.engine.proofs.dispatch.graph_question.Goals as goal

pub returns : goal.returns
returns c =
    replied _ _ c.args.question
    (record {
      start = c.second_of.new.rest.at;
      past_delays = c.bytes.new.self.at;
      past_types = c.bytes-2.new.self.at;
      past_from = c.words.new.self.at;
      start_is = search rules;
      kinds_are = search rules;
      delays_are = search rules;
      past_delays_is = search rules;
      types_are = search rules;
      past_types_is = search rules;
      from_are = search rules;
      past_from_is = search rules;
      to_are = search rules;
      rest_is = search rules;
    })
    (search rules)
    (search rules)
    c.about.ensures
