-- `list` lends units and the row after them, and replies what the face says.
use Rattle.std.proofs.Common.{rules}
use Rattle.model.specs.Scheduling.{ListAnswer}
use Rattle.pedal.specs.Face.{HandsOn, scheduled_of}
use Rattle.model.specs.Lent.{graph_in}
use Rattle.engine.proofs.Lending.{said_of}
use Rattle.engine.proofs.questions.list.Goals as goal

pub returns : goal.returns
returns c =
    record {
      whole = search rules;
      short = search rules;
      lies = search rules;
      says = record {
        said = c.pedal_list-said.result;
        is = said_of (λ units before after. HandsOn (λ a. ListAnswer (graph_in c.args.graph.now) units before a after) scheduled_of)
            c.pedal_list-said.new.out _ _ c.pedal_list-said.ensures (search rules) (search rules) (search rules);
        told = search rules;
      };
    }
