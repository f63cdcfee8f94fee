-- `next` lends units, the row asked after and the output, and replies what the face says.
use Rattle.std.proofs.Common.{rules}
use Rattle.std.proofs.Math.Option.{some}
use Rattle.model.specs.Listing.{ListerAnswer}
use Rattle.pedal.specs.Face.{HandsOn, listed_of}
use Rattle.model.specs.Lent.{graph_in}
use Rattle.engine.proofs.Lending.{said_of_two}
use Rattle.engine.proofs.questions.next.Goals as goal

pub returns : goal.returns
returns c =
    record {
      whole = search rules;
      short = search rules;
      lies = search rules;
      says = record {
        said = c.pedal_next-said.result;
        is = said_of_two (λ units asked before after. HandsOn (λ a. ListerAnswer (graph_in c.args.graph.now) units c.args.bound (some asked) before a after) listed_of)
            c.pedal_next-said.new.out _ _ c.pedal_next-said.ensures (search rules) (search rules) (search rules) (search rules);
        told = search rules;
      };
    }
