-- `ask` replies to the question that has the number.
use Rattle.std.proofs.Common.{sym, ap, ◌∙◌}
use Rattle.engine.specs.Dispatch.{Answers}
use Rattle.engine.specs.Numbers.{number_of}
use Rattle.engine.specs.declared.question.Question.TheVariants as questions
use Rattle.engine.proofs.dispatch.ask.Goals as goal

pub returns-in-Graph : goal.returns-in-Graph
returns-in-Graph c = Answers.replied (questions.Graph c.in-Graph.question) (sym (ap number_of c.in-Graph.is) ∙ c.in_ok-question.ensures) c.graph_question.ensures

pub returns-in-View : goal.returns-in-View
returns-in-View c = Answers.replied questions.View (sym (ap number_of c.in-View.is) ∙ c.in_ok-question.ensures) c.view.ensures
