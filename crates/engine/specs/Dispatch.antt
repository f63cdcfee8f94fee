-- What is replied to each question, and which number it has.
use Rattle.std.specs.Prelude.{List, ◌≡◌, ℕ, ◌<◌, ◌⊎◌, Result, Err}
use Rattle.model.specs.Graph.{Graph}
use Rattle.engine.specs.Frame.{eight, rest_from, graph_at}
use Rattle.engine.specs.Numbers.{number_of, numbers_of}
use Rattle.engine.specs.Asked.{AsapReply, AlapReply, MobilityReply, ListReply, AdvanceReply, CheckReply, PeakReply, FirstReply, NextReply, ViewReply}
use Rattle.engine.specs.declared.reply.Reply.{Reply}
use Rattle.engine.specs.declared.fault.Fault.{Fault}
use Rattle.engine.specs.declared.fault.Fault.TheVariants.{Unknown}
use Rattle.engine.specs.declared.question.About as about
use Rattle.engine.specs.declared.question.About.TheVariants as abouts
use Rattle.engine.specs.declared.question.Question as question
use Rattle.engine.specs.declared.question.Question.TheVariants as questions

-- the reply to each question about a graph; `second` is its bound or step, where it takes one, and its own rows begin at `rest`
abbrev pub GraphReply : Graph → ℕ → List ℕ → ℕ → Result Reply Fault → List ℕ → about.About → Type 0
GraphReply g second b rest r row abouts.Asap = AsapReply g b rest r row
GraphReply g second b rest r row abouts.Alap = AlapReply g second b rest r row
GraphReply g second b rest r row abouts.Mobility = MobilityReply g second b rest r row
GraphReply g second b rest r row abouts.List = ListReply g b rest r row
GraphReply g second b rest r row abouts.Advance = AdvanceReply g second b rest r row
GraphReply g second b rest r row abouts.Check = CheckReply g second b rest r
GraphReply g second b rest r row abouts.Peak = PeakReply g b rest r
GraphReply g second b rest r row abouts.First = FirstReply g second b rest r row
GraphReply g second b rest r row abouts.Next = NextReply g second b rest r row

-- the reply to each question that the bytes hold: about their graph, after one number or two, or about two tables
abbrev pub Replied : List ℕ → Result Reply Fault → List ℕ → question.Question → Type 0
Replied b r row (questions.Graph q) = GraphReply (graph_at b (numbers_of q)) (eight b 8) b (rest_from b (numbers_of q)) r row q
Replied b r row questions.View = ViewReply (eight b 0) (eight b 8) (eight b 16) b 24 r

-- the reply to the question that has the number; where none has it, nothing was asked
pub data Answers (b : List ℕ) (r : Result Reply Fault) (row : List ℕ) (number : ℕ) : Type 0 where
  replied : (q : question.Question) → number_of q ≡ number → Replied b r row q → Answers b r row number
  unknown : (number ≡ 0) ⊎ (10 < number) → r ≡ Err Unknown → Answers b r row number
