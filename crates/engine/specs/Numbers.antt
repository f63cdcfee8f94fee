-- The numbers that stand for questions and faults in bytes.
use Rattle.std.specs.Prelude.{◌≡◌, ℕ, ◌<◌, ◌⊎◌, Result, MatchResult}
use Rattle.engine.specs.declared.question.About.{About}
use Rattle.engine.specs.declared.question.About.TheVariants.{Asap, Alap, Mobility, List, Advance, Check, Peak, First, Next}
use Rattle.engine.specs.declared.question.Question.{Question}
use Rattle.engine.specs.declared.question.Question.TheVariants.{Graph, View}
use Rattle.engine.specs.declared.fault.Fault.{Fault}
use Rattle.engine.specs.declared.fault.Fault.TheVariants.{CutOff, Unknown, Misfit, TooLong}

-- each question's number
abbrev pub number_of : Question → ℕ
number_of (Graph Asap) = 1
number_of (Graph Alap) = 2
number_of (Graph Mobility) = 3
number_of (Graph List) = 4
number_of (Graph Advance) = 5
number_of (Graph Check) = 6
number_of (Graph Peak) = 7
number_of (Graph First) = 8
number_of (Graph Next) = 9
number_of View = 10

-- the question with this number, or no question has it
abbrev pub IsNumbered : ℕ → Result Question Fault → Type 0
IsNumbered number r = MatchResult r (λ q. number_of q ≡ number) (λ e. (e ≡ Unknown) × ((number ≡ 0) ⊎ (10 < number)))

-- how many numbers a question about a graph takes: the number of types, and for some a bound or a step
abbrev pub numbers_of : About → ℕ
numbers_of Asap = 1
numbers_of Alap = 2
numbers_of Mobility = 2
numbers_of List = 1
numbers_of Advance = 2
numbers_of Check = 2
numbers_of Peak = 1
numbers_of First = 2
numbers_of Next = 2

-- each fault's number
abbrev pub number_of_fault : Fault → ℕ
number_of_fault CutOff = 1
number_of_fault Unknown = 2
number_of_fault Misfit = 3
number_of_fault TooLong = 4
