-- The reply to a question about the graph that was read is the one to the graph of the bytes.
use Rattle.std.proofs.Common.{◌≡◌, List, ℕ, ◌*◌, subst, refl, Result}
use Rattle.model.specs.Graph.{Graph, lent}
use Rattle.engine.specs.Frame.{eight, bytes_at, words_at, past_bytes, past_words, types_from, from_from, to_from, rest_from, graph_at}
use Rattle.engine.specs.Numbers.{numbers_of}
use Rattle.engine.specs.Dispatch.{GraphReply, Replied}
use Rattle.engine.specs.declared.reply.Reply.{Reply}
use Rattle.engine.specs.declared.fault.Fault.{Fault}
use Rattle.engine.specs.declared.question.About.{About}
use Rattle.engine.specs.declared.question.About.TheVariants as abouts
use Rattle.engine.specs.declared.question.Question.TheVariants as questions

-- the graph was read, row after row, from the bytes after its numbers; `rest` is where it ends
pub record GraphRead (b : List ℕ) (count kinds : ℕ) (delays types from to : List ℕ) (rest : ℕ) : Type 0 where
  pub start : ℕ
  pub past_delays : ℕ
  pub past_types : ℕ
  pub past_from : ℕ
  pub start_is : start ≡ 8 * count
  pub kinds_are : kinds ≡ eight b 0
  pub delays_are : delays ≡ bytes_at b start
  pub past_delays_is : past_delays ≡ past_bytes b start
  pub types_are : types ≡ bytes_at b past_delays
  pub past_types_is : past_types ≡ past_bytes b past_delays
  pub from_are : from ≡ words_at b past_types
  pub past_from_is : past_from ≡ past_words b past_types
  pub to_are : to ≡ words_at b past_from
  pub rest_is : rest ≡ past_words b past_from

module _ {b delays types from to : List ℕ} {count kinds rest : ℕ} (h : GraphRead b count kinds delays types from to rest) where
  graph_is : lent delays types kinds from to ≡ graph_at b count
  unfolding graph_at types_from from_from to_from
  graph_is = cc

  rest_at : rest ≡ rest_from b count
  unfolding rest_from types_from from_from to_from
  rest_at = cc

-- where a question takes no second number, its reply is the same whatever that is
same_second : (g : Graph) (b row : List ℕ) (rest second : ℕ) (r : Result Reply Fault) (q : About) → (numbers_of q ≡ 2 → second ≡ eight b 8)
    → GraphReply g second b rest r row q → GraphReply g (eight b 8) b rest r row q
same_second g b row rest second r abouts.Asap s h = h
same_second g b row rest second r abouts.List s h = h
same_second g b row rest second r abouts.Peak s h = h
same_second g b row rest second r abouts.Alap s h = subst (λ (x : ℕ). GraphReply g x b rest r row abouts.Alap) (s refl) h
same_second g b row rest second r abouts.Mobility s h = subst (λ (x : ℕ). GraphReply g x b rest r row abouts.Mobility) (s refl) h
same_second g b row rest second r abouts.Advance s h = subst (λ (x : ℕ). GraphReply g x b rest r row abouts.Advance) (s refl) h
same_second g b row rest second r abouts.Check s h = subst (λ (x : ℕ). GraphReply g x b rest r row abouts.Check) (s refl) h
same_second g b row rest second r abouts.First s h = subst (λ (x : ℕ). GraphReply g x b rest r row abouts.First) (s refl) h
same_second g b row rest second r abouts.Next s h = subst (λ (x : ℕ). GraphReply g x b rest r row abouts.Next) (s refl) h

-- the reply is the one to the graph of the bytes
pub replied : {b bytes delays types from to : List ℕ} (row : List ℕ) {kinds rest second : ℕ} (r : Result Reply Fault) (q : About)
    → GraphRead b (numbers_of q) kinds delays types from to rest → bytes ≡ b → (numbers_of q ≡ 2 → second ≡ eight b 8)
    → GraphReply (lent delays types kinds from to) second bytes rest r row q → Replied b r row (questions.Graph q)
replied {b} {bytes} row {rest = rest} {second} r q h same s reply =
    same_second (graph_at b (numbers_of q)) b row (rest_from b (numbers_of q)) second r q s
    (subst (λ (x : List ℕ). GraphReply (graph_at b (numbers_of q)) second x (rest_from b (numbers_of q)) r row q) same
    (subst (λ (i : ℕ). GraphReply (graph_at b (numbers_of q)) second bytes i r row q) (rest_at h)
    (subst (λ (g : Graph). GraphReply g second bytes rest r row q) (graph_is h) reply)))
