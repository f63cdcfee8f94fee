-- What is replied to each question: what the face says of the numbers and rows in the question's bytes.
use Rattle.std.specs.Prelude.{◌≡◌, List, [], ◌∷◌, ℕ, ◌+◌, ◌≤◌, length, take, Result, IfOk, Some, None}
use Rattle.std.proofs.Math.Option.{none, some}
use Rattle.model.specs.Graph.{Graph}
use Rattle.model.specs.Answers.{AsapAnswer, AlapAnswer, MobilityAnswer}
use Rattle.model.specs.Scheduling.{ListAnswer}
use Rattle.model.specs.Verdicts.{Checked, PeakAnswer}
use Rattle.model.specs.Listing.{ListerAnswer}
use Rattle.model.specs.Channels.{Table}
use Rattle.pedal.specs.Face.{HandsOn, filled_of, scheduled_of, verdict_of, listed_of, peaks_of, AdvanceSaid, PartSaid}
use Rattle.pedal.specs.declared.Filled.{Filled}
use Rattle.pedal.specs.declared.Scheduled.{Scheduled}
use Rattle.pedal.specs.declared.Verdict.{Verdict}
use Rattle.pedal.specs.declared.Listed.{Listed}
use Rattle.pedal.specs.declared.Peaks.{Peaks}
use Rattle.pedal.specs.declared.Advanced.{Advanced}
use Rattle.pedal.specs.declared.Part.{Part}
use Rattle.engine.specs.Frame.{longest, four, past_bytes, past_words, bytes_at, words_at}
use Rattle.engine.specs.declared.reply.Reply.{Reply}
use Rattle.engine.specs.declared.fault.Fault.{Fault}

-- the reply's numbers are those of an answer that the face gives
pub record Says {R : Type 0} (Face : R → Type 0) (numbers : R → List ℕ) (r : Reply) : Type 0 where
  pub said : R
  pub is : Face said
  pub told : take r.count r.numbers ≡ numbers said

-- a question that writes a row, the last one, which begins at `last`: the bytes end with it, and it is afterwards what the face makes of it
pub record Wrote {R : Type 0} (b : List ℕ) (last : ℕ) (Face : List ℕ → R → Type 0) (numbers : R → List ℕ) (r : Reply) (row : List ℕ) : Type 0 where
  pub whole : past_words b last ≡ length b
  pub short : four b last ≤ longest
  pub lies : r.row ≡ Some (record { at = last + 4; len = four b last })
  pub says : Says (Face (take (four b last) row)) numbers r

-- a question that writes no row; its last one begins at `last`
pub record Read {R : Type 0} (b : List ℕ) (last : ℕ) (Face : R → Type 0) (numbers : R → List ℕ) (r : Reply) : Type 0 where
  pub whole : past_words b last ≡ length b
  pub none_lies : r.row ≡ None
  pub says : Says Face numbers r

-- the reply to a question that writes a row, and to one that does not; a fault says that nothing was asked
abbrev pub RowReply : {R : Type 0} → List ℕ → ℕ → (List ℕ → R → Type 0) → (R → List ℕ) → Result Reply Fault → List ℕ → Type 0
RowReply b last Face numbers r row = IfOk r (λ p. Wrote b last Face numbers p row)

abbrev pub PlainReply : {R : Type 0} → List ℕ → ℕ → (R → Type 0) → (R → List ℕ) → Result Reply Fault → Type 0
PlainReply b last Face numbers r = IfOk r (Read b last Face numbers)

-- each answer's numbers, in the order of the C struct
abbrev pub filled_numbers : Filled → List ℕ
filled_numbers f = f.refusal ∷ (f.place ∷ [])

abbrev pub scheduled_numbers : Scheduled → List ℕ
scheduled_numbers p = p.refusal ∷ (p.place ∷ (p.latency ∷ []))

abbrev pub advanced_numbers : Advanced → List ℕ
advanced_numbers m = m.refusal ∷ (m.place ∷ (m.step ∷ []))

abbrev pub verdict_numbers : Verdict → List ℕ
verdict_numbers j = j.refusal ∷ (j.place ∷ (j.finding ∷ (j.first ∷ (j.second ∷ []))))

abbrev pub peaks_numbers : Peaks → List ℕ
peaks_numbers p = p.refusal ∷ (p.place ∷ (p.peak0 ∷ (p.peak1 ∷ (p.peak2 ∷ (p.peak3 ∷ [])))))

abbrev pub listed_numbers : Listed → List ℕ
listed_numbers l = l.refusal ∷ (l.place ∷ (l.found ∷ []))

abbrev pub part_numbers : Part → List ℕ
part_numbers p = p.refusal ∷ (p.start ∷ (p.length ∷ []))

-- earliest starts; the question's own rows begin at `rest`
abbrev pub AsapReply : Graph → List ℕ → ℕ → Result Reply Fault → List ℕ → Type 0
AsapReply g b rest = RowReply b rest (λ after. HandsOn (λ a. AsapAnswer g (words_at b rest) a after) filled_of) filled_numbers

-- latest starts
abbrev pub AlapReply : Graph → ℕ → List ℕ → ℕ → Result Reply Fault → List ℕ → Type 0
AlapReply g bound b rest = RowReply b rest (λ after. HandsOn (λ a. AlapAnswer g bound (words_at b rest) a after) filled_of) filled_numbers

-- mobility
abbrev pub MobilityReply : Graph → ℕ → List ℕ → ℕ → Result Reply Fault → List ℕ → Type 0
MobilityReply g bound b rest = RowReply b rest (λ after. HandsOn (λ a. MobilityAnswer g bound (words_at b rest) a after) filled_of) filled_numbers

-- the list schedule: units, then the output
abbrev pub ListReply : Graph → List ℕ → ℕ → Result Reply Fault → List ℕ → Type 0
ListReply g b rest =
    RowReply b (past_bytes b rest) (λ after. HandsOn (λ a. ListAnswer g (bytes_at b rest) (words_at b (past_bytes b rest)) a after) scheduled_of) scheduled_numbers

-- the advance: units, then the state's starts
abbrev pub AdvanceReply : Graph → ℕ → List ℕ → ℕ → Result Reply Fault → List ℕ → Type 0
AdvanceReply g step b rest =
    RowReply b (past_bytes b rest) (λ after m. AdvanceSaid g (bytes_at b rest) (words_at b (past_bytes b rest)) step m after) advanced_numbers

-- the checker: units, then starts
abbrev pub CheckReply : Graph → ℕ → List ℕ → ℕ → Result Reply Fault → Type 0
CheckReply g bound b rest =
    PlainReply b (past_bytes b rest) (HandsOn (Checked g (bytes_at b rest) bound (words_at b (past_bytes b rest))) verdict_of) verdict_numbers

-- peak use: starts
abbrev pub PeakReply : Graph → List ℕ → ℕ → Result Reply Fault → Type 0
PeakReply g b rest = PlainReply b rest (HandsOn (PeakAnswer g (words_at b rest)) peaks_of) peaks_numbers

-- the first schedule: units, then the output
abbrev pub FirstReply : Graph → ℕ → List ℕ → ℕ → Result Reply Fault → List ℕ → Type 0
FirstReply g bound b rest =
    RowReply b (past_bytes b rest) (λ after. HandsOn (λ a. ListerAnswer g (bytes_at b rest) bound none (words_at b (past_bytes b rest)) a after) listed_of) listed_numbers

-- where the output of `next` begins: after units and the row asked after
abbrev pub past_after : List ℕ → ℕ → ℕ
past_after b rest = past_words b (past_bytes b rest)

-- the schedule after a row: units, the row, then the output
abbrev pub NextReply : Graph → ℕ → List ℕ → ℕ → Result Reply Fault → List ℕ → Type 0
NextReply g bound b rest =
    RowReply b (past_after b rest)
    (λ after. HandsOn (λ a. ListerAnswer g (bytes_at b rest) bound (some (words_at b (past_bytes b rest))) (words_at b (past_after b rest)) a after) listed_of) listed_numbers

-- two tables with the rows' entries, wherever they lie
pub record Tables (a b : List ℕ) (channel first count : ℕ) (p : Part) : Type 0 where
  pub one : Table
  pub other : Table
  pub one_has : one.now ≡ a
  pub other_has : other.now ≡ b
  pub said : PartSaid one other channel first count p

-- a view: channel A's table, then B's
abbrev pub ViewReply : ℕ → ℕ → ℕ → List ℕ → ℕ → Result Reply Fault → Type 0
ViewReply channel first count b rest = PlainReply b (past_words b rest) (Tables (words_at b rest) (words_at b (past_words b rest)) channel first count) part_numbers
