-- The list schedule is lawful at its own latency, which lies between the ASAP latency and the sum of all delays.
use Rattle.std.specs.Prelude.{◌≡◌, refl, ℕ, ◌+◌, ◌≤◌, ◌<◌, take}
use Rattle.std.proofs.Math.Path.{ap}
use Rattle.std.proofs.Common.{◌∙◌, lt-ltb}
use mathlib.Core.List.{List}
use native.Mathlib.Omega.{arith}
use Rattle.std.proofs.Math.ListN.{length}
use Rattle.maths.specs.Tests.{and_true}
use Rattle.maths.specs.Rows.{at, take_at, take_long}
use Rattle.maths.specs.Counting.{count_mono}
use Rattle.model.specs.Order.{source, target}
use Rattle.model.specs.Graph.{Graph, Sound, order, many}
use Rattle.model.specs.Tables.{Keeps, Earliest, Latency}
use Rattle.model.specs.Use.{runs, running, Lawful}
use Rattle.model.specs.Rule.{after, ListStarts}
use Rattle.theory.specs.list.OneStep.{uses}
use Rattle.theory.specs.list.ReachedStates.{Reached, reached, room_always}
use Rattle.theory.specs.list.Progress.{Doable, all_delays, all_finished}
use Rattle.theory.specs.list.OneListSchedule.{list_starts_one, placed_by}

-- ---- it is lawful
module _ (g : Graph) (sound : Sound g) (units t : List ℕ) (h : ListStarts g units t) where
  whole : List ℕ
  whole = after g h.labels units h.rounds

  state : Reached g units whole (h.rounds + 1)
  unfolding whole
  state = reached g h.labels units sound.few h.rounds

  front : (i : ℕ) → i < many g → at t i ≡ at whole i
  unfolding whole
  front i b = ap (λ (row : List ℕ). at row i) h.is ∙ take_at (many g) whole i b

  pub list_long : length t ≡ many g
  unfolding whole
  list_long = ap length h.is ∙ take_long (many g) whole state.wide

  pub list_keeps : Keeps (order g) t
  unfolding whole
  list_keeps = record {
    from_one = λ i b. omega (arith, front i b, h.all.each i b);
    edges = λ e b.
        let i = sound.source_in e b in
        let j = sound.target_in e b in
        omega (
          arith,
          front (source (order g) e) i,
          front (target (order g) e) j,
          (state.after e b (h.all.each (target (order g) e) j)).ended,
        );
  }

  list_room : (k l : ℕ) → running g t k l ≤ at units k
  unfolding whole runs
  list_room k l =
      omega (
        arith,
        count_mono (runs g t k l) (uses g whole k l) (many g)
            (λ i b q. and_true (lt-ltb 0 (at whole i) (h.all.each i b)) (rw (front i b) at q)),
        room_always g units whole (h.rounds + 1) (omega arith) state k l,
      )

  -- the list schedule is lawful for its units at its own latency
  pub list_lawful : (l : ℕ) → Latency (order g) t l → Lawful g units l t
  list_lawful l ends = record {
    long = list_long;
    keeps = list_keeps;
    within = ends.within;
    room = λ k m b. list_room k m;
  }

  -- no less than the ASAP latency
  pub list_asap : (s : List ℕ) (a l : ℕ) → Earliest (order g) s → Latency (order g) s a → Latency (order g) t l → a ≤ l
  list_asap s a l early short ends =
      short.least l (record { ends = λ i b. omega (arith, early.least t list_keeps i b, ends.within.ends i b) })

-- the latency is at most the sum of all delays
pub list_sum : (g : Graph) (units t : List ℕ) (l : ℕ) → Doable g units → ListStarts g units t → Latency (order g) t l → l ≤ all_delays g
list_sum g units t l can h ends =
    let labels = h.labels in
    let n = all_delays g in
    let all = placed_by g labels units can n (omega arith) in
    let same = list_starts_one g units t (take (many g) (after g labels units n)) h
    (record { labels = labels; are_labels = h.are_labels; rounds = n; all = all; is = refl }) in
    ends.least n
    (record {
      ends = λ i b.
          omega (
            arith,
            (all_finished g labels units can n (omega arith) i b).ended,
            ap (λ (row : List ℕ). at row i) same,
            take_at (many g) (after g labels units n) i b,
          );
    })
