-- The end of each table: the row is written over the output's first entries, and the rest stays.
use mathlib.Core.Path.{◌≡◌, sym}
use mathlib.Core.Bool.{true, false}
use mathlib.Core.Option.{none, some}
use mathlib.Core.List.{List, []}
use Prim.Native.Nat.{ℕ, ◌≤◌, ◌<◌}
use native.Mathlib.Omega.{arith}
use lib.ListN.{length, take}
use Rattle.maths.specs.Rows.{at, over, take_at, take_long}
use Rattle.model.specs.Limits as limit
use Rattle.model.specs.Order.{Closed}
use Rattle.model.specs.Graph.{Graph, order, many, Sound}
use Rattle.model.specs.Tables.{Earliest, Latest, Asap, Alap, Mobility}
use Rattle.model.specs.Refusals.{First}
use Rattle.model.specs.Checks.{alap_checks}
use Rattle.model.specs.Answers.{numbered, Fills, Answered, AsapAnswer, AlapAnswer, MobilityAnswer}
use Rattle.std.specs.Prelude.{Ok, Err}
use Rattle.model.specs.declared.Refusal.{Refusal}
use Rattle.theory.specs.tables.KeepingStarts.{earliest_same, latest_same}
use Rattle.theory.specs.tables.LatestTurned.{asap_alap}
use Rattle.theory.specs.refusals.FirstRefusal.{first_end, first_none_append}
use Rattle.theory.specs.refusals.SoundGraph.{closed}
use Rattle.latency.specs.Differences.{Under, Differences}
use Rattle.admission.specs.Admitted.{placed_checks, bound_checks, placed_within_checks, StartsRow, Admitted}
use Rattle.admission.specs.AdmissionLaws.{admitted_matched, matches_none, admitted_refused, admitted_first, admitted_starts, admitted_given, admitted_fills, admitted_sound, admitted_room, bound_low, bound_within}
use Rattle.tables.specs.LatestRow.{RoomWithin, LatestRow}

-- the first n entries of a row with n or more
module _ (g : Graph) (good : Sound g) (s : List ℕ) (long : length s ≡ limit.operations) where
  front_long : length (take (many g) s) ≡ many g
  front_long = take_long (many g) s (omega (arith, good.few))

  front_same : (i : ℕ) → i < many g → at s i ≡ at (take (many g) s) i
  front_same i l = sym (take_at (many g) s i l)

  pub asap_front : Earliest (order g) s → Asap g (take (many g) s)
  asap_front h = record {
    long = front_long;
    earliest = earliest_same (order g) (closed g good) s (take (many g) s) front_same h;
  }

  pub alap_front : (bound : ℕ) → Latest (order g) bound s → Alap g bound (take (many g) s)
  alap_front bound h = record {
    long = front_long;
    latest = latest_same (order g) (closed g good) s (take (many g) s) front_same bound h;
  }

-- what `placed` leaves: the tables have no rows of their own to match
module _ {g : Graph} {before mid : List ℕ} where
  pub asap_refused : {why : Refusal} → Admitted (order g) (placed_checks g (true ≡ false) (length before)) before (Err why) mid
      → AsapAnswer g before (Err why) mid
  asap_refused h = admitted_refused (admitted_matched matches_none h) [] (Fills (Asap g) before)

  module _ {s : List ℕ} (h : Admitted (order g) (placed_checks g (true ≡ false) (length before)) before (Ok s) mid) where
    plain : Admitted (order g) (placed_checks g ⊥ (length before)) before (Ok s) mid
    plain = admitted_matched matches_none h

    -- the output has room for as many entries as there are operations
    pub fill_few : many g ≤ limit.operations
    fill_few = (admitted_sound plain).few

    pub fill_room : many g ≤ length mid
    fill_room = admitted_room plain

    pub asap_done : {after : List ℕ} → after ≡ over (take (many g) s) mid → AsapAnswer g before (Ok tt) after
    asap_done w =
        let early = admitted_starts plain in
        admitted_given plain [] (Fills (Asap g) before) first_end
        (admitted_fills plain (Asap g) w (asap_front g (admitted_sound plain) s early.long early.is))

-- what `placed_within` leaves
module _ {g : Graph} {bound : ℕ} {before mid : List ℕ} where
  pub within_refused : (Given : List ℕ → Type 0) {why : Refusal}
      → Admitted (order g) (placed_within_checks g (true ≡ false) (length before) bound) before (Err why) mid
      → Answered (alap_checks g bound (length before)) before Given (some (numbered why)) mid
  within_refused Given h = admitted_refused (admitted_matched matches_none h) [] Given

  module _ {s : List ℕ} (h : Admitted (order g) (placed_within_checks g (true ≡ false) (length before) bound) before (Ok s) mid) where
    plain_within : Admitted (order g) (placed_within_checks g ⊥ (length before) bound) before (Ok s) mid
    plain_within = admitted_matched matches_none h

    good : Sound g
    good = admitted_sound plain_within

    early : StartsRow (order g) s
    early = admitted_starts plain_within

    passed : First (bound_checks (order g) bound) none
    passed = (first_none_append (placed_checks g ⊥ (length before)) (bound_checks (order g) bound) (admitted_first plain_within)).1

    -- what `latest` asks: a closed order, a low bound, and starts within it
    pub latest_closed : Closed limit.longest (order g)
    latest_closed = closed g good

    pub latest_low : bound ≤ limit.steps
    latest_low = bound_low (order g) bound passed

    pub latest_room : RoomWithin (order g) bound
    latest_room = record { row = s; keeps = early.is.keeps; within = bound_within (order g) bound passed early }

    pub within_few : many g ≤ limit.operations
    within_few = good.few

    pub within_room : many g ≤ length mid
    within_room = admitted_room plain_within

    -- a row with `Is` is written
    given : (Is : List ℕ → Type 0) (row : List ℕ) {after : List ℕ} → after ≡ over row mid → Is row
        → Answered (alap_checks g bound (length before)) before (Fills Is before) none after
    given Is row w is = admitted_given plain_within [] (Fills Is before) first_end (admitted_fills plain_within Is w is)

    module _ {late : List ℕ} (k : LatestRow (order g) bound late) where
      pub alap_done : {after : List ℕ} → after ≡ over (take (many g) late) mid → AlapAnswer g bound before (Ok tt) after
      alap_done w = given (Alap g bound) (take (many g) late) w (alap_front g good late k.long bound k.is)

      -- no latest start lies before the earliest
      pub under : Under late s (many g)
      under = record { few = good.few; under = asap_alap (order g) bound s late early.is k.is }

      pub mobility_done : {spread after : List ℕ} → Differences late s (many g) spread → after ≡ over (take (many g) spread) mid
          → MobilityAnswer g bound before (Ok tt) after
      mobility_done {spread} d w =
          given (Mobility g bound) (take (many g) spread) w
          (record {
            long = take_long (many g) spread (omega (arith, good.few, d.long));
            asap = take (many g) s;
            alap = take (many g) late;
            is_asap = asap_front g good s early.long early.is;
            is_alap = alap_front g good late k.long bound k.is;
            less = λ i l.
                omega (
                  arith,
                  take_at (many g) spread i l,
                  take_at (many g) late i l,
                  take_at (many g) s i l,
                  d.less i l,
                );
          })
