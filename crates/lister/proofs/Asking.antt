-- A question put together: what admission refuses, the windows, and then what the search found.
use mathlib.Core.Path.{◌≡◌, refl, subst}
use mathlib.Core.Bool.{Bool, true, false}
use mathlib.Core.Option.{Option, none, some}
use mathlib.Core.List.{List}
use Prim.Native.Nat.{ℕ, ◌≤◌, ◌<◌}
use native.Mathlib.Omega.{arith}
use lib.ListN.{length}
use Rattle.std.specs.Prelude as prelude
use Rattle.std.specs.Prelude.{Result, Ok, Err, Some, None, IfSome}
use Rattle.std.proofs.Common.{Bor, inl, inr}
use Rattle.maths.specs.Cases.{Tells, none_some, some_one, equal}
use Rattle.maths.specs.Tests.{clash, off}
use Rattle.model.specs.Limits as limit
use Rattle.model.specs.Order.{Closed}
use Rattle.model.specs.Graph.{Graph, order, many, Sound}
use Rattle.model.specs.Lent.{graph_in}
use Rattle.model.specs.declared.graph.Graph as lent
use Rattle.model.specs.Refusals.{First, ListerUneven, product, many_windows}
use Rattle.model.specs.Listing.{Gives, ListerAnswer}
use Rattle.model.specs.declared.Refusal.{Refusal}
use Rattle.model.specs.declared.Refusal.TheVariants.{TooManyWindows}
use Rattle.model.specs.declared.Listed.{Listed}
use Rattle.theory.specs.refusals.FirstRefusal.{first_none_append}
use Rattle.theory.specs.refusals.SoundGraph.{closed}
use Rattle.theory.specs.refusals.RowAfterwards.{WritesNothing}
use Rattle.admission.specs.Admitted.{placed_unit_checks, bound_checks, placed_unit_within_checks, StartsRow, Admitted, Matches}
use Rattle.admission.specs.AdmissionLaws.{admitted_matched, matches_yes, matches_both, admitted_refused, admitted_first, admitted_kept, admitted_starts, admitted_late, admitted_given, admitted_sound, admitted_room, passed_own, bound_low, bound_within}
use Rattle.tables.specs.LatestRow.{RoomWithin, LatestRow}
use Rattle.lister.specs.Search.{Reaches, spans, Windows}
use Rattle.lister.specs.Lent.{asked_of}
use Rattle.lister.specs.Asking.{Sought}
use Rattle.lister.proofs.Bounding.{bound_windows, windows_many, windows_few}

-- ---- the rows that only the lister takes
-- a test tells whether there is a unit count for each type, and an entry for each operation in the row asked after
pub matched_as : (g : Graph) (units : List ℕ) {matched : Bool} (after : prelude.Option (Bor (List ℕ))) → Tells matched ((length units ≡ g.kinds) × IfSome after (λ row. length row.now ≡ many g))
    → Matches matched (ListerUneven g units (asked_of after))
unfolding ListerUneven
matched_as g units None t = record { odd = λ not same. t.none not (same, tt); even = λ own. off _ (λ on. own (t.yes on).0) }
matched_as g units (Some row) t = matches_both t

module _ (g : Graph) (units : List ℕ) {matched : Bool} where
  -- where they match, there is a unit count for each type
  pub matched_counts : (asked : Option (List ℕ)) → Matches matched (ListerUneven g units asked) → matched ≡ true → length units ≡ g.kinds
  unfolding ListerUneven
  matched_counts none m on = equal (λ n. clash on (m.even n))
  matched_counts (some row) m on = equal (λ n. clash on (m.even (inl n)))

  -- and an entry for each operation in the row asked after
  pub matched_reaches : (asked : Option (List ℕ)) → Matches matched (ListerUneven g units asked) → matched ≡ true → Reaches asked (many g)
  unfolding ListerUneven
  matched_reaches none m on = record { long = λ row e. absurd (none_some e) }
  matched_reaches (some own) m on =
      let same : length own ≡ many g = equal (λ n. clash on (m.even (inr n))) in
      record { long = λ row e. subst (λ (r : List ℕ). many g ≤ length r) (some_one e) (omega arith) }

-- refusal 10 writes nothing
windows_unwritten : (g : Graph) (bound : ℕ) → WritesNothing (many_windows g bound)
unfolding WritesNothing
windows_unwritten g bound = (λ r. refl, tt)

-- ---- the question's parts
module _ (l : lent.Graph) (units : List ℕ) (bound : ℕ) (asked : Option (List ℕ)) where
  -- the graph that is lent
  abbrev g : Graph
  g = graph_in l

  -- that the question's own rows do not match
  abbrev Odd : Type 0
  Odd = ListerUneven g units asked

  module _ {matched : Bool} (m : Matches matched Odd) {before out : List ℕ} where
    -- refused by one of the first nine
    pub ask_refused : {why : Refusal} → Admitted (order g) (placed_unit_within_checks g (matched ≡ false) (length before) units bound) before (Err why) out
        → ListerAnswer g units bound asked before (Err why) out
    ask_refused {why} h = admitted_refused (admitted_matched m h) (many_windows g bound) (Gives g units bound asked before (Err why))

    module _ {s : List ℕ} (h : Admitted (order g) (placed_unit_within_checks g (matched ≡ false) (length before) units bound) before (Ok s) out) where
      begun : Admitted (order g) (placed_unit_within_checks g Odd (length before) units bound) before (Ok s) out
      begun = admitted_matched m h

      pub ask_sound : Sound g
      ask_sound = admitted_sound begun

      early : StartsRow (order g) s
      early = admitted_starts begun

      on : matched ≡ true
      on = matches_yes m (passed_own g Odd _ (admitted_first begun))

      pub ask_counts : length units ≡ g.kinds
      ask_counts = matched_counts g units asked m on

      bounded : First (bound_checks (order g) bound) none
      bounded = (first_none_append (placed_unit_checks g Odd (length before) units) (bound_checks (order g) bound) (admitted_first begun)).1

      -- the graph's order is closed, and there are latest starts
      pub ask_closed : Closed limit.longest (order g)
      ask_closed = closed g ask_sound

      pub ask_low : bound ≤ limit.steps
      ask_low = bound_low (order g) bound bounded

      pub ask_within : RoomWithin (order g) bound
      ask_within = record { row = s; keeps = early.is.keeps; within = bound_within (order g) bound bounded early }

      -- the row asked after and the output have an entry for each operation
      pub ask_reaches : Reaches asked (many g)
      ask_reaches = matched_reaches g units asked m on

      pub ask_room : many g ≤ length out
      ask_room = admitted_room begun

      module _ {late : List ℕ} (k : LatestRow (order g) bound late) where
        -- the windows are known
        pub ask_windows : Windows s late (many g)
        ask_windows = bound_windows g ask_closed bound ask_low s early.is k

        -- refused by the tenth
        pub ask_many : limit.windows < product (spans s late (many g)) (many g) → ListerAnswer g units bound asked before (Err TooManyWindows) out
        ask_many above =
            admitted_late begun (many_windows g bound) (Gives g units bound asked before (Err TooManyWindows)) (10, 0) (windows_unwritten g bound)
            (windows_many g ask_closed bound ask_low s early.is k above)

        -- what the search answers is the question's answer
        pub ask_sought : (limit.windows < product (spans s late (many g)) (many g) → ⊥) → {r : Listed} {after : List ℕ}
            → Sought (record { graph = g; units = units; early = s; late = late }) asked out r after
            → ListerAnswer g units bound asked before (Ok r) after
        ask_sought few {r} {after} found =
            admitted_given begun (many_windows g bound) (Gives g units bound asked before (Ok r))
            (windows_few g ask_closed bound ask_low s early.is k few)
            (subst (λ (x : List ℕ). Gives g units bound asked x (Ok r) after) (admitted_kept begun)
            (found.gives bound early.is k.is))
