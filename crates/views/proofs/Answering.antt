-- From the answers about one table to the answers about two: the channel chooses the table, and the range decides.
use mathlib.Core.Path.{◌≡◌}
use mathlib.Core.Logic.{inl, inr, ⊎_elim}
use mathlib.Core.Option.{none, some}
use Prim.Native.Nat.{ℕ, ◌+◌}
use borrow.Author.Tests.{ne_eqb}
use lib.ListN.{length}
use Rattle.maths.specs.Cases.{le_or_lt}
use Rattle.std.specs.declared.option.Option as rust
use Rattle.std.specs.declared.option.Option.TheVariants.{Some}
use Rattle.model.specs.Views.{PartOf, PartAfter, Viewed, ViewRefusal}
use Rattle.model.specs.declared.Refusal.{Refusal}
use Rattle.model.specs.declared.Refusal.TheVariants.{Channel}
use Rattle.model.specs.Channels.{Table, chosen}
use Rattle.theory.specs.views.OneView.{Named, passes, refuses_channel, refuses_range}
use Rattle.views.specs.Part.{PartIn, RangeRefusal}

module _ (a b : Table) (channel first count : ℕ) where
  -- the part of the chosen table is the view: that table's length decides
  viewed : (r : Table) → Named channel → PartIn (chosen a b channel) first count r → Viewed a b channel first count r
  unfolding PartAfter
  viewed r is_named p =
      ⊎_elim
      (λ l. record {
        refusal = none;
        checked = passes a b channel first count (record { named = is_named; reaches = l });
        part = p.whole l;
      })
      (λ l. record {
        refusal = some (13, 0);
        checked = refuses_range a b channel first count (record { named = is_named; past = l });
        part = p.empty l;
      })
      (le_or_lt (first + count) (length (chosen a b channel).now))

  -- why the chosen table has no such part is why there is no view
  refused : (r : rust.Option Refusal) → Named channel → RangeRefusal (length (chosen a b channel).now) first count r → ViewRefusal a b channel first count r
  refused r is_named p =
      ⊎_elim
      (λ l. rw (p.available l) (passes a b channel first count (record { named = is_named; reaches = l })))
      (λ l. rw (p.past_end l) (refuses_range a b channel first count (record { named = is_named; past = l })))
      (le_or_lt (first + count) (length (chosen a b channel).now))

  -- the same of A's table for channel 0, and of B's for channel 1
  pub viewed_a : (r : Table) → channel ≡ 0 → PartIn a first count r → Viewed a b channel first count r
  viewed_a r e p = viewed r (inl e) (rw e p)

  pub viewed_b : (r : Table) → channel ≡ 1 → PartIn b first count r → Viewed a b channel first count r
  viewed_b r e p = viewed r (inr e) (rw e p)

  pub refused_a : (r : rust.Option Refusal) → channel ≡ 0 → RangeRefusal (length a.now) first count r → ViewRefusal a b channel first count r
  refused_a r e p = refused r (inl e) (rw e p)

  pub refused_b : (r : rust.Option Refusal) → channel ≡ 1 → RangeRefusal (length b.now) first count r → ViewRefusal a b channel first count r
  refused_b r e p = refused r (inr e) (rw e p)

  -- no channel: the empty part at the beginning of A's table
  pub viewed_none : (r : Table) → (channel ≡ 0 → ⊥) → (channel ≡ 1 → ⊥) → PartOf a 0 0 r → Viewed a b channel first count r
  unfolding PartAfter
  viewed_none r x y p = record {
    refusal = some (12, 0);
    checked = refuses_channel a b channel first count (record { not_a = x; not_b = y });
    part = rw (ne_eqb channel 1 y) p;
  }

  -- no channel: that refusal
  pub refused_none : (channel ≡ 0 → ⊥) → (channel ≡ 1 → ⊥) → ViewRefusal a b channel first count (Some Channel)
  refused_none x y = refuses_channel a b channel first count (record { not_a = x; not_b = y })
