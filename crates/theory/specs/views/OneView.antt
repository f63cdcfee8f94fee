-- A view is one part of one table's memory, and has one refusal at most.
use Rattle.std.specs.Prelude.{◌≡◌, refl, ◌⊎◌, ℕ, ◌+◌, ◌<◌, ◌≤◌, length}
use Rattle.std.proofs.Common.{sym, ap, subst, ◌∙◌, ⊎_elim, arith}
use Rattle.std.proofs.Math.Logic.{inl, inr}
use Rattle.std.proofs.Math.Option.{Option, none, some}
use Rattle.std.specs.declared.option.Option as rust
use Rattle.std.specs.declared.option.Option.TheVariants.{None, Some}
use Rattle.maths.specs.Cases.{none_some, some_one}
use Rattle.model.specs.Refusals.{First, NoChannel}
use Rattle.model.specs.declared.Refusal.{Refusal}
use Rattle.theory.specs.refusals.RefusalNumbers.{numbered_one}
use Rattle.model.specs.Views.{PartOf, PartAfter, Viewed, named, ViewRefusal}
use Rattle.model.specs.Channels.{Table, chosen}
use Rattle.model.specs.Checks.{view_checks}
use Rattle.theory.specs.refusals.OneRefusal.{Ones, first_one, flat_one}

-- the channel is one of the two
abbrev pub Named : ℕ → Type 0
Named channel = (channel ≡ 0) ⊎ (channel ≡ 1)

-- the channel names a table, and that table reaches to the end of the part asked for
pub record Available (a b : Table) (channel first count : ℕ) : Type 0 where
  pub named : Named channel
  pub reaches : first + count ≤ length (chosen a b channel).now

-- the channel names a table, and that table ends before the part asked for does
pub record PastEnd (a b : Table) (channel first count : ℕ) : Type 0 where
  pub named : Named channel
  pub past : length (chosen a b channel).now < first + count

-- the same entries in the same place
pub record SamePart (r r' : Table) : Type 0 where
  pub contents : r.now ≡ r'.now
  pub place : r.ref_ptr ≡ r'.ref_ptr

-- and not both
named_not_none : {channel : ℕ} → Named channel → NoChannel channel → ⊥
named_not_none h n = ⊎_elim n.not_a n.not_b h

-- a table, a first entry and a count leave one part
part_one : {t : Table} {first count : ℕ} (r r' : Table) → PartOf t first count r → PartOf t first count r' → SamePart r r'
part_one r r' p q = record { contents = p.contents ∙ sym q.contents; place = p.place ∙ sym q.place }

-- refusals that are named alike are alike
named_one : (n m : rust.Option Refusal) → named n ≡ named m → n ≡ m
named_one None None e = refl
named_one None (Some w) e = absurd (none_some e)
named_one (Some v) None e = absurd (none_some (sym e))
named_one (Some v) (Some w) e = ap Some (numbered_one v w (some_one e))

module _ (a b : Table) (channel first count : ℕ) where
  -- an available part passes both checks
  pub passes : Available a b channel first count → First (view_checks a b channel first count) none
  unfolding First
  passes h = (λ n p f. named_not_none h.named f.why, (λ n p f. omega (arith, h.reaches, f.why), tt))

  -- 12 is given where the channel is neither
  pub refuses_channel : NoChannel channel → First (view_checks a b channel first count) (some (12, 0))
  unfolding First
  refuses_channel h = inl (record { is = refl; nowhere = refl; why = h })

  -- 13 is given where the table ends before the part does
  pub refuses_range : PastEnd a b channel first count → First (view_checks a b channel first count) (some (13, 0))
  unfolding First
  refuses_range h =
      inr (λ n p f. named_not_none h.named f.why, inl (record { is = refl; nowhere = refl; why = h.past }))

  -- the two checks say one refusal at most
  pub view_checks_one : (x y : Option (ℕ × ℕ)) → First (view_checks a b channel first count) x
      → First (view_checks a b channel first count) y → x ≡ y
  unfolding Ones
  view_checks_one = first_one (view_checks a b channel first count) (flat_one 12 _, (flat_one 13 _, tt))

  -- so does what the checks say of them
  part_after_one : (why : Option (ℕ × ℕ)) (r r' : Table) → PartAfter (chosen a b channel) first count why r
      → PartAfter (chosen a b channel) first count why r' → SamePart r r'
  unfolding PartAfter
  part_after_one none r r' p q = part_one r r' p q
  part_after_one (some w) r r' p q = part_one r r' p q

  -- any two views that the contract allows are the same entries in the same place
  pub view_one : (r r' : Table) → Viewed a b channel first count r → Viewed a b channel first count r' → SamePart r r'
  view_one r r' v w =
      part_after_one v.refusal r r' v.part
      (subst (λ (why : Option (ℕ × ℕ)). PartAfter (chosen a b channel) first count why r')
      (view_checks_one w.refusal v.refusal w.checked v.checked) w.part)

  -- any two refusals that the contract allows are equal
  pub view_refusal_one : (n m : rust.Option Refusal) → ViewRefusal a b channel first count n → ViewRefusal a b channel first count m → n ≡ m
  view_refusal_one n m v w = named_one n m (view_checks_one (named n) (named m) v w)
