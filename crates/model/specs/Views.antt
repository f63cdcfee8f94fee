-- Views of the two channels' start tables: a part of the table asked for, that table's own memory and never the other's.
use Rattle.std.specs.Prelude.{◌≡◌, ℕ, ◌+◌, ◌*◌, take, drop}
use Rattle.std.proofs.Math.Option.{Option, none, some}
use Rattle.std.specs.declared.option.Option as rust
use Rattle.std.specs.declared.option.Option.TheVariants.{None, Some}
use Rattle.model.specs.Refusals.{First}
use Rattle.model.specs.Answers.{numbered}
use Rattle.model.specs.declared.Refusal.{Refusal}
use Rattle.model.specs.Channels.{Table, chosen}
use Rattle.model.specs.Checks.{view_checks}

-- r is the part of t's own memory that begins at entry `first` and has `count` entries, of two bytes each
pub record PartOf (t : Table) (first count : ℕ) (r : Table) : Type 0 where
  pub contents : r.now ≡ take count (drop first t.now)
  pub place : r.ref_ptr ≡ (t.ref_ptr.0, first * 2 + t.ref_ptr.1)

-- the part handed back: the one asked for, or when refused the empty part at the table's beginning
unfoldable pub PartAfter : Table → ℕ → ℕ → Option (ℕ × ℕ) → Table → Type 0
PartAfter t first count none r = PartOf t first count r
PartAfter t first count (some why) r = PartOf t 0 0 r

-- what `view` hands back
pub record Viewed (a b : Table) (channel first count : ℕ) (r : Table) : Type 0 where
  pub refusal : Option (ℕ × ℕ)
  pub checked : First (view_checks a b channel first count) refusal
  pub part : PartAfter (chosen a b channel) first count refusal r

-- the refusal's number and place, where there is one
abbrev pub named : rust.Option Refusal → Option (ℕ × ℕ)
named None = none
named (Some why) = some (numbered why)

-- what `view_refusal` says
abbrev pub ViewRefusal : Table → Table → ℕ → ℕ → ℕ → rust.Option Refusal → Type 0
ViewRefusal a b channel first count r = First (view_checks a b channel first count) (named r)
