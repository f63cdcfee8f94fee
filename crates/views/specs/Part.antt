-- A part of one table, and why there is none: what a view is once its channel is chosen.
use Rattle.std.specs.Prelude.{◌≡◌, ℕ, ◌+◌, ◌<◌, ◌≤◌, length}
use Rattle.std.specs.declared.option.Option as rust
use Rattle.std.specs.declared.option.Option.TheVariants.{None, Some}
use Rattle.model.specs.Views.{PartOf}
use Rattle.model.specs.declared.Refusal.{Refusal}
use Rattle.model.specs.declared.Refusal.TheVariants.{Range}
use Rattle.model.specs.Channels.{Table}

-- r is the part asked for where t reaches so far, and the empty part at t's beginning otherwise
pub record PartIn (t : Table) (first count : ℕ) (r : Table) : Type 0 where
  pub whole : first + count ≤ length t.now → PartOf t first count r
  pub empty : length t.now < first + count → PartOf t 0 0 r

-- no refusal where a table of `long` entries reaches so far, and that of the range otherwise
pub record RangeRefusal (long first count : ℕ) (refusal : rust.Option Refusal) : Type 0 where
  pub available : first + count ≤ long → refusal ≡ None
  pub past_end : long < first + count → refusal ≡ Some Range
