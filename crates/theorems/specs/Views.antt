-- Each refusal of a view is given exactly when its rule says, and a view lies in its own table's memory, never in the other's.
use Rattle.std.specs.Prelude.{◌≡◌, ◌⊎◌, drop}
use Rattle.std.proofs.Common.{sym, ◌∙◌, inl, inr, ⊎_elim, arith}
use Rattle.std.proofs.Math.Path.{ap, subst}
use Rattle.std.proofs.Math.Option.{Option, none, some}
use Prim.Native.Nat.{ℕ, ◌+◌}
use Rattle.std.proofs.Math.ListN.{length, length-drop}
use Rattle.std.proofs.Math.Seq.{length-take-le}
use Rattle.std.specs.declared.option.Option as rust
use Rattle.std.specs.declared.option.Option.TheVariants.{None, Some}
use Rattle.maths.specs.Cases.{same_or_not, le_or_lt}
use Rattle.model.specs.Refusals.{NoChannel}
use Rattle.model.specs.Answers.{numbered}
use Rattle.model.specs.Views.{PartOf, PartAfter, Viewed, ViewRefusal}
use Rattle.model.specs.Channels.{Table, chosen}
use Rattle.model.specs.declared.Refusal.{Refusal}
use Rattle.model.specs.declared.Refusal.TheVariants.{Channel, Range}
use Rattle.theory.specs.views.OneView.{Available, Named, PastEnd, passes, refuses_channel, refuses_range, view_checks_one, view_refusal_one}

-- the number of a view's refusal, and 0 for none
abbrev pub number_of_view : rust.Option Refusal → ℕ
number_of_view None = 0
number_of_view (Some why) = (numbered why).0

-- a channel is one of the two or neither
named_or_not : (channel : ℕ) → Named channel ⊎ NoChannel channel
named_or_not channel =
    ⊎_elim
    (λ e. inl (inl e))
    (λ x. ⊎_elim (λ e. inl (inr e)) (λ y. inr (record { not_a = x; not_b = y })) (same_or_not channel 1))
    (same_or_not channel 0)

module _ (a b : Table) (channel first count : ℕ) where
  -- a request is available, or names no table, or ends past the table it names
  pub one_of_three : Available a b channel first count ⊎ (NoChannel channel ⊎ PastEnd a b channel first count)
  one_of_three =
      ⊎_elim
      (λ h.
      ⊎_elim
      (λ l. inl (record { named = h; reaches = l }))
      (λ l. inr (inr (record { named = h; past = l })))
      (le_or_lt (first + count) (length (chosen a b channel).now)))
      (λ n. inr (inl n))
      (named_or_not channel)

  -- no refusal is named only where the part is available
  pub available : ViewRefusal a b channel first count None → Available a b channel first count
  available v =
      ⊎_elim
      (λ h. h)
      (⊎_elim
      (λ n. absurd (cc (view_refusal_one a b channel first count None (Some Channel) v (refuses_channel a b channel first count n))))
      (λ p. absurd (cc (view_refusal_one a b channel first count None (Some Range) v (refuses_range a b channel first count p)))))
      one_of_three

  -- the channel's only where it is neither
  pub no_channel : ViewRefusal a b channel first count (Some Channel) → NoChannel channel
  no_channel v =
      ⊎_elim
      (λ h. absurd (cc (view_refusal_one a b channel first count (Some Channel) None v (passes a b channel first count h))))
      (⊎_elim
      (λ n. n)
      (λ p. absurd (cc (view_refusal_one a b channel first count (Some Channel) (Some Range) v (refuses_range a b channel first count p)))))
      one_of_three

  -- the range's only where the table ends before the part does
  pub past_end : ViewRefusal a b channel first count (Some Range) → PastEnd a b channel first count
  past_end v =
      ⊎_elim
      (λ h. absurd (cc (view_refusal_one a b channel first count (Some Range) None v (passes a b channel first count h))))
      (⊎_elim
      (λ n. absurd (cc (view_refusal_one a b channel first count (Some Range) (Some Channel) v (refuses_channel a b channel first count n))))
      (λ p. p))
      one_of_three

  -- the same of the number: any two answers that the checks allow have one
  number_is : (x y : rust.Option Refusal) → ViewRefusal a b channel first count x → ViewRefusal a b channel first count y
      → number_of_view x ≡ number_of_view y
  number_is x y v w = ap number_of_view (view_refusal_one a b channel first count x y v w)

  -- 0 only where the part is available
  pub available_by_number : (x : rust.Option Refusal) → ViewRefusal a b channel first count x → number_of_view x ≡ 0 → Available a b channel first count
  available_by_number x v e =
      ⊎_elim
      (λ h. h)
      (⊎_elim
      (λ n. absurd (omega (arith, e, number_is x (Some Channel) v (refuses_channel a b channel first count n))))
      (λ p. absurd (omega (arith, e, number_is x (Some Range) v (refuses_range a b channel first count p)))))
      one_of_three

  -- 12 only where the channel is neither
  pub no_channel_by_number : (x : rust.Option Refusal) → ViewRefusal a b channel first count x → number_of_view x ≡ 12 → NoChannel channel
  no_channel_by_number x v e =
      ⊎_elim
      (λ h. absurd (omega (arith, e, number_is x None v (passes a b channel first count h))))
      (⊎_elim (λ n. n) (λ p. absurd (omega (arith, e, number_is x (Some Range) v (refuses_range a b channel first count p)))))
      one_of_three

  -- 13 only where the table ends before the part does
  pub past_end_by_number : (x : rust.Option Refusal) → ViewRefusal a b channel first count x → number_of_view x ≡ 13 → PastEnd a b channel first count
  past_end_by_number x v e =
      ⊎_elim
      (λ h. absurd (omega (arith, e, number_is x None v (passes a b channel first count h))))
      (⊎_elim (λ n. absurd (omega (arith, e, number_is x (Some Channel) v (refuses_channel a b channel first count n)))) (λ p. p))
      one_of_three

  -- the part handed back lies in the chosen table's memory, whatever the checks say
  after_block : (why : Option (ℕ × ℕ)) (r : Table) → PartAfter (chosen a b channel) first count why r → r.ref_ptr.0 ≡ (chosen a b channel).ref_ptr.0
  unfolding PartAfter
  after_block none r p = ap (λ (q : ℕ × ℕ). q.0) p.place
  after_block (some w) r p = ap (λ (q : ℕ × ℕ). q.0) p.place

  -- a view lies in the memory of the table that its channel names, refused or not
  pub own_memory : (r : Table) → Viewed a b channel first count r → r.ref_ptr.0 ≡ (chosen a b channel).ref_ptr.0
  own_memory r v = after_block v.refusal r v.part

  -- an available part has as many entries as were asked for: always refusing is no answer
  pub view_long : Available a b channel first count → (r : Table) → Viewed a b channel first count r → length r.now ≡ count
  unfolding PartAfter
  view_long h r v =
      let p : PartOf (chosen a b channel) first count r =
      subst (λ (why : Option (ℕ × ℕ)). PartAfter (chosen a b channel) first count why r)
      (view_checks_one a b channel first count v.refusal none v.checked (passes a b channel first count h)) v.part in
      ap length p.contents
      ∙ length-take-le count (drop first (chosen a b channel).now) (omega (arith, h.reaches, length-drop first (chosen a b channel).now))

-- where the tables lie apart, no part of A's memory is a view of channel 1, whatever the contents
pub not_the_other : (a b : Table) (first count : ℕ) → (a.ref_ptr.0 ≡ b.ref_ptr.0 → ⊥) → (from long : ℕ) (r : Table) → PartOf a from long r
    → Viewed a b 1 first count r → ⊥
not_the_other a b first count apart from long r p v =
    apart (sym (ap (λ (q : ℕ × ℕ). q.0) p.place) ∙ own_memory a b 1 first count r v)

-- nor a part of B's one of channel 0
pub not_the_other_way : (a b : Table) (first count : ℕ) → (a.ref_ptr.0 ≡ b.ref_ptr.0 → ⊥) → (from long : ℕ) (r : Table) → PartOf b from long r
    → Viewed a b 0 first count r → ⊥
not_the_other_way a b first count apart from long r p v =
    apart (sym (own_memory a b 0 first count r v) ∙ ap (λ (q : ℕ × ℕ). q.0) p.place)
