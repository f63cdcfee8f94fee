-- What a part's number says to C and to the engine, which get a refusal as its number alone: 0 only where the part is available, 12 only where the
-- channel is neither, 13 only where the table ends before the part does.
use Rattle.std.specs.Prelude.{◌≡◌, refl, ◌⊎◌, ℕ}
use Rattle.std.proofs.Common.{ap, ◌∙◌, inl, inr, ⊎_elim, arith}
use Rattle.std.specs.declared.option.Option as rust
use Rattle.std.specs.declared.option.Option.TheVariants.{None, Some}
use Rattle.maths.specs.Cases.{same_or_not, at_most}
use Rattle.model.specs.Refusals.{First, NoChannel}
use Rattle.model.specs.Views.{ViewRefusal}
use Rattle.model.specs.Channels.{Table}
use Rattle.model.specs.declared.Refusal.{Refusal}
use Rattle.theory.specs.views.OneView.{Named, Available, PastEnd}
use Rattle.pedal.specs.Face.{part_of, PartSaid}
use Rattle.pedal.specs.declared.Part.{Part}

-- a channel that is not neither is one of the two
named_by : {channel : ℕ} → (NoChannel channel → ⊥) → Named channel
named_by {channel} h =
    ⊎_elim
    (λ e. inl e)
    (λ x. ⊎_elim (λ e. inr e) (λ y. absurd (h (record { not_a = x; not_b = y }))) (same_or_not channel 1))
    (same_or_not channel 0)

-- a refused part: its number, and where none starts and ends
abbrev pub refused_part : ℕ → Part
refused_part number = record { refusal = number; start = 0; length = 0 }

-- the part is what was asked for, by 0 where it is available; or empty, by 12 where the channel is neither, by 13 where the table ends before it does
abbrev pub PartSays : Table → Table → ℕ → ℕ → ℕ → Part → Type 0
PartSays a b channel first count p =
    ((p ≡ record { refusal = 0; start = first; length = count }) × Available a b channel first count)
    ⊎ (((p ≡ refused_part 12) × NoChannel channel) ⊎ ((p ≡ refused_part 13) × PastEnd a b channel first count))

-- parts that are the same have the same number
number : {p q : Part} → p ≡ q → p.refusal ≡ q.refusal
number e = ap (λ (p : Part). p.refusal) e

-- and the same start and length
lies : {p q : Part} → p ≡ q → (p.start ≡ q.start) × (p.length ≡ q.length)
lies e = (ap (λ (p : Part). p.start) e, ap (λ (p : Part). p.length) e)

module _ (a b : Table) (channel first count : ℕ) where
  -- what the two checks say becomes the part
  said_by : (x : rust.Option Refusal) → ViewRefusal a b channel first count x → PartSays a b channel first count (part_of first count x)
  unfolding First
  said_by None f =
      inl (
        refl,
        record {
          named = named_by (λ n. f.0 12 0 (record { is = refl; nowhere = refl; why = n }));
          reaches = at_most (λ l. f.1.0 13 0 (record { is = refl; nowhere = refl; why = l }));
        },
      )
  said_by (Some why) f =
      ⊎_elim
      (λ k. inr (inl (ap refused_part k.is, k.why)))
      (λ k.
      ⊎_elim
      (λ m.
      inr
      (inr
      (ap refused_part m.is, record { named = named_by (λ n. k.0 12 0 (record { is = refl; nowhere = refl; why = n })); past = m.why })))
      (λ m. absurd m.1)
      k.1)
      f

  module _ (r : Part) (h : PartSaid a b channel first count r) where
    -- so the part that is handed on is one of the three
    pub part_is : PartSays a b channel first count r
    part_is =
        ⊎_elim
        (λ k. inl (h.said ∙ k.0, k.1))
        (⊎_elim (λ k. inr (inl (h.said ∙ k.0, k.1))) (λ k. inr (inr (h.said ∙ k.0, k.1))))
        (said_by h.answer h.refused)

    -- 0 only where the part is available
    pub part_available : r.refusal ≡ 0 → Available a b channel first count
    part_available e =
        ⊎_elim (λ k. k.1) (⊎_elim (λ k. absurd (omega (arith, number k.0, e))) (λ k. absurd (omega (arith, number k.0, e)))) part_is

    -- 12 only where the channel is neither
    pub part_no_channel : r.refusal ≡ 12 → NoChannel channel
    part_no_channel e =
        ⊎_elim (λ k. absurd (omega (arith, number k.0, e))) (⊎_elim (λ k. k.1) (λ k. absurd (omega (arith, number k.0, e)))) part_is

    -- 13 only where the table ends before the part does
    pub part_past_end : r.refusal ≡ 13 → PastEnd a b channel first count
    part_past_end e =
        ⊎_elim (λ k. absurd (omega (arith, number k.0, e))) (⊎_elim (λ k. absurd (omega (arith, number k.0, e))) (λ k. k.1)) part_is

    -- with 0 the part begins at `first` and has `count` entries
    pub part_asked : r.refusal ≡ 0 → (r.start ≡ first) × (r.length ≡ count)
    part_asked e =
        ⊎_elim
        (λ k. lies k.0)
        (⊎_elim (λ k. absurd (omega (arith, number k.0, e))) (λ k. absurd (omega (arith, number k.0, e))))
        part_is

    -- with any other it is empty
    pub part_empty : (r.refusal ≡ 0 → ⊥) → (r.start ≡ 0) × (r.length ≡ 0)
    part_empty n = ⊎_elim (λ k. absurd (n (number k.0))) (⊎_elim (λ k. lies k.0) (λ k. lies k.0)) part_is
