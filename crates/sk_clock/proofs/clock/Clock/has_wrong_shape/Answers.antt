use Rattle.std.proofs.Common.{◌≡◌, ◌≤◌, ◌^◌, ℕ, List, All, length, ap, sym, ◌∙◌, refl, subst, inl, inr, lit<, if◌then◌else◌, arith}
use Rattle.std.specs.Prelude.{◌==◌}
use Rattle.std.proofs.Math.Nat.{pow-le-pow_right}
use Rattle.std.proofs.lemmas.Bool.{false≢true}
use Rattle.std.proofs.lemmas.List.{length-map}
use Rattle.sk_clock.specs.declared.field.Field.{Field}
use Rattle.sk_clock.specs.Clock.{ClockView}
use Rattle.sk_clock.proofs.FieldLemmas.{zero_fields, zero_offsets}
use Rattle.sk_clock.proofs.clock.Clock.has_wrong_shape.Goals as goal

pub pow-scale-requires : goal.pow-scale-requires
pow-scale-requires c =
    let small : 256 ^ c.fraction-fraction.result ≤ 256 ^ 6 = pow-le-pow_right (lit< tt) c.fraction-fraction.ensures.most in
    omega arith

pub returns-then-not-all_from_zero : goal.returns-then-not-all_from_zero
returns-then-not-all_from_zero c =
    let offsets = ap (λ (v : ClockView). v.offsets) c.self.view_is in (
      λ yes_. inl (λ all.
          let kept = zero_fields c.self.inside.fields.items (subst (λ (os : List ℕ). All (λ offset. offset ≡ 0) os) (sym offsets) all) in
          let here = subst (λ (fs : List Field). All (λ (field : Field). field.offset ≡ 0) fs) (sym c.as_slice-fields.ensures.value) kept in
          false≢true (c.if-not-all_from_zero.ensures.1 here)),
      λ wrong. refl,
    )

pub returns-then-ticks-scale : goal.returns-then-ticks-scale
returns-then-ticks-scale c =
    (λ yes_. inr (inl (λ same. c.if-ticks-scale.true (c.ticks_per-ticks.ensures.value ∙ (same ∙ (ap (λ (n : ℕ). 256 ^ n) (sym c.fraction-fraction.ensures.value) ∙ sym c.pow-scale.ensures))))), λ wrong. refl)

pub returns-then-count-expected : goal.returns-then-count-expected
returns-then-count-expected c =
    let moduli = ap (λ (v : ClockView). length v.moduli) c.self.view_is in
    let fields = length-map c.self.inside.fields.items (λ (f : Field). f.modulus) in (
      λ yes_. inr (inr (λ same. c.if-count-expected.true (ap length c.as_slice-fields.ensures.value ∙ (sym fields ∙ (moduli ∙ (same ∙ (ap (λ (n : ℕ). if n == 0 then 1 else 2) (sym c.fraction-fraction.ensures.value) ∙ sym c.field_count-expected.ensures))))))),
      λ wrong. refl,
    )

pub returns : goal.returns
returns c =
    let offsets = ap (λ (v : ClockView). v.offsets) c.self.view_is in
    let moduli = ap (λ (v : ClockView). length v.moduli) c.self.view_is in
    let fields = length-map c.self.inside.fields.items (λ (f : Field). f.modulus) in
    let kept = subst (λ (fs : List Field). All (λ (field : Field). field.offset ≡ 0) fs) c.as_slice-fields.ensures.value (c.if-not-all_from_zero.ensures.0 refl) in
    let zero = subst (λ (os : List ℕ). All (λ offset. offset ≡ 0) os) offsets (zero_offsets c.self.inside.fields.items kept) in (
      λ yes_. absurd (false≢true yes_),
      λ wrong. elim wrong [
        | inl not ↦ absurd (not zero)
        | inr rest ↦ elim rest [
          | inl other ↦ absurd (other (sym c.ticks_per-ticks.ensures.value ∙ (c.if-ticks-scale.false ∙ (c.pow-scale.ensures ∙ ap (λ (n : ℕ). 256 ^ n) c.fraction-fraction.ensures.value))))
          | inr other ↦ absurd (other (sym moduli ∙ (fields ∙ (sym (ap length c.as_slice-fields.ensures.value) ∙ (c.if-count-expected.false ∙ (c.field_count-expected.ensures ∙ ap (λ (n : ℕ). if n == 0 then 1 else 2) c.fraction-fraction.ensures.value))))))
        ]
      ],
    )
