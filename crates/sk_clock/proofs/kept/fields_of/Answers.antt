use Rattle.std.proofs.Common.{◌≡◌, ℕ, List, length, arith, refl, ◌∙◌, subst}
use Rattle.std.proofs.lemmas.List.{take_all, drop_all}
use Rattle.sk_clock.proofs.FieldLemmas.{HaveUnits, HaveUnits-all, unit_of_later, push_step}
use Rattle.sk_clock.proofs.kept.fields_of.Goals as goal

pub invariant_of-push : goal.invariant_of-push
invariant_of-push c =
    let later = rw c.split_at.ensures.back at c.capped_product.ensures in
    record {
      modulus_fits = c.requires.moduli.1 c.loop-i.i 0 (omega arith);
      offset_fits = c.requires.offsets c.loop-i.i 0 (omega (arith, c.requires.as_many));
      unit_fits = (unit_of_later c.args.moduli.now c.loop-i.i c.capped_product.result c.requires.moduli later).0;
      width_fits = c.digit_count.ensures;
    }

pub loop-i-preserved : goal.loop-i-preserved
loop-i-preserved c =
    let later = rw c.split_at.ensures.back at c.capped_product.ensures in
    let step = push_step c.args.moduli.now c.args.offsets.now c.loop-i.fields.items _ _ c.loop-i.i (omega arith) (omega (arith, c.requires.as_many)) c.in_ok-push.ensures.items refl refl
    (unit_of_later c.args.moduli.now c.loop-i.i c.capped_product.result c.requires.moduli later).1 c.loop-i.invariant.moduli c.loop-i.invariant.offsets c.loop-i.invariant.units in
    record { moduli = step.0; offsets = step.1; units = step.2 }

pub returns : goal.returns
returns c =
    let all : length c.args.moduli.now ≡ c.loop-i.i = omega arith in
    let none = drop_all c.loop-i.i c.args.moduli.now (omega arith) in (
      c.loop-i.invariant.moduli ∙ take_all c.loop-i.i c.args.moduli.now (omega arith),
      c.loop-i.invariant.offsets ∙ take_all c.loop-i.i c.args.offsets.now (omega (arith, c.requires.as_many)),
      HaveUnits-all c.loop-i.fields.items (subst (λ (xs : List ℕ). HaveUnits xs c.loop-i.fields.items) none c.loop-i.invariant.units),
    )
