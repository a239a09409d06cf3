use Rattle.std.proofs.Common.{subst, arith, length-set, ℕ}
use Rattle.sk_octets.proofs.OctetLemmas.{one_written, octets_written, less_left, all_written}
use Rattle.sk_octets.specs.Octets.{SpellsNumber}
use Rattle.sk_octets.proofs.number.put_number.Goals as goal

pub loop-place-preserved : goal.loop-place-preserved
loop-place-preserved c =
    let i = c.loop-place.invariant in
    let some = c.loop-place-test.true in
    simp length-set (record {
      value = one_written c.loop-place.buf c.loop-place.place c.loop-place.rest c.args.number some i.place i.value;
      below = less_left c.loop-place.rest c.loop-place.place some i.below;
      octets = octets_written c.loop-place.buf c.loop-place.place c.loop-place.rest some i.place i.octets;
      place = omega arith;
    })

pub returns : goal.returns
returns c =
    let i = c.loop-place.invariant in
    subst (λ (n : ℕ). SpellsNumber n c.loop-place.buf c.args.number) c.loop-place.auto.buf (all_written c.loop-place.buf c.loop-place.place c.loop-place.rest c.args.number c.loop-place-test.false i.below i.octets i.value)
