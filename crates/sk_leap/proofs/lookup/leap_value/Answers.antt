use Rattle.std.proofs.Common.{◌≡◌, ℕ, ℤ, ◌+◌, pos, take, get_or, to_z, of_z, w32, sym, ap, ◌∙◌, arith}
use Rattle.std.specs.Prelude.{◌≤ℤ◌, ◌<ℤ◌}
use Rattle.std.proofs.lemmas.Int.{ints, to_z-of_z}
use Rattle.sk_leap.specs.declared.pair.LeapPair.{LeapPair}
use Rattle.sk_leap.specs.Leap.{leap_value}
use Rattle.sk_leap.proofs.Lookups.{leap_value_taken, leap_value_left}
use Rattle.sk_leap.proofs.lookup.leap_value.Goals as goal
use Rattle.sk_leap.proofs.lookup.leap_value.Goals.{then-pair-day, else-pair-day}

nothing : LeapPair
nothing = record { value = 0; day = pos 0 }

pub loop-pair-preserved : goal.loop-pair-preserved
unfolding nothing
loop-pair-preserved c =
    let day : to_z w32 (of_z w32 c.args.day) ≡ c.args.day = to_z-of_z w32 c.args.day c.ranges.day in
    let pairs = c.args.pairs.now in
    let place = c.loop-pair.pair-index in
    let moved : leap_value (take (place + 1) pairs) (to_z w32 (of_z w32 c.args.day)) ≡ leap_value (take (place + 1) pairs) c.args.day = ap (leap_value (take (place + 1) pairs)) day in
    let held : leap_value (take place pairs) (to_z w32 (of_z w32 c.args.day)) ≡ leap_value (take place pairs) c.args.day = ap (leap_value (take place pairs)) day in
    elim c.if-pair-day.branch [
      | then-pair-day w ↦
          let le : (get_or pairs place nothing).day ≤ℤ c.args.day = omega (arith, ints, w.if-pair-day.true) in
          w.value-is ∙ sym (moved ∙ leap_value_taken pairs c.args.day place nothing c.loop-pair-test.true le)
      | else-pair-day w ↦
          let later : c.args.day <ℤ (get_or pairs place nothing).day = omega (arith, ints, w.if-pair-day.false) in
          w.value-is ∙ c.loop-pair.invariant ∙ held ∙ sym (moved ∙ leap_value_left pairs c.args.day place nothing c.loop-pair-test.true later)
    ]
