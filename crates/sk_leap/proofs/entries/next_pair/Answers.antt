use Rattle.std.proofs.Common.{◌≡◌, refl, sym, subst, SFits, to_z, of_z, w32, arith, rules}
use Rattle.std.specs.Prelude.{ℤ, ◌<ℤ◌}
use Rattle.std.proofs.lemmas.Int.{ints, to_z-of_z}
use Rattle.sk_leap.specs.Kernel.{IsLeapDate}
use Rattle.sk_leap.proofs.Pairs.{step_refused, step_taken}
use Rattle.sk_leap.proofs.entries.next_pair.Goals as goal

pub returns-then-value-last : goal.returns-then-value-last
returns-then-value-last c =
    let later : c.in-Some-before.last.day <ℤ c.in-Some.day = omega (arith, ints, c.if-day-last.false) in
    step_refused c.args.before c.in-Some-before.last c.args.place c.args.value c.args.date.now c.in-Some.day c.in-Some-before.is c.in-Some.ensures later c.if-value-last.true

pub returns-else-value-last : goal.returns-else-value-last
returns-else-value-last c =
    let later : c.in-Some-before.last.day <ℤ c.in-Some.day = omega (arith, ints, c.if-day-last.false) in
    let fits : SFits w32 c.in-Some.day = search rules in
    let day : to_z w32 (of_z w32 c.in-Some.day) ≡ c.in-Some.day = to_z-of_z w32 c.in-Some.day fits in (
      step_taken c.args.before c.in-Some-before.last c.args.place c.args.value c.args.date.now c.in-Some.day c.in-Some-before.is c.in-Some.ensures later c.if-value-last.false,
      (refl, subst (λ (z : ℤ). IsLeapDate c.args.date.now z) (sym day) c.in-Some.ensures),
    )
