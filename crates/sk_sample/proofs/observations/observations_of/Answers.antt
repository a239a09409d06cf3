use Rattle.std.proofs.Common.{◌≡◌, ℕ, ◌+◌, ◌*◌, ◌^◌, ◌<◌, refl, sym, subst, arith, inl, inr, rules, List, FitsSigned}
use Rattle.std.specs.Prelude.{pos, ◌+ℤ◌}
use Rattle.std.specs.Int.{w64}
use Rattle.std.proofs.lemmas.Int.{to_z-of_z}
use Rattle.sk_publishing.specs.Row.{RowView}
use Rattle.sk_sample.specs.Sample.{drawn, walk}
use Rattle.sk_sample.proofs.Walks.{far, drawn_next, late_next, time_more}
use Rattle.sk_sample.proofs.Passed.{HasMade, none_made, more_made, one_refused, all_made}
use Rattle.sk_sample.proofs.observations.observations_of.Goals as goal

pub loop-before-init : goal.loop-before-init
loop-before-init c = record {
  drawn = refl;
  late = refl;
  made = rw c.in-Ok.ensures (none_made c.args.clock.now c.args.seed c.args.count);
}

pub next-walk-requires-clause-from : goal.next-walk-requires-clause-from
next-walk-requires-clause-from c =
    let less : c.loop-before.before < c.args.count = c.loop-before-test.true in
    rw c.loop-before.invariant.late (far c.args.seed c.loop-before.before (omega (arith, less, c.ranges.count.fits))).0

pub next-walk-requires-clause-to : goal.next-walk-requires-clause-to
next-walk-requires-clause-to c =
    let less : c.loop-before.before < c.args.count = c.loop-before-test.true in
    rw c.loop-before.invariant.late (far c.args.seed c.loop-before.before (omega (arith, less, c.ranges.count.fits))).1

pub observation-requires-clause-from : goal.observation-requires-clause-from
observation-requires-clause-from c =
    let seed : ℕ = c.args.seed in
    let k : ℕ = c.loop-before.before in
    let late : c.next-walk.result.late ≡ walk seed (k + 1) = late_next seed k c.loop-before.walk.drawn c.next-walk.result.drawn c.loop-before.walk.late c.next-walk.result.late
    c.loop-before.invariant.drawn c.loop-before.invariant.late c.next-walk.ensures.drawn c.next-walk.ensures.late in
    let fits : FitsSigned w64 c.next-walk.result.late = search rules in
    simp to_z-of_z (rw late (far seed (k + 1) (omega (arith, c.loop-before-test.true, c.requires))).0)

pub observation-requires-clause-to : goal.observation-requires-clause-to
observation-requires-clause-to c =
    let seed : ℕ = c.args.seed in
    let k : ℕ = c.loop-before.before in
    let late : c.next-walk.result.late ≡ walk seed (k + 1) = late_next seed k c.loop-before.walk.drawn c.next-walk.result.drawn c.loop-before.walk.late c.next-walk.result.late
    c.loop-before.invariant.drawn c.loop-before.invariant.late c.next-walk.ensures.drawn c.next-walk.ensures.late in
    let fits : FitsSigned w64 c.next-walk.result.late = search rules in
    simp to_z-of_z (rw late (far seed (k + 1) (omega (arith, c.loop-before-test.true, c.requires))).1)

pub loop-before-preserved : goal.loop-before-preserved
loop-before-preserved c =
    let seed : ℕ = c.args.seed in
    let k : ℕ = c.loop-before.before in
    let late : c.next-walk.result.late ≡ walk seed (k + 1) = late_next seed k c.loop-before.walk.drawn c.next-walk.result.drawn c.loop-before.walk.late c.next-walk.result.late
    c.loop-before.invariant.drawn c.loop-before.invariant.late c.next-walk.ensures.drawn c.next-walk.ensures.late in
    let fits : FitsSigned w64 c.next-walk.result.late = search rules in
    let answer = simp to_z-of_z at c.in-Ok-observation.ensures.answer in
    record {
      drawn = drawn_next seed k c.loop-before.walk.drawn c.next-walk.result.drawn c.loop-before.invariant.drawn c.next-walk.ensures.drawn;
      late = late;
      made = subst (λ (list : List RowView). HasMade c.args.clock.now seed c.args.count (k + 1) list) (sym c.in-Ok-push.ensures.ok)
          (more_made c.args.clock.now seed c.args.count k (pos (10 ^ 11 * (k + 1)) +ℤ c.next-walk.result.late) c.loop-before.list c.in-Ok-observation.next c.loop-before.invariant.made c.loop-before-test.true
          (time_more seed k (k + 1) c.next-walk.result.late refl late) answer c.in-Ok-observation.ensures.tick c.in-Ok-observation.ensures.time);
    }

pub returns-in-Err-clause-answer : goal.returns-in-Err-clause-answer
returns-in-Err-clause-answer c =
    let seed : ℕ = c.args.seed in
    let k : ℕ = c.loop-before.before in
    let late : c.next-walk.result.late ≡ walk seed (k + 1) = late_next seed k c.loop-before.walk.drawn c.next-walk.result.drawn c.loop-before.walk.late c.next-walk.result.late
    c.loop-before.invariant.drawn c.loop-before.invariant.late c.next-walk.ensures.drawn c.next-walk.ensures.late in
    let fits : FitsSigned w64 c.next-walk.result.late = search rules in
    elim (simp to_z-of_z at c.in-Err.ensures.answer) [
      | inl memory ↦ inl memory
      | inr fault ↦ inr (one_refused c.args.clock.now seed c.args.count k (pos (10 ^ 11 * (k + 1)) +ℤ c.next-walk.result.late) c.loop-before.list c.in-Err.fault c.loop-before.invariant.made c.loop-before-test.true
          (time_more seed k (k + 1) c.next-walk.result.late refl late) fault)
    ]

pub returns-clause-answer : goal.returns-clause-answer
returns-clause-answer c = all_made c.args.clock.now c.args.seed c.args.count c.loop-before.before c.loop-before.list c.loop-before.invariant.made (omega (arith, c.loop-before-test.false))
