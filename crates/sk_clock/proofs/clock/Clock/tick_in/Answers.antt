use Rattle.std.proofs.Common.{◌+◌, ◌-◌, ℕ, get_or, sum_by, ap, sym, subst, arith}
use Rattle.sk_clock.specs.Clock.{ClockView, ticks_in, IsTick}
use Rattle.sk_clock.proofs.TickLemmas.{placed_tick}
use Rattle.sk_clock.proofs.clock.Clock.tick_in.Goals as goal

pub bounds-earlier-place : goal.bounds-earlier-place
bounds-earlier-place c =
    (placed_tick c.args.self.now _ _ _ _ c.args.partition c.args.count (ap (λ (v : ClockView). v.partitions) c.self.view_is) c.as_slice-partitions.ensures.value c.as_slice-earlier.ensures.value c.self.invariant.earlier_lengths c.requires).in_lengths

pub overflow_add-result : goal.overflow_add-result
overflow_add-result c =
    let placed = placed_tick c.args.self.now _ _ _ _ c.args.partition c.args.count (ap (λ (v : ClockView). v.partitions) c.self.view_is) c.as_slice-partitions.ensures.value c.as_slice-earlier.ensures.value c.self.invariant.earlier_lengths c.requires in
    let same = ap (λ (v : ClockView). sum_by ticks_in v.partitions) c.self.view_is in
    let small = c.self.invariant.clock.partitions.together in
    omega (arith, placed.small, same, small, c.from.ensures)

pub returns : goal.returns
returns c =
    let placed = placed_tick c.args.self.now _ _ _ _ c.args.partition c.args.count (ap (λ (v : ClockView). v.partitions) c.self.view_is) c.as_slice-partitions.ensures.value c.as_slice-earlier.ensures.value c.self.invariant.earlier_lengths c.requires in
    subst (λ (n : ℕ). IsTick c.args.self.now c.args.partition c.args.count (c.args.count - n + get_or c.as_slice-earlier.result.now (c.args.partition - 1) 0)) (sym c.from.ensures) placed.is_tick
