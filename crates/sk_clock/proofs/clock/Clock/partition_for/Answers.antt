use Rattle.std.proofs.Common.{ap, ◌∙◌, refl, arith}
use Rattle.sk_clock.specs.Clock.{ClockView}
use Rattle.sk_clock.proofs.TickLemmas.{outside_all, found_first, found_named}
use Rattle.sk_clock.proofs.clock.Clock.partition_for.Goals as goal

pub returns-in-None-first_holding : goal.returns-in-None-first_holding
returns-in-None-first_holding c =
    outside_all c.args.self.now c.as_slice-partitions.result.now c.args.named c.args.count c.in-None.is
    (c.as_slice-partitions.ensures.value ∙ ap (λ (v : ClockView). v.partitions) c.self.view_is) c.in-None-first_holding.ensures

pub returns-in-Some-first_holding : goal.returns-in-Some-first_holding
returns-in-Some-first_holding c =
    let found = c.in-Some-first_holding.ensures in
    found_first c.args.self.now c.as_slice-partitions.result.now c.args.named c.args.count c.in-Some-first_holding.place c.in-None.is
    (c.as_slice-partitions.ensures.value ∙ ap (λ (v : ClockView). v.partitions) c.self.view_is) found.0 found.1 found.2

pub returns-else-not-holds : goal.returns-else-not-holds
returns-else-not-holds c =
    found_named c.args.self.now c.as_slice-partitions.result.now c.args.named c.args.count c.in-Some.named c.in-Some.is
    (c.as_slice-partitions.ensures.value ∙ ap (λ (v : ClockView). v.partitions) c.self.view_is) (omega arith) (omega arith) (c.if-not-holds.ensures.0 refl)
