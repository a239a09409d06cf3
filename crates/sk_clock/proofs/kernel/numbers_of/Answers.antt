use Rattle.std.proofs.Common.{ℕ, List, ap, ◌∙◌}
use Rattle.sk_clock.specs.Clock.{ClockView}
use Rattle.sk_clock.proofs.KernelLemmas.{numbers_kept}
use Rattle.sk_clock.proofs.kernel.numbers_of.Goals as goal

pub returns : goal.returns
returns c =
    let moduli = rw c.in-Some-found.is at c.in-Ok.ensures in
    let offsets = rw c.in-Some-found-2.is at c.in-Ok-offsets_of.ensures in
    let partitions = rw c.in-Some-found-3.is at c.in-Ok-partitions_of.ensures in
    let view : List ℕ → List ℕ → ClockView = λ ms os. record { moduli = ms; offsets = os; delimiter = c.in-Some-one_whole.delimiter; partitions = c.in-Some-found-3.partitions.items } in
    let is = c.in-Ok-new.ensures ∙ (ap (λ (ms : List ℕ). view ms c.as_slice-2.result.now) c.as_slice.ensures.value ∙ ap (λ (os : List ℕ). view c.in-Some-found.moduli.items os) c.as_slice-2.ensures.value) in
    numbers_kept c.args.pool.now c.args.sc c.in-Some.fields c.in-Some-one_whole.delimiter _ _ _ _ _ c.in-Ok-new.clock
    c.name_of-name.ensures c.in-Some.ensures moduli offsets c.name_of-name-2.ensures c.in-Some-one_whole.ensures partitions is
