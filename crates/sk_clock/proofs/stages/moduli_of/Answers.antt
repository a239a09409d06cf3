use Rattle.std.proofs.Common.{◌+◌, ◌^◌, ℕ, List, ap, ◌∙◌, arith, drop, min}
use Rattle.sk_clock.specs.Clock.{product}
use Rattle.sk_clock.proofs.KernelLemmas.{moduli_too_large}
use Rattle.sk_clock.proofs.stages.moduli_of.Goals as goal

pub returns-then-capped_product-gt-MOST_TICKS : goal.returns-then-capped_product-gt-MOST_TICKS
returns-then-capped_product-gt-MOST_TICKS c =
    let numbers = rw c.in-Some.is at c.in_ok-moduli.ensures in
    let later = c.split_at.ensures.back ∙ ap (λ (xs : List ℕ). drop 1 xs) c.as_slice.ensures.value in
    let is = c.capped_product.ensures ∙ ap (λ (xs : List ℕ). min (product xs) (2 ^ 32 + 1)) later in
    moduli_too_large c.args.pool.now c.args.sc _ _ _ _ _ c.capped_product.result (c.name_of-name.ensures) numbers is (omega arith)
