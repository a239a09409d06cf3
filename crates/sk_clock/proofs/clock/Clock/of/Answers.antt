use Rattle.std.proofs.Common.{◌++◌, inr}
use Rattle.sk_checks.proofs.ChecksLemmas.{FirstRefuses-front, FirstRefuses-rest, NoneRefuses-append}
use Rattle.sk_clock.specs.declared.fault.ClockKernelFault.TheVariants.{NoMemory}
use Rattle.sk_clock.specs.Kernel.{missing_checks, IsClockOf}
use Rattle.sk_clock.specs.Stages.{needed, kind_checks, number_checks}
use Rattle.sk_clock.proofs.KernelLemmas.{judged_after}
use Rattle.sk_clock.proofs.clock.Clock.of.Goals as goal

pub returns-in-Err : goal.returns-in-Err
returns-in-Err c =
    let pool = c.args.pool.now in
    let sc = c.args.sc in
    inr (FirstRefuses-rest (missing_checks pool sc needed) (kind_checks pool sc ++ number_checks pool sc) c.in-Err.fault c.in_default.ensures
    (FirstRefuses-front (kind_checks pool sc) (number_checks pool sc) c.in-Err.fault c.in-Err.ensures))

pub returns-in-Ok : goal.returns-in-Ok
returns-in-Ok c =
    let pool = c.args.pool.now in
    let sc = c.args.sc in
    let passed = NoneRefuses-append (missing_checks pool sc needed) (kind_checks pool sc) c.in_default.ensures c.in-Ok.ensures.0 in
    judged_after NoMemory (missing_checks pool sc needed ++ kind_checks pool sc) (number_checks pool sc) (IsClockOf pool sc) c.numbers_of.result passed c.numbers_of.ensures
