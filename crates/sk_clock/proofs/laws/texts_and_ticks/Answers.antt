use Rattle.std.proofs.Common.{ℕ, subst, sym}
use Rattle.sk_clock.specs.Clock.{IsPartitionAt, partition_at}
use Rattle.sk_clock.proofs.TickLemmas.{spelled_one, stands_for_one, partition_at_is, partition_at_one}
use Rattle.sk_clock.proofs.CanonicalLemmas.{canonical_is, is_canonical}
use Rattle.sk_clock.proofs.laws.texts_and_ticks.Goals as goal

pub returns-clause-reading : goal.returns-clause-reading
returns-clause-reading c = spelled_one

pub returns-clause-tick : goal.returns-clause-tick
returns-clause-tick c = stands_for_one

pub returns-clause-partition : goal.returns-clause-partition
returns-clause-partition c = λ clock tick p is up.
    let at = partition_at_is clock tick is up in
    (λ also. partition_at_one clock tick p (partition_at clock tick) also at, λ same. subst (λ (q : ℕ). IsPartitionAt clock tick q) (sym same) at)

pub returns-clause-text : goal.returns-clause-text
returns-clause-text c = λ clock tick text is up. (canonical_is clock tick text is up, is_canonical clock tick text is up)
