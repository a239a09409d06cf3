use Rattle.std.proofs.Common.{ℕ, List, refl, subst}
use Rattle.sk_checks.specs.Checks.{NoneRefuses, FirstRefuses}
use Rattle.sk_obs.specs.Words.{time_word, SaysTime}
use Rattle.sk_outcome.specs.Time.{time_stops}
use Rattle.sk_commands.proofs.invert.said.Goals as goal

pub returns-in-Ok-clause-stage : goal.returns-in-Ok-clause-stage
returns-in-Ok-clause-stage c =
    subst (λ (word : List ℕ). NoneRefuses (time_stops c.args.leap.now word) × SaysTime c.args.leap.now (time_word word) c.in-Ok.time.units) c.as_bytes.ensures.value c.in-Ok.ensures.judged

pub returns-in-Err-clause-stage : goal.returns-in-Err-clause-stage
returns-in-Err-clause-stage c =
    (c.in-Err.stop, subst (λ (word : List ℕ). FirstRefuses (time_stops c.args.leap.now word) c.in-Err.stop) c.as_bytes.ensures.value c.in-Err.ensures.judged, refl)
