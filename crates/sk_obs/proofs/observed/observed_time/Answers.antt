use Rattle.std.proofs.Common.{List, ℕ, subst, inl, inr}
use Rattle.csv.specs.Records.{fields_of}
use Rattle.sk_checks.specs.Checks.{NoneRefuses, FirstRefuses}
use Rattle.sk_obs.specs.Words.{time_word, time_checks, SaysTime}
use Rattle.sk_obs.specs.File.{IsDelay}
use Rattle.sk_obs.proofs.ObservedTimes.{word_refused, delay_refused, range_refused, none_refused}
use Rattle.sk_obs.proofs.observed.observed_time.Goals as goal

pub returns-in-Err-clause-answer : goal.returns-in-Err-clause-answer
returns-in-Err-clause-answer c = elim c.in-Err.ensures [
  | inl memory ↦ inl memory
  | inr refused ↦ inr (word_refused c.args.leap.now c.args.number (fields_of c.args.row.now) c.in-Err.fault
      (subst (λ (word : List ℕ). FirstRefuses (time_checks c.args.leap.now c.args.number (time_word word)) c.in-Err.fault) c.field.ensures refused))
]

pub returns-in_default-clause-answer : goal.returns-in_default-clause-answer
returns-in_default-clause-answer c =
    inr (delay_refused c.args.leap.now c.args.number (fields_of c.args.row.now)
    (subst (λ (word : List ℕ). NoneRefuses (time_checks c.args.leap.now c.args.number (time_word word))) c.field.ensures c.in-Ok.ensures.0)
    (subst (λ (bytes : List ℕ). (delay : ℕ) → ¬ IsDelay bytes delay) c.field-2.ensures c.in_default.ensures))

pub returns-in-Some-less_delay-clause-answer : goal.returns-in-Some-less_delay-clause-answer
returns-in-Some-less_delay-clause-answer c =
    let sent = c.in-Ok.ensures.1 in
    let less = c.in-Some-less_delay.ensures.less sent.0 sent.2 in
    none_refused c.args.leap.now c.args.number (fields_of c.args.row.now) sent.0 c.in-Some-less_delay.time.units c.in-Some.delay
    (subst (λ (word : List ℕ). NoneRefuses (time_checks c.args.leap.now c.args.number (time_word word))) c.field.ensures c.in-Ok.ensures.0)
    (subst (λ (word : List ℕ). SaysTime c.args.leap.now (time_word word) sent.0) c.field.ensures sent.1)
    (subst (λ (bytes : List ℕ). IsDelay bytes c.in-Some.delay) c.field-2.ensures c.in-Some.ensures) less.0 less.1

pub returns-in-None-clause-answer : goal.returns-in-None-clause-answer
returns-in-None-clause-answer c =
    let sent = c.in-Ok.ensures.1 in
    inr (range_refused c.args.leap.now c.args.number (fields_of c.args.row.now) sent.0 c.in-Some.delay
    (subst (λ (word : List ℕ). NoneRefuses (time_checks c.args.leap.now c.args.number (time_word word))) c.field.ensures c.in-Ok.ensures.0)
    (subst (λ (word : List ℕ). SaysTime c.args.leap.now (time_word word) sent.0) c.field.ensures sent.1)
    (subst (λ (bytes : List ℕ). IsDelay bytes c.in-Some.delay) c.field-2.ensures c.in-Some.ensures)
    (c.in-None.ensures.less sent.0 sent.2))
