use Rattle.std.proofs.Common.{inl, inr, ap}
use Rattle.std.specs.Prelude.{Result, Err}
use Rattle.sk_publishing.specs.Input.{Input}
use Rattle.sk_fit.specs.declared.chain.Chain.{Chain}
use Rattle.sk_fit.specs.declared.fault.FitFault.{FitFault}
use Rattle.sk_fit.specs.Causes.{input}
use Rattle.sk_fit.proofs.OneAnswer.{gives_unrefused, one_refusal}
use Rattle.sk_fit.proofs.Over.{chain_over}
use Rattle.sk_fit.proofs.publication.fit.Goals as goal

abbrev refused : FitFault → Result Chain FitFault
refused fault = Err fault

pub returns-in-Ok-clause-over : goal.returns-in-Ok-clause-over
returns-in-Ok-clause-over c =
    chain_over c.args.triples.now c.args.clock.now c.args.observations.now c.args.settings.now c.in-Ok.chain c.requires.observations c.in-Ok.ensures.ok c.in-Ok.ensures.placed

pub returns-in-Ok-clause-refused : goal.returns-in-Ok-clause-refused
returns-in-Ok-clause-refused c fault r =
    let x : Input = input c.args.triples.now c.args.clock.now c.args.observations.now c.args.settings.now in
    absurd (gives_unrefused x c.args.observations.now c.in-Ok.chain fault c.in-Ok.ensures.ok r)

pub returns-in-Err-clause-published : goal.returns-in-Err-clause-published
returns-in-Err-clause-published c chain g =
    let x : Input = input c.args.triples.now c.args.clock.now c.args.observations.now c.args.settings.now in
    elim c.in-Err.ensures.fault [
      | inl e ↦ inr (ap refused e)
      | inr r ↦ absurd (gives_unrefused x c.args.observations.now chain c.in-Err.fault g r)
    ]

pub returns-in-Err-clause-refused : goal.returns-in-Err-clause-refused
returns-in-Err-clause-refused c fault r =
    let x : Input = input c.args.triples.now c.args.clock.now c.args.observations.now c.args.settings.now in
    elim c.in-Err.ensures.fault [
      | inl e ↦ inr (ap refused e)
      | inr own ↦ inl (ap refused (one_refusal x c.args.observations.now c.in-Err.fault fault own r))
    ]
