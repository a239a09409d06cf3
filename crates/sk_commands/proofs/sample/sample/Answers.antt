use Rattle.std.proofs.Common.{List, Ok, subst}
use Rattle.sk_publishing.specs.Row.{RowView}
use Rattle.sk_fit.specs.declared.chain.Chain.{Chain}
use Rattle.sk_words.specs.Asked.{options_in}
use Rattle.sk_words.specs.Request.{Options}
use Rattle.sk_outcome.specs.Stage.{MayAnswer}
use Rattle.sk_outcome.specs.Files.{KernelRead, InputsRead}
use Rattle.sk_outcome.specs.Outcome.{chain_of, sample_of, sampled}
use Rattle.sk_outcome.proofs.Moves.{may_then, may_end_as, handed_on}
use Rattle.sk_commands.proofs.sample.sample.Goals as goal

pub returns-in_err-chain : goal.returns-in_err-chain
returns-in_err-chain c =
    let options : Options = options_in c.args.request.now in
    let kernel : KernelRead = c.inputs.inside.kernel in
    let rows : List RowView = c.inputs.inside.observations in
    subst (λ (i : InputsRead). MayAnswer (λ v. v.items) (sample_of options i) c.from_residual.result) c.inputs.view_is
    (may_end_as (λ chain. chain) (λ v. v.items) (chain_of options kernel rows) (sampled options kernel rows) c.chain_of.result c.from_residual.result c.in_err-chain.field-0.0 c.in_err-chain.was
    (handed_on c.from_residual.result c.in_err-chain.field-0.0 c.from_residual.ensures.1)
    (subst (λ (rows : List RowView). MayAnswer (λ (chain : Chain). chain) (chain_of options kernel rows) c.chain_of.result) c.as_slice-rows.ensures c.chain_of.ensures.stage))

pub returns : goal.returns
returns c =
    let options : Options = options_in c.args.request.now in
    let kernel : KernelRead = c.inputs.inside.kernel in
    let rows : List RowView = c.inputs.inside.observations in
    subst (λ (i : InputsRead). MayAnswer (λ v. v.items) (sample_of options i) c.sampled.result) c.inputs.view_is
    (may_then (λ v. v.items) (chain_of options kernel rows) (sampled options kernel rows) c.in_ok-chain.chain c.sampled.result
    (subst (λ (rows : List RowView). chain_of options kernel rows (Ok c.in_ok-chain.chain)) c.as_slice-rows.ensures c.in_ok-chain.ensures.stage)
    (subst (λ (rows : List RowView). MayAnswer (λ v. v.items) (sampled options kernel rows c.in_ok-chain.chain) c.sampled.result) c.as_slice-rows.ensures c.sampled.ensures))
