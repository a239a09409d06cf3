use Rattle.std.proofs.Common.{◌≡◌, ◌⊎◌, length, inr, subst, ap, arith}
use Rattle.std.proofs.lemmas.Result.{err_from_is_err_and}
use Rattle.sk_publishing.specs.Terms.{sights}
use Rattle.sk_fit.specs.declared.fault.FitFault.TheVariants.{NoMemory, TooMany}
use Rattle.sk_fit.specs.Given.{ArePlaced}
use Rattle.sk_fit.specs.Context.{FitView}
use Rattle.sk_fit.specs.Causes.{Gives, Refuses, input}
use Rattle.sk_fit.proofs.Answered.{untrue}
use Rattle.sk_fit.proofs.Begun.{has_begun, news, begun, refused, published, too_many, in_places}
use Rattle.sk_fit.proofs.NewTriples.{gives_triples}
use Rattle.sk_fit.proofs.publication.publication.Goals as goal

pub returns-in_err-start-clause-fault : goal.returns-in_err-start-clause-fault
returns-in_err-start-clause-fault c =
    let p = err_from_is_err_and c.from_residual.result c.from_residual.ensures.1 in
    rw (p.1, p.2) (inr (c.in_err-start.ensures.fault c.args.observations.now))

pub chain_of-requires-clause-new : goal.chain_of-requires-clause-new
chain_of-requires-clause-new c =
    news c.args.triples.now c.new-fit.result c.first_new_of-first_new.result (has_begun c.args.triples.now c.new-fit.result _ c.new-fit.ensures c.in_ok-start.ensures.start c.requires.observations
    c.first_new_of-first_new.ensures.olds c.first_new_of-first_new.ensures.new c.first_new_of-first_new.ensures.within)

pub chain_of-requires-clause-begun : goal.chain_of-requires-clause-begun
chain_of-requires-clause-begun c =
    begun c.args.triples.now c.new-fit.result c.first_new_of-first_new.result (has_begun c.args.triples.now c.new-fit.result _ c.new-fit.ensures c.in_ok-start.ensures.start c.requires.observations
    c.first_new_of-first_new.ensures.olds c.first_new_of-first_new.ensures.new c.first_new_of-first_new.ensures.within)

pub returns-in_err-chain-clause-fault : goal.returns-in_err-chain-clause-fault
returns-in_err-chain-clause-fault c =
    let h = has_begun c.args.triples.now c.new-fit.result _ c.new-fit.ensures c.in_ok-start.ensures.start c.requires.observations
    c.first_new_of-first_new.ensures.olds c.first_new_of-first_new.ensures.new c.first_new_of-first_new.ensures.within in
    let p = err_from_is_err_and c.from_residual-in_err-chain.result c.from_residual-in_err-chain.ensures.1 in
    rw (p.1, p.2) (subst (λ (v : FitView). (c.in_err-chain.field-0.0 ≡ NoMemory) ⊎ Refuses (input c.args.triples.now v.clock v.rows v.settings) v.rows c.in_err-chain.field-0.0) c.new-fit.ensures
    (refused c.args.triples.now c.new-fit.result c.first_new_of-first_new.result h c.in_err-chain.field-0.0 c.in_err-chain.ensures.fault))

pub returns-then-are_too_many-clause-fault : goal.returns-then-are_too_many-clause-fault
returns-then-are_too_many-clause-fault c =
    let h = has_begun c.args.triples.now c.new-fit.result _ c.new-fit.ensures c.in_ok-start.ensures.start c.requires.observations
    c.first_new_of-first_new.ensures.olds c.first_new_of-first_new.ensures.new c.first_new_of-first_new.ensures.within in
    let old = ap length c.list.ensures.value in
    let segments = ap length c.as_slice.ensures in
    let many = c.are_too_many.ensures.0 c.if-are_too_many.true in
    inr (subst (λ (v : FitView). Refuses (input c.args.triples.now v.clock v.rows v.settings) v.rows TooMany) c.new-fit.ensures
    (too_many c.args.triples.now c.new-fit.result c.first_new_of-first_new.result h c.in_ok-chain.chain c.in_ok-chain.ensures.ok (omega arith)))

pub returns-clause-ok : goal.returns-clause-ok
returns-clause-ok c =
    let h = has_begun c.args.triples.now c.new-fit.result _ c.new-fit.ensures c.in_ok-start.ensures.start c.requires.observations
    c.first_new_of-first_new.ensures.olds c.first_new_of-first_new.ensures.new c.first_new_of-first_new.ensures.within in
    let old = ap length c.list.ensures.value in
    let segments = ap length c.as_slice.ensures in
    subst (λ (v : FitView). Gives (input c.args.triples.now v.clock v.rows v.settings) c.in_ok-chain.chain) c.new-fit.ensures
    (published c.args.triples.now c.new-fit.result c.first_new_of-first_new.result h c.in_ok-chain.chain c.in_ok-chain.ensures.ok
    (λ many. untrue c.are_too_many.result c.if-are_too_many.false (c.are_too_many.ensures.1 (omega arith))))

pub returns-clause-placed : goal.returns-clause-placed
returns-clause-placed c =
    let h = has_begun c.args.triples.now c.new-fit.result _ c.new-fit.ensures c.in_ok-start.ensures.start c.requires.observations
    c.first_new_of-first_new.ensures.olds c.first_new_of-first_new.ensures.new c.first_new_of-first_new.ensures.within in
    subst (λ (v : FitView). ArePlaced c.in_ok-chain.chain.first_new (sights v.rows) c.in_ok-chain.chain.dropped c.in_ok-chain.chain.segments) c.new-fit.ensures
    (in_places c.args.triples.now c.new-fit.result c.first_new_of-first_new.result h c.in_ok-chain.chain c.in_ok-chain.ensures.ok)

pub returns-clause-triples : goal.returns-clause-triples
returns-clause-triples c =
    let h = has_begun c.args.triples.now c.new-fit.result _ c.new-fit.ensures c.in_ok-start.ensures.start c.requires.observations
    c.first_new_of-first_new.ensures.olds c.first_new_of-first_new.ensures.new c.first_new_of-first_new.ensures.within in
    let old = ap length c.list.ensures.value in
    let segments = ap length c.as_slice.ensures in
    gives_triples c.args.triples.now c.args.clock.now c.args.observations.now c.args.settings.now c.in_ok-chain.chain
    c.requires.settings c.in_ok-start.ensures.start.small c.list.ensures.kept c.requires.triples c.requires.observations
    (subst (λ (v : FitView). Gives (input c.args.triples.now v.clock v.rows v.settings) c.in_ok-chain.chain) c.new-fit.ensures
    (published c.args.triples.now c.new-fit.result c.first_new_of-first_new.result h c.in_ok-chain.chain c.in_ok-chain.ensures.ok
    (λ many. untrue c.are_too_many.result c.if-are_too_many.false (c.are_too_many.ensures.1 (omega arith)))))
