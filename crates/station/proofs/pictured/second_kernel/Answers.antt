use Rattle.std.proofs.Common.{◌≡◌, ℕ, List, Option, Some, subst}
use Rattle.sk_words.specs.Asked.{options_in}
use Rattle.sk_words.specs.declared.tables.OptionName.TheVariants as opt
use Rattle.sk_words.specs.Request.{Options}
use Rattle.sk_outcome.specs.Seen.{Source, seen_by}
use Rattle.sk_outcome.specs.Stage.{MayAnswer}
use Rattle.sk_outcome.specs.Files.{KernelRead, sc_of}
use Rattle.sk_outcome.specs.Drawn.{second_named}
use Rattle.station.proofs.pictured.second_kernel.Goals as goal

pub returns-in-Some-clause-stage : goal.returns-in-Some-clause-stage
returns-in-Some-clause-stage g c =
    let depot = g.D.Depot in
    let options : Options = options_in c.args.request.now in
    let source : Source = seen_by depot.holds depot.given depot.faults c.args.depot.now c.second_named.new.depot in
    let named : Some c.in-Some.name.now ≡ options opt.New = c.in-Some.ensures.text in
    subst (λ (name : Option (List ℕ)). MayAnswer (λ (k : Option KernelRead). k) (second_named source (sc_of options) name) c.second_named.result) named
    (subst (λ (sc : ℕ). MayAnswer (λ (k : Option KernelRead). k) (second_named source sc (Some c.in-Some.name.now)) c.second_named.result) c.spacecraft.ensures.number c.second_named.ensures.stage)
