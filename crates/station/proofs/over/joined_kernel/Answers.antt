use Rattle.std.proofs.Common.{◌≡◌, ◌∷◌, [], Option, ℕ, arith, List, length, map, ap, subst, ◌∙◌, Bor}
use Rattle.std.proofs.lemmas.List.{length-map}
use Rattle.sk_grammar.specs.Document.{DocView}
use Rattle.sk_status.specs.declared.status.DocumentKind.TheVariants.{Kernel}
use Rattle.sk_words.specs.declared.tables.OptionName.TheVariants as opt
use Rattle.sk_words.specs.Asked.{options_in}
use Rattle.sk_words.specs.Request.{Options, text_or}
use Rattle.sk_outcome.specs.Stage.{MayAnswer}
use Rattle.sk_outcome.specs.Seen.{Source, seen_by}
use Rattle.sk_outcome.specs.Files.{kernel_document}
use Rattle.sk_outcome.specs.Joined.{joined_behind, named_over}
use Rattle.sk_edge.specs.Asked.{AsksAmong}
use Rattle.sk_edge.proofs.Asking.{among_all, among_then, among_front}
use Rattle.station.proofs.Joined.{few_behind}
use Rattle.sk_outcome.proofs.Follows.{kernel_document_follows, behind_follows}
use Rattle.sk_outcome.proofs.Moves.{reads_then}
use Rattle.station.proofs.over.joined_kernel.Goals as goal

pub returns-clause-stage : goal.returns-clause-stage
returns-clause-stage g c =
    let depot = g.D.Depot in
    let options : Options = options_in c.args.request.now in
    let last : Source = seen_by depot.holds depot.given depot.faults c.kernel_document.new.depot c.joined_behind.new.depot in
    let first : DocView = c.in_ok-first.first in
    let names_are : map (λ (n : Bor (List ℕ)). n.now) c.as_slice.result.now ≡ named_over options =
    ap (map (λ (n : Bor (List ℕ)). n.now)) c.as_slice.ensures.value ∙ c.in-Ok.ensures.names in
    reads_then depot.holds depot.given depot.faults (λ (d : DocView). d) (λ s. kernel_document s options) (λ s first. joined_behind s first (named_over options))
    c.args.depot.now c.kernel_document.new.depot c.joined_behind.new.depot first c.joined_behind.result
    (kernel_document_follows options) (behind_follows (named_over options)) c.kernel_document.ensures.stays c.in_ok-first.ensures.stage
    (subst (λ (names : List (List ℕ)). MayAnswer {X = DocView} (λ (d : DocView). d) (joined_behind last first names) c.joined_behind.result) names_are c.joined_behind.ensures.stage)

pub returns-clause-few : goal.returns-clause-few
returns-clause-few g c =
    let depot = g.D.Depot in
    let before : Source = seen_by depot.holds depot.given depot.faults c.args.depot.now c.kernel_document.new.depot in
    let last : Source = seen_by depot.holds depot.given depot.faults c.kernel_document.new.depot c.joined_behind.new.depot in
    let now : Bor (List ℕ) → List ℕ = λ n. n.now in
    few_behind before last Kernel (text_or opt.Kernel (options_in c.args.request.now)) (map now c.as_slice.result.now) c.in_ok-first.first c.joined_behind.result
    c.in_ok-first.ensures.stage (omega (arith, length-map c.as_slice.result.now now, ap length c.as_slice.ensures.value, c.in-Ok.ensures.few)) c.joined_behind.ensures.stage

pub returns-in_err-first-clause-asks : goal.returns-in_err-first-clause-asks
returns-in_err-first-clause-asks g c =
    let options : Options = options_in c.args.request.now in
    among_front _ _ (text_or opt.Kernel options ∷ []) (named_over options) (among_all _ _ _ c.kernel_document.ensures.asks)

pub returns-clause-asks : goal.returns-clause-asks
returns-clause-asks g c =
    let depot = g.D.Depot in
    let options : Options = options_in c.args.request.now in
    let names_are : map (λ (n : Bor (List ℕ)). n.now) c.as_slice.result.now ≡ named_over options =
    ap (map (λ (n : Bor (List ℕ)). n.now)) c.as_slice.ensures.value ∙ c.in-Ok.ensures.names in
    among_then _ _ _ (text_or opt.Kernel options ∷ []) (named_over options) (among_all _ _ _ c.kernel_document.ensures.asks)
    (subst (λ (names : List (List ℕ)). AsksAmong (depot.asked c.kernel_document.new.depot) (depot.asked c.joined_behind.new.depot) names) names_are c.joined_behind.ensures.asks)
