use Rattle.std.proofs.Common.{Ok, refl, [], ◌∷◌}
use Rattle.sk_words.specs.Asked.{options_in}
use Rattle.sk_words.specs.declared.tables.OptionName.TheVariants as opt
use Rattle.sk_words.specs.Request.{Options, text_or}
use Rattle.sk_edge.proofs.Asking.{among_all, among_then, among_front}
use Rattle.station.specs.Asking.{inputs_names}
use Rattle.sk_outcome.specs.Seen.{Source, seen_by}
use Rattle.sk_outcome.specs.Stage.{gives}
use Rattle.sk_outcome.specs.Files.{InputsRead, AuditRead, inputs_read, candidate_document}
use Rattle.sk_outcome.proofs.Follows.{candidate_after, inputs_follow, candidate_follows}
use Rattle.sk_outcome.proofs.Moves.{reads_then, may_end_as, handed_on}
use Rattle.station.proofs.inputs.read_audit.Goals as goal

pub returns-in_err-candidate-clause-stage : goal.returns-in_err-candidate-clause-stage
returns-in_err-candidate-clause-stage g c =
    let depot = g.D.Depot in
    let options : Options = options_in c.args.request.now in
    let last : Source = seen_by depot.holds depot.given depot.faults c.read_inputs.new.depot c.candidate_document.new.depot in
    let inputs : InputsRead = c.in_ok-inputs.inputs in
    reads_then depot.holds depot.given depot.faults (λ (a : AuditRead). a) (λ s. inputs_read s options) (candidate_after options)
    c.args.depot.now c.read_inputs.new.depot c.candidate_document.new.depot inputs c.from_residual-in_err-candidate.result
    (inputs_follow options) (candidate_follows options) c.read_inputs.ensures.stays c.in_ok-inputs.ensures.stage
    (may_end_as (λ d. d) (λ (a : AuditRead). a) (candidate_document last options) (λ candidate. gives {A = AuditRead} (record { inputs = inputs; candidate = candidate }))
    c.candidate_document.result c.from_residual-in_err-candidate.result c.in_err-candidate.field-0.0 c.in_err-candidate.was
    (handed_on c.from_residual-in_err-candidate.result c.in_err-candidate.field-0.0 c.from_residual-in_err-candidate.ensures.1) c.candidate_document.ensures.stage)

pub returns-clause-stage : goal.returns-clause-stage
returns-clause-stage g c =
    let depot = g.D.Depot in
    let options : Options = options_in c.args.request.now in
    let inputs : InputsRead = c.in_ok-inputs.inputs in
    reads_then depot.holds depot.given depot.faults (λ (a : AuditRead). a) (λ s. inputs_read s options) (candidate_after options)
    c.args.depot.now c.read_inputs.new.depot c.candidate_document.new.depot inputs (Ok (record { inputs = inputs; candidate = c.in_ok-candidate.candidate }))
    (inputs_follow options) (candidate_follows options) c.read_inputs.ensures.stays c.in_ok-inputs.ensures.stage
    (c.in_ok-candidate.candidate, c.in_ok-candidate.ensures.stage, refl)

pub returns-in_err-inputs-clause-asks : goal.returns-in_err-inputs-clause-asks
returns-in_err-inputs-clause-asks g c =
    let options : Options = options_in c.args.request.now in
    among_front _ _ (inputs_names options) (text_or opt.New options ∷ []) c.read_inputs.ensures.asks

pub returns-in_err-candidate-clause-asks : goal.returns-in_err-candidate-clause-asks
returns-in_err-candidate-clause-asks g c =
    let options : Options = options_in c.args.request.now in
    among_then _ _ _ (inputs_names options) (text_or opt.New options ∷ []) c.read_inputs.ensures.asks (among_all _ _ _ c.candidate_document.ensures.asks)

pub returns-clause-asks : goal.returns-clause-asks
returns-clause-asks g c =
    let options : Options = options_in c.args.request.now in
    among_then _ _ _ (inputs_names options) (text_or opt.New options ∷ []) c.read_inputs.ensures.asks (among_all _ _ _ c.candidate_document.ensures.asks)

pub returns-in_err-inputs-clause-stage : goal.returns-in_err-inputs-clause-stage
returns-in_err-inputs-clause-stage g c =
    let depot = g.D.Depot in
    let options : Options = options_in c.args.request.now in
    let source : Source = seen_by depot.holds depot.given depot.faults c.args.depot.now c.read_inputs.new.depot in
    may_end_as (λ (i : InputsRead). i) (λ (a : AuditRead). a) (inputs_read source options) (candidate_after options source)
    c.read_inputs.result c.from_residual.result c.in_err-inputs.field-0.0 c.in_err-inputs.was
    (handed_on c.from_residual.result c.in_err-inputs.field-0.0 c.from_residual.ensures.1) c.read_inputs.ensures.stage
