use Rattle.std.proofs.Common.{[], ◌∷◌, Ok}
use Rattle.sk_words.specs.Asked.{options_in}
use Rattle.sk_words.specs.declared.tables.OptionName.TheVariants as opt
use Rattle.sk_words.specs.Request.{Options, text_or}
use Rattle.sk_outcome.specs.Seen.{Source, seen_by}
use Rattle.sk_outcome.specs.Stage.{gives}
use Rattle.sk_outcome.specs.Files.{OpenedRead, InputsRead, opened_read, observation_file}
use Rattle.sk_outcome.proofs.Follows.{rows_after, opened_follows, rows_after_follow}
use Rattle.sk_outcome.proofs.Moves.{reads_then, may_end_as, handed_on}
use Rattle.sk_edge.proofs.Asking.{among_all, among_then, among_front}
use Rattle.station.specs.Asking.{opened_names}
use Rattle.station.proofs.inputs.read_inputs.Goals as goal

pub returns-in_err-observations-clause-stage : goal.returns-in_err-observations-clause-stage
returns-in_err-observations-clause-stage g c =
    let depot = g.D.Depot in
    let options : Options = options_in c.args.request.now in
    let last : Source = seen_by depot.holds depot.given depot.faults c.read_opened.new.depot c.observation_file.new.depot in
    let opened : OpenedRead = c.in_ok-opened.opened in
    reads_then depot.holds depot.given depot.faults (λ (i : InputsRead). i) (λ s. opened_read s options) (rows_after options)
    c.args.depot.now c.read_opened.new.depot c.observation_file.new.depot opened c.from_residual-in_err-observations.result
    (opened_follows options) (rows_after_follow options) c.read_opened.ensures.stays c.in_ok-opened.ensures.stage
    (may_end_as (λ o. o) (λ (i : InputsRead). i) (observation_file last options opened) (λ rows. gives {A = InputsRead} (record { kernel = opened.kernel; observations = rows }))
    c.observation_file.result c.from_residual-in_err-observations.result c.in_err-observations.field-0.0 c.in_err-observations.was
    (handed_on c.from_residual-in_err-observations.result c.in_err-observations.field-0.0 c.from_residual-in_err-observations.ensures.1) c.observation_file.ensures.stage)

pub returns-clause-stage : goal.returns-clause-stage
returns-clause-stage g c =
    let depot = g.D.Depot in
    let options : Options = options_in c.args.request.now in
    let opened : OpenedRead = c.in_ok-opened.opened in
    reads_then depot.holds depot.given depot.faults (λ (i : InputsRead). i) (λ s. opened_read s options) (rows_after options)
    c.args.depot.now c.read_opened.new.depot c.observation_file.new.depot opened (Ok (record { kernel = c.opened.inside.kernel; observations = c.in_ok-observations.observations }))
    (opened_follows options) (rows_after_follow options) c.read_opened.ensures.stays c.in_ok-opened.ensures.stage
    (c.in_ok-observations.observations, c.in_ok-observations.ensures.stage, λ i. Ok (record { kernel = (c.opened.view_is i).kernel; observations = c.in_ok-observations.observations }))

pub returns-in_err-opened-clause-asks : goal.returns-in_err-opened-clause-asks
returns-in_err-opened-clause-asks g c =
    let options : Options = options_in c.args.request.now in
    among_front _ _ (opened_names options) (text_or opt.Obs options ∷ []) c.read_opened.ensures.asks

pub returns-in_err-observations-clause-asks : goal.returns-in_err-observations-clause-asks
returns-in_err-observations-clause-asks g c =
    let options : Options = options_in c.args.request.now in
    among_then _ _ _ (opened_names options) (text_or opt.Obs options ∷ []) c.read_opened.ensures.asks (among_all _ _ _ c.observation_file.ensures.asks)

pub returns-clause-asks : goal.returns-clause-asks
returns-clause-asks g c =
    let options : Options = options_in c.args.request.now in
    among_then _ _ _ (opened_names options) (text_or opt.Obs options ∷ []) c.read_opened.ensures.asks (among_all _ _ _ c.observation_file.ensures.asks)
