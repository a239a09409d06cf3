use Rattle.std.proofs.Common.{List, ℕ, map, inr, Vec, Global}
use Rattle.sk_outcome.specs.Seen.{Source, seen_by}
use Rattle.sk_outcome.specs.Outcome.{requested, outcome_of}
use Rattle.sk_words.specs.Asked.{Request, request_of}
use Rattle.sk_words.specs.declared.fault.WordsFault.TheVariants.{NotTaken}
use Rattle.sk_words.specs.Request.{files_of}
use Rattle.sk_words.proofs.Needed.{are_named}
use Rattle.sk_edge.proofs.Asking.{among_part}
use Rattle.sk_outcome.proofs.Moves.{may_then}
use Rattle.station.specs.Asking.{names_read}
use Rattle.station.proofs.AskedFiles.{names_part}
use Rattle.station.proofs.Refusals.{takes_words}
use Rattle.station.proofs.top.asked_text.Goals as goal

pub returns-in-Ok-clause-stage : goal.returns-in-Ok-clause-stage
returns-in-Ok-clause-stage g c =
    let source : Source = seen_by g.D.Depot.holds g.D.Depot.given g.D.Depot.faults c.args.depot.now c.command_text.new.depot in
    let words : List (List ℕ) = map (λ w. w.now) c.args.words.now in
    let request : Request = request_of c.in-Ok.request in
    may_then (λ v. v.items) (requested words) (λ (r : Request). outcome_of r.command source r.options) request c.command_text.result
    c.in-Ok.ensures.asked c.command_text.ensures.stage

pub returns-in-Ok-clause-not_taken : goal.returns-in-Ok-clause-not_taken
returns-in-Ok-clause-not_taken g c =
    let source : Source = seen_by g.D.Depot.holds g.D.Depot.given g.D.Depot.faults c.args.depot.now c.command_text.new.depot in
    let request : Request = request_of c.in-Ok.request in
    λ e. absurd (takes_words (λ (v : Vec ℕ Global). v.items) request.command source request.options NotTaken c.command_text.result c.command_text.ensures.stage e)

pub returns-in-Ok-clause-asks : goal.returns-in-Ok-clause-asks
returns-in-Ok-clause-asks g c =
    let words : List (List ℕ) = map (λ w. w.now) c.args.words.now in
    let request : Request = request_of c.in-Ok.request in
    inr (
      request,
      c.in-Ok.ensures.asked,
      among_part _ _ (names_read request.command request.options) (files_of request.options) c.command_text.ensures.asks
          (names_part request.command request.options (are_named words request c.in-Ok.ensures.asked)),
    )
