use Rattle.std.proofs.Common.{ℕ, subst}
use Rattle.sk_outcome.specs.Seen.{Source, seen_by}
use Rattle.sk_outcome.specs.Stage.{MayAnswer}
use Rattle.sk_words.specs.Asked.{options_in}
use Rattle.sk_words.specs.Request.{Options}
use Rattle.sk_outcome.specs.Files.{KernelRead, kernel_document, kernel_meaning, sc_of}
use Rattle.sk_outcome.proofs.Moves.{may_then}
use Rattle.station.proofs.files.kernel_file.Goals as goal

pub returns-clause-stage : goal.returns-clause-stage
returns-clause-stage g c =
    let source : Source = seen_by g.D.Depot.holds g.D.Depot.given g.D.Depot.faults c.args.depot.now c.kernel_document.new.depot in
    let options : Options = options_in c.args.request.now in
    may_then (λ k. k) (kernel_document source options) (kernel_meaning (sc_of options)) c.in_ok-doc.doc c.kernel_meaning.result
    c.in_ok-doc.ensures.stage
    (subst (λ (n : ℕ). MayAnswer (λ (k : KernelRead). k) (kernel_meaning n c.in_ok-doc.doc) c.kernel_meaning.result) c.spacecraft.ensures.number c.kernel_meaning.ensures)
