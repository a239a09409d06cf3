use Rattle.std.proofs.Common.{◌≡◌, ℕ, List, Err, refl, sym, subst}
use Rattle.sk_grammar.specs.Answers.{IsFaultOf}
use Rattle.sk_grammar.specs.Document.{DocView}
use Rattle.sk_grammar.specs.declared.fault.GrammarFault.{GrammarFault}
use Rattle.sk_grammar.specs.declared.fault.GrammarFault.TheVariants.{At, NoMemory}
use Rattle.sk_status.specs.declared.status.Status.{Status}
use Rattle.sk_status.specs.declared.status.DocumentKind.{DocumentKind}
use Rattle.sk_status.specs.declared.status.DocumentKind.TheVariants.{Leap, Kernel, New, Over}
use Rattle.sk_outcome.specs.Stage.{Stage, MayAnswer}
use Rattle.sk_outcome.specs.Files.{judged, DocOf, refused_by}
use Rattle.station.proofs.Sizes.{few_of}
use Rattle.station.proofs.reading.doc_of.Goals as goal

refusal : (bytes : List ℕ) (fault : GrammarFault) → (fault ≡ NoMemory → ⊥) → IsFaultOf bytes fault → DocOf bytes (Err fault)
refusal bytes (At line reason) other h = h
refusal bytes NoMemory other h = other refl

may_refuse : {A X : Type 0} (view : X → A) (stage : Stage A) (kind : DocumentKind) (fault : GrammarFault) → stage (Err (refused_by kind fault))
    → MayAnswer view stage (Err (refused_by kind fault))
may_refuse view stage Leap fault h = h
may_refuse view stage Kernel fault h = h
may_refuse view stage New fault h = h
may_refuse view stage (Over place) fault h = h

pub returns-in-Ok-clause-few : goal.returns-in-Ok-clause-few
returns-in-Ok-clause-few c = λ bytes read short. few_of bytes _ short (c.in-Ok.ensures.spelled bytes read)

pub returns-in-Err-clause-stage : goal.returns-in-Err-clause-stage
returns-in-Err-clause-stage c = λ bytes read.
    let kind : DocumentKind = c.args.kind in
    let fault : GrammarFault = c.in-Err.fault in
    let stage : Stage DocView = judged (DocOf bytes) (refused_by kind) in
    let other : fault ≡ NoMemory → ⊥ = λ e. cc in
    let held : stage (Err (refused_by kind fault)) = (fault, refusal bytes fault other (c.in-Err.ensures.fault bytes read), refl) in
    subst (λ (s : Status). MayAnswer {X = DocView} {A = DocView} (λ d. d) stage (Err s)) (sym c.refused.ensures)
    (may_refuse {A = DocView} {X = DocView} (λ d. d) stage kind fault held)
