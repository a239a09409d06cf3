use Rattle.std.proofs.Common.{◌≡◌, ℕ, List, Ok, subst, ◌∙◌}
use Rattle.sk_grammar.specs.Document.{DocView}
use Rattle.sk_sample.specs.Sample.{kernel_text, spacecraft}
use Rattle.sk_status.specs.declared.status.DocumentKind.TheVariants.{Kernel}
use Rattle.sk_outcome.specs.Stage.{Stage, MayAnswer}
use Rattle.sk_outcome.specs.Files.{judged, DocOf, refused_by, kernel_meaning}
use Rattle.sk_outcome.proofs.Moves.{may_then, may_end_as, handed_on}
use Rattle.station.proofs.made.made_kernel.Goals as goal

abbrev doc_by : List ℕ → Stage DocView
doc_by bytes = judged (DocOf bytes) (refused_by Kernel)

pub returns-in_err-doc : goal.returns-in_err-doc
returns-in_err-doc c =
    let text : c.as_bytes.result.now ≡ kernel_text = c.as_bytes.ensures.value ∙ c.kernel_text.ensures.text in
    may_end_as (λ d. d) (λ k. k) (doc_by kernel_text) (kernel_meaning spacecraft) c.document_of.result c.from_residual.result c.in_err-doc.field-0.0 c.in_err-doc.was
    (handed_on c.from_residual.result c.in_err-doc.field-0.0 c.from_residual.ensures.1)
    (subst (λ (bytes : List ℕ). MayAnswer (λ (d : DocView). d) (doc_by bytes) c.document_of.result) text c.document_of.ensures.stage)

pub returns : goal.returns
returns c =
    let text : c.as_bytes.result.now ≡ kernel_text = c.as_bytes.ensures.value ∙ c.kernel_text.ensures.text in
    may_then (λ k. k) (doc_by kernel_text) (kernel_meaning spacecraft) c.in_ok-doc.doc c.kernel_meaning.result
    (subst (λ (bytes : List ℕ). doc_by bytes (Ok c.in_ok-doc.doc)) text c.in_ok-doc.ensures.stage) c.kernel_meaning.ensures
