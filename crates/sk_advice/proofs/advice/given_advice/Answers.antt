use Rattle.std.proofs.Common.{ℕ, List, ◌++◌, ap, ◌∙◌}
use Rattle.clap.specs.Words.{Row}
use Rattle.sk_status.specs.declared.status.Status.{Status}
use Rattle.sk_advice.specs.Sentences.{sentence}
use Rattle.sk_advice.specs.Subjects.{subject_of, subject_text}
use Rattle.sk_advice.specs.Advice.{advice_text, cause_in, cure_in, further_of, hint_of}
use Rattle.sk_advice.proofs.Order.{told_in_order}
use Rattle.sk_advice.proofs.advice.given_advice.Goals as goal

pub returns : goal.returns
unfolding advice_text
returns c =
    let rows : List Row = c.args.given.now in
    let ended : Status = c.args.status in
    let none : List ℕ = c.new-text.result.items in
    let one : List ℕ = c.push_sentence.new.text.items in
    let two : List ℕ = c.push_wrong.new.text.items in
    let three : List ℕ = c.push_sentence-2.new.text.items in
    told_in_order none one two three c.push_sentence-3.new.text.items
    (subject_text rows (subject_of ended)) (cause_in rows ended) (cure_in rows ended) (further_of ended) (hint_of (subject_of ended))
    c.new-text.ensures.items
    (c.in_ok-push_sentence.ensures ∙ ap (λ (l : List ℕ). none ++ sentence l) (c.as_slice.ensures.value ∙ c.in_ok-subject_line.ensures ∙ ap (subject_text rows) c.subject_of-subject.ensures))
    c.in_ok-push_wrong.ensures
    (c.in_ok-push_sentence-2.ensures ∙ ap (λ (l : List ℕ). two ++ sentence l) (c.as_slice-2.ensures.value ∙ c.in_ok-further_line.ensures))
    (c.in_ok-push_sentence-3.ensures ∙ ap (λ (l : List ℕ). three ++ sentence l) (c.as_slice-3.ensures.value ∙ c.in_ok-hint_of.ensures ∙ ap hint_of c.subject_of-subject.ensures))
