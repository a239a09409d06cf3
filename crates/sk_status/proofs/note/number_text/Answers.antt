use Rattle.std.proofs.Common.{◌≡◌, refl, sym, ap, ◌∙◌}
use Rattle.std.specs.Prelude.{codes, decimal}
use Rattle.std.specs.Fmt.{digits}
use Rattle.sk_status.specs.declared.status.Status.{Status}
use Rattle.sk_status.specs.Status.{code_of}
use Rattle.sk_status.proofs.note.number_text.Goals as goal

text_0 : codes "0" ≡ decimal 0
unfolding digits
text_0 = refl

text_2 : codes "2" ≡ decimal 2
unfolding digits
text_2 = refl

text_3 : codes "3" ≡ decimal 3
unfolding digits
text_3 = refl

text_4 : codes "4" ≡ decimal 4
unfolding digits
text_4 = refl

text_5 : codes "5" ≡ decimal 5
unfolding digits
text_5 = refl

text_6 : codes "6" ≡ decimal 6
unfolding digits
text_6 = refl

text_7 : codes "7" ≡ decimal 7
unfolding digits
text_7 = refl

text_8 : codes "8" ≡ decimal 8
unfolding digits
text_8 = refl

text_9 : codes "9" ≡ decimal 9
unfolding digits
text_9 = refl

text_10 : codes "10" ≡ decimal 10
unfolding digits
text_10 = refl

text_11 : codes "11" ≡ decimal 11
unfolding digits
text_11 = refl

text_12 : codes "12" ≡ decimal 12
unfolding digits
text_12 = refl

text_13 : codes "13" ≡ decimal 13
unfolding digits
text_13 = refl

text_14 : codes "14" ≡ decimal 14
unfolding digits
text_14 = refl

pub returns-in-Done-clause-text : goal.returns-in-Done-clause-text
returns-in-Done-clause-text c = text_0 ∙ ap (λ (s : Status). decimal (code_of s)) (sym c.in-Done.is)

pub returns-in-WordsRefused-clause-text : goal.returns-in-WordsRefused-clause-text
returns-in-WordsRefused-clause-text c = text_2 ∙ ap (λ (s : Status). decimal (code_of s)) (sym c.in-WordsRefused.is)

pub returns-in-LeapRefused-clause-text : goal.returns-in-LeapRefused-clause-text
returns-in-LeapRefused-clause-text c = text_3 ∙ ap (λ (s : Status). decimal (code_of s)) (sym c.in-LeapRefused.is)

pub returns-in-KernelRefused-clause-text : goal.returns-in-KernelRefused-clause-text
returns-in-KernelRefused-clause-text c = text_4 ∙ ap (λ (s : Status). decimal (code_of s)) (sym c.in-KernelRefused.is)

pub returns-in-ObservationRefused-clause-text : goal.returns-in-ObservationRefused-clause-text
returns-in-ObservationRefused-clause-text c = text_5 ∙ ap (λ (s : Status). decimal (code_of s)) (sym c.in-ObservationRefused.is)

pub returns-in-NotPublished-clause-text : goal.returns-in-NotPublished-clause-text
returns-in-NotPublished-clause-text c = text_6 ∙ ap (λ (s : Status). decimal (code_of s)) (sym c.in-NotPublished.is)

pub returns-in-ReadFault-clause-text : goal.returns-in-ReadFault-clause-text
returns-in-ReadFault-clause-text c = text_7 ∙ ap (λ (s : Status). decimal (code_of s)) (sym c.in-ReadFault.is)

pub returns-in-WriteFault-clause-text : goal.returns-in-WriteFault-clause-text
returns-in-WriteFault-clause-text c = text_8 ∙ ap (λ (s : Status). decimal (code_of s)) (sym c.in-WriteFault.is)

pub returns-in-NoMemory-clause-text : goal.returns-in-NoMemory-clause-text
returns-in-NoMemory-clause-text c = text_9 ∙ ap (λ (s : Status). decimal (code_of s)) (sym c.in-NoMemory.is)

pub returns-in-TimeRefused-clause-text : goal.returns-in-TimeRefused-clause-text
returns-in-TimeRefused-clause-text c = text_10 ∙ ap (λ (s : Status). decimal (code_of s)) (sym c.in-TimeRefused.is)

pub returns-in-AuditNo-clause-text : goal.returns-in-AuditNo-clause-text
returns-in-AuditNo-clause-text c = text_11 ∙ ap (λ (s : Status). decimal (code_of s)) (sym c.in-AuditNo.is)

pub returns-in-NewRefused-clause-text : goal.returns-in-NewRefused-clause-text
returns-in-NewRefused-clause-text c = text_12 ∙ ap (λ (s : Status). decimal (code_of s)) (sym c.in-NewRefused.is)

pub returns-in-ExcerptRefused-clause-text : goal.returns-in-ExcerptRefused-clause-text
returns-in-ExcerptRefused-clause-text c = text_13 ∙ ap (λ (s : Status). decimal (code_of s)) (sym c.in-ExcerptRefused.is)

pub returns-in-OverRefused-clause-text : goal.returns-in-OverRefused-clause-text
returns-in-OverRefused-clause-text c = text_14 ∙ ap (λ (s : Status). decimal (code_of s)) (sym c.in-OverRefused.is)
