use Rattle.std.proofs.Common.{◌≡◌, Some, ◌∙◌, sym, ap, subst}
use Rattle.std.proofs.lemmas.Option.{none-some, same_Some}
use Rattle.sk_leap.specs.declared.utc.Utc.{Utc}
use Rattle.sk_leap.specs.declared.parts.UtcParts.{UtcParts}
use Rattle.sk_leap.specs.Reading.{parts_of}
use Rattle.sk_leap.specs.Meaning.{IsUtcOf}
use Rattle.sk_leap.proofs.Texts.{spelled_is_read}
use Rattle.sk_leap.proofs.Spelled.{read_is_spelled}
use Rattle.sk_leap.proofs.text.read_utc.Goals as goal

pub returns-in_default : goal.returns-in_default
returns-in_default c = λ utc spelled.
    let text = spelled_is_read c.args.text.now utc spelled in
    none-some text.parts (c.in_default.ensures.value ∙ ap parts_of c.as_bytes.ensures.value ∙ text.read)

pub returns-in-Some-utc_of : goal.returns-in-Some-utc_of
returns-in-Some-utc_of c =
    read_is_spelled c.args.text.now c.in-Some.parts c.in-Some-utc_of.utc (sym (c.in-Some.ensures.value ∙ ap parts_of c.as_bytes.ensures.value)) c.in-Some-utc_of.ensures

pub returns-in-None : goal.returns-in-None
returns-in-None c = λ utc spelled.
    let text = spelled_is_read c.args.text.now utc spelled in
    let same : text.parts ≡ c.in-Some.parts = same_Some text.parts c.in-Some.parts (sym text.read ∙ sym (c.in-Some.ensures.value ∙ ap parts_of c.as_bytes.ensures.value)) in
    c.in-None.ensures utc (subst (λ (parts : UtcParts). IsUtcOf parts utc) same text.is_utc)
