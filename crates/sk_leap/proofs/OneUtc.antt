-- A text spells one UTC at most.
use mathlib.Core.HLevel.{is_prop→PathP}
use Rattle.std.proofs.Common.{◌≡◌, ℕ, ◌<◌, ◌^◌, List, sym, ◌∙◌, subst, arith}
use Rattle.std.proofs.Math.Bridge.{le_prop}
use Rattle.std.specs.Prelude.{ℤ}
use Rattle.std.proofs.lemmas.Int.{ints}
use Rattle.std.proofs.lemmas.Option.{same_Some}
use Rattle.sk_leap.specs.declared.utc.Utc.{Utc}
use Rattle.sk_leap.specs.declared.parts.DateParts.{DateParts}
use Rattle.sk_leap.specs.declared.parts.DateParts.TheVariants.{Calendar, Ordinal}
use Rattle.sk_leap.specs.declared.parts.UtcParts.{UtcParts}
use Rattle.sk_leap.specs.Meaning.{IsDayOf, IsUtcOf}
use Rattle.sk_leap.specs.UtcText.{SpellsUtc}
use Rattle.sk_leap.proofs.Texts.{spelled_is_read}

one_day : (date : DateParts) (a b : ℤ) → IsDayOf date a → IsDayOf date b → a ≡ b
one_day (Calendar year month date) a b h k = h.2 ∙ sym k.2
one_day (Ordinal year place) a b h k = omega (arith, ints, h.2, k.2)

-- equal numbers make one UTC
pub same_utc : (a b : Utc) → a.day ≡ b.day → a.sod ≡ b.sod → a.sub ≡ b.sub → a ≡ b
same_utc a b day sod sub = λ i. record {
  day = day i;
  sod = sod i;
  sub = sub i;
  sub_in_second = is_prop→PathP (λ j. sub j < 10 ^ 12) (λ j x y. le_prop x y) a.sub_in_second b.sub_in_second i;
}

one_meaning : (parts : UtcParts) (a b : Utc) → IsUtcOf parts a → IsUtcOf parts b → a ≡ b
one_meaning parts a b h k =
    same_utc a b (one_day parts.date a.day b.day h.day k.day) (h.second.is_sod ∙ sym k.second.is_sod) (h.sub ∙ sym k.sub)

pub one_utc : (text : List ℕ) (a b : Utc) → SpellsUtc text a → SpellsUtc text b → a ≡ b
one_utc text a b h k =
    let first = spelled_is_read text a h in
    let second = spelled_is_read text b k in
    let same : first.parts ≡ second.parts = same_Some first.parts second.parts (sym first.read ∙ second.read) in
    one_meaning second.parts a b (subst (λ (parts : UtcParts). IsUtcOf parts a) same first.is_utc) second.is_utc
