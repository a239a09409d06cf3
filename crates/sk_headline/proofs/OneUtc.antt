-- A time has one UTC text.
use Rattle.std.proofs.Common.{◌≡◌, ℕ, List, sym, inl, inr, ◌∙◌}
use Rattle.std.specs.Prelude.{ℤ}
use Rattle.sk_checks.proofs.ChecksLemmas.{FirstRefuses-some}
use Rattle.sk_leap.specs.declared.pair.LeapPair.{LeapPair}
use Rattle.sk_leap.specs.Leap.{tdt_checks, IsLeapTable}
use Rattle.sk_leap.proofs.OneTime.{one_print, one_utc_of}
use Rattle.sk_outcome.specs.Time.{IsUtcWord}

pub one_utc_word : (pairs : List LeapPair) (time : ℤ) (a b : List ℕ) → IsLeapTable pairs → IsUtcWord pairs time a → IsUtcWord pairs time b → a ≡ b
one_utc_word pairs time a b table (inl h) (inl k) = h.2 ∙ sym k.2
one_utc_word pairs time a b table (inl h) (inr k) = absurd (FirstRefuses-some (tdt_checks pairs time) h.0 h.1 k.1)
one_utc_word pairs time a b table (inr h) (inl k) = absurd (FirstRefuses-some (tdt_checks pairs time) k.0 k.1 h.1)
one_utc_word pairs time a b table (inr h) (inr k) = one_print a b h.0 k.0 (one_utc_of pairs time h.0 k.0 table h.2 k.2 h.3 k.3) h.4 k.4
