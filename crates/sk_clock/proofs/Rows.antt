-- Worked examples, computed from the definitions.
use Rattle.std.proofs.Common.{◌≡◌, ℕ, ◌<◌, List, [], ◌∷◌, Some, None, refl, length, codes, lit<, lit≤, inr, arith, subst, IsTrue}
use Rattle.std.specs.Char.{is_ascii_digit}
use Rattle.std.specs.List.{list_all}
use Rattle.std.specs.Fmt.{digits}
use Rattle.sk_decimal.specs.Number.{AreDigits}
use Rattle.sk_clock.specs.Clock.{ClockView, count, ticks_per, total, IsInPartition, Encodes, IsCanonicalText, partition_at, clock_text}
use Rattle.sk_clock.specs.ClockText.{AreBlanks, StandsFor}

abbrev k1 : ClockView
k1 = record { moduli = 4294967296 ∷ 256 ∷ []; offsets = 0 ∷ 0 ∷ []; delimiter = 2; partitions = record { start = 0; end = 1099511627775 } ∷ [] }

abbrev k2 : ClockView
k2 = record { moduli = 4294967296 ∷ 256 ∷ []; offsets = 0 ∷ 0 ∷ []; delimiter = 2; partitions = record { start = 0; end = 1000000 } ∷ record { start = 0; end = 1099511627775 } ∷ [] }

totals : (total k1 ≡ 1099511627775) × (total k2 ≡ 1099512627775) × (ticks_per k2 ≡ 256)
totals = (refl, refl, refl)

counts : (count k2.moduli k2.offsets (3906 ∷ 64 ∷ []) ≡ 1000000) × (count k1.moduli k1.offsets (5 ∷ []) ≡ 1280)
counts = (refl, refl)

in_1 : IsInPartition k2 1 1000000
in_1 = ((lit≤ tt, lit≤ tt), (lit≤ tt, lit≤ tt))

in_2 : IsInPartition k2 2 1000001
in_2 = ((lit≤ tt, lit≤ tt), (lit≤ tt, lit≤ tt))

at_0 : IsInPartition k2 2 0
at_0 = ((lit≤ tt, lit≤ tt), (lit≤ tt, lit≤ tt))

blank_free : AreBlanks []
blank_free = refl

digits_in : (bytes : List ℕ) → IsTrue (list_all is_ascii_digit bytes) → 0 < length bytes → AreDigits bytes
digits_in bytes all some = (some, all)

-- `1/3906:64` is tick 1000000
named : StandsFor k2 (codes "1/3906:64") 1000000
named = (
  record { partition = Some 1; values = 3906 ∷ 64 ∷ [] },
  record {
    before = [];
    part = codes "1/";
    fields = codes "3906:64";
    after = [];
    joined = refl;
    is_before = blank_free;
    is_part = (codes "1", [], [], refl, (digits_in (codes "1") refl (lit< tt), lit≤ tt, refl), blank_free, blank_free);
    are_fields = (codes "3906", codes ":", codes "64", refl, (digits_in (codes "3906") refl (lit< tt), lit≤ tt, refl), inr ([], 58, [], refl, (1, lit< tt, refl), blank_free, blank_free), (digits_in (codes "64") refl (lit< tt), lit≤ tt, refl));
    is_after = blank_free;
  },
  (1, (refl, in_1), (in_1, refl)),
)

-- the count 1000001 stands in the second partition, as tick 2000001
in_second : Encodes k2 None 1000001 2000001
in_second = (2, (in_2, λ q below here. let one : q ≡ 1 = omega arith in let past = subst (λ p. IsInPartition k2 p 1000001) one here in omega arith), (in_2, refl))

-- the text of tick 1000000, which is a boundary
boundary : IsCanonicalText k2 1000000 (codes "2/0000000000:000")
unfolding digits
boundary = record {
  partition = 2;
  values = 0 ∷ 0 ∷ [];
  is_at = record { up_to_total = lit≤ tt; is_partition = (lit≤ tt, lit≤ tt); begun = lit≤ tt; last = λ q past within. absurd (omega arith) };
  has_tick = (((lit≤ tt, lit≤ tt), (lit≤ tt, lit≤ tt)), refl);
  are_digits = (lit≤ tt, (lit≤ tt, lit< tt, tt));
  spelled = refl;
}

half : IsCanonicalText k1 256128 (codes "1/0000001000:128")
unfolding digits
half = record {
  partition = 1;
  values = 1000 ∷ 128 ∷ [];
  is_at = record { up_to_total = lit≤ tt; is_partition = (lit≤ tt, lit≤ tt); begun = lit≤ tt; last = λ q past within. absurd (omega arith) };
  has_tick = (((lit≤ tt, lit≤ tt), (lit≤ tt, lit≤ tt)), refl);
  are_digits = (lit≤ tt, (lit≤ tt, lit< tt, tt));
  spelled = refl;
}

-- the same texts by division
texts : (clock_text k2 1000000 ≡ codes "2/0000000000:000") × (clock_text k1 256128 ≡ codes "1/0000001000:128") × (clock_text k2 999999 ≡ codes "1/0000003906:063")
unfolding digits
texts = (refl, refl, refl)

partitions : (partition_at k2 999999 ≡ 1) × (partition_at k2 1000000 ≡ 2) × (partition_at k2 1099512627775 ≡ 2)
partitions = (refl, refl, refl)
