-- Worked examples, computed from the definitions.
use Rattle.std.proofs.Common.{◌≡◌, [], ◌∷◌, refl, codes, Some}
use Rattle.csv.proofs.OnLiterals.{csv_on_literals}
use Rattle.hex.proofs.OnLiterals.{hex_on_literals}
use Rattle.sk_obs.specs.Words.{clock_form, partition_part, hex_part, TickDigits, CodeBytes, ClockString, IsHexOf}
use Rattle.sk_obs.specs.File.{records_of, header_fields}

one_record : records_of (codes "id,clock,time,delay\na,tick:256000,tdt:1000,0\n") ≡ header_fields ∷ (codes "a" ∷ codes "tick:256000" ∷ codes "tdt:1000" ∷ codes "0" ∷ []) ∷ []
unfolding csv_on_literals
one_record = refl

-- a mark at the start, line ends of both kinds, quotes, and a last line that nothing ends
kinds : records_of (239 ∷ 187 ∷ 191 ∷ codes "id,clock,time,delay\r\n\n\"a\",\"tick:1\",tdt:1,0") ≡ header_fields ∷ (codes "a" ∷ codes "tick:1" ∷ codes "tdt:1" ∷ codes "0" ∷ []) ∷ []
unfolding csv_on_literals
kinds = refl

empty : records_of [] ≡ []
unfolding csv_on_literals
empty = refl

short : records_of (codes "id,clock,time,delay\na,b") ≡ header_fields ∷ (codes "a" ∷ codes "b" ∷ []) ∷ []
unfolding csv_on_literals
short = refl

tick_word : clock_form (codes "tick:5") ≡ TickDigits (codes "5")
tick_word = refl

code_word : clock_form (codes "cuc:1/2d") ≡ CodeBytes (codes "1/2d")
code_word = refl

string_word : clock_form (codes "1/5:0") ≡ ClockString (codes "1/5:0")
string_word = refl

hex_text : IsHexOf (codes "41FF0a") (0x41 ∷ 0xff ∷ 0x0a ∷ [])
unfolding hex_on_literals
hex_text = refl

named_part : partition_part (codes "1/2d00/1") ≡ Some (codes "1")
named_part = refl

hex_of : (hex_part (codes "1/2d00/1") ≡ codes "2d00/1") × (hex_part (codes "2d00") ≡ codes "2d00")
hex_of = (refl, refl)
