-- Octets, their bits, and the numbers that they spell.
use Rattle.std.specs.Prelude.{◌≡◌, ℕ, ◌+◌, ◌-◌, ◌*◌, ◌/◌, ◌%◌, ◌^◌, List, [], ◌∷◌, length, nat_lt, IsTrue}
use Rattle.std.specs.List.{list_all}

-- the number that the octets spell, the highest first
abbrev pub octets_value : List ℕ → ℕ
octets_value [] = 0
octets_value (octet ∷ octets) = octet * 256 ^ length octets + octets_value octets

abbrev pub AreOctets : List ℕ → Type 0
AreOctets octets = IsTrue (list_all (λ octet. nat_lt octet 256) octets)

-- so many octets spell the number
pub record SpellsNumber (count : ℕ) (octets : List ℕ) (n : ℕ) : Type 0 where
  pub long : length octets ≡ count
  pub are_octets : AreOctets octets
  pub value : octets_value octets ≡ n

-- the number in the bits from the first to the last, where bit 0 is the most significant
abbrev pub bits : ℕ → ℕ → ℕ → ℕ
bits first last octet = octet / 2 ^ (7 - last) % 2 ^ (last + 1 - first)
