-- Sentences for people: lines that begin with two blanks, in printable ASCII.
use Rattle.std.specs.Prelude.{◌≡◌, ◌/◌, ◌%◌, ◌+◌, ℕ, Bool, true, ◌&&◌, nat_le, nat_lt, List, [], ◌∷◌, ◌++◌, if◌then◌else◌}
use Rattle.std.specs.List.{flat_map, list_all}

abbrev pub is_printable : ℕ → Bool
is_printable byte = nat_le 32 byte && nat_le byte 126

-- a digit of a hexadecimal number
abbrev pub hex_digit : ℕ → ℕ
hex_digit digit = if nat_lt digit 10 then 48 + digit else 87 + digit

-- A byte as it is shown: itself where it is printable, and else as \x and two hexadecimal digits.
abbrev pub shown : ℕ → List ℕ
shown byte = if is_printable byte then byte ∷ [] else 92 ∷ 120 ∷ hex_digit ((byte / 16) % 16) ∷ hex_digit (byte % 16) ∷ []

-- a line that begins with two blanks
abbrev pub set_in : List ℕ → List ℕ
set_in text = 32 ∷ 32 ∷ (text ++ 10 ∷ [])

-- the line of a text; none of an empty one
abbrev pub sentence : List ℕ → List ℕ
sentence [] = []
sentence (byte ∷ rest) = set_in (flat_map shown (byte ∷ rest))

abbrev pub sentences : List (List ℕ) → List ℕ
sentences texts = flat_map sentence texts

-- Each line of the text begins with two blanks and is ended by a line feed; every other byte is printable ASCII.
pub record AreSentences (text : List ℕ) : Type 0 where
  pub lines : List (List ℕ)
  pub are_lines : text ≡ flat_map set_in lines
  pub are_printable : list_all (λ line. list_all is_printable line) lines ≡ true
