-- Bytes as text of XML.
use Rattle.std.specs.Prelude.{ℕ, Bool, not, ◌&&◌, ◌||◌, nat_le, ◌==◌, List, [], ◌∷◌, codes, if◌then◌else◌}
use Rattle.std.specs.List.{flat_map}

-- a byte that stands for itself in text and between quotes
abbrev pub is_plain : ℕ → Bool
is_plain byte = nat_le 32 byte && nat_le byte 126 && not (byte == 34 || byte == 38 || byte == 39 || byte == 60 || byte == 62)

-- A byte's text: itself, a reference, or `?` where it is no printable character of ASCII.
abbrev pub escape : ℕ → List ℕ
escape byte =
    if is_plain byte then byte ∷ []
    else if byte == 34 then codes "&quot;"
    else if byte == 38 then codes "&amp;"
    else if byte == 39 then codes "&apos;"
    else if byte == 60 then codes "&lt;"
    else if byte == 62 then codes "&gt;"
    else codes "?"

abbrev pub escaped : List ℕ → List ℕ
escaped bytes = flat_map escape bytes

-- a byte that can neither open nor end an element or a quoted value
abbrev pub is_harmless : ℕ → Bool
is_harmless byte = nat_le 32 byte && nat_le byte 126 && not (byte == 34 || byte == 39 || byte == 60 || byte == 62)
