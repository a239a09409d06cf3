-- Parts of the text of an item: what the code computes.
use Rattle.std.specs.Prelude.{ℕ, ◌+◌, List, [], ◌∷◌, ◌++◌, codes, ◌==◌, if◌then◌else◌}
use Rattle.sk_grammar.specs.declared.value.Op.{Op}
use Rattle.sk_grammar.specs.Spelling.{sign_of}

-- the name and the sign, and a blank behind each
abbrev pub opening : List ℕ → Op → List ℕ
opening name op = name ++ codes " " ++ sign_of op ++ codes " "

-- the item on one line
abbrev pub single_line : List ℕ → Op → List ℕ → List ℕ
single_line name op value = opening name op ++ value

-- lines of values, three on each line with blanks between them; the next value has this place on its line, from 1
abbrev pub in_threes : ℕ → List ℕ → List ℕ
in_threes column [] = []
in_threes column (byte ∷ bytes) =
    if byte == 10 then (if column == 3 then 10 ∷ in_threes 1 bytes else 32 ∷ in_threes (column + 1) bytes) else byte ∷ in_threes column bytes
