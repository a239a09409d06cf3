-- What the files and writers of the host hold, where they tell it.
use Rattle.std.specs.Prelude.{ℕ, ◌-◌, List, length, take, Option, None}
use Rattle.std.specs.Option.{option_map, option_and_then}

-- what a name holds, and so what its file has left
abbrev pub unknown : Option (List ℕ)
unknown = None

-- what a file that may be open has left
abbrev pub left_in : {F : Type 0} → (F → Option (List ℕ)) → Option F → Option (List ℕ)
left_in remaining file = option_and_then remaining file

-- what a writer holds, without the last bytes of it, so many as it took and could not flush
abbrev pub flushed_part : Option (List ℕ) → ℕ → Option (List ℕ)
flushed_part contents unflushed = option_map (λ bytes. take (length bytes - unflushed) bytes) contents
