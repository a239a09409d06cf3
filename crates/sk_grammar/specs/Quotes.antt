-- Texts in quotes.
use Rattle.std.specs.Prelude.{ℕ, Bool, ◌||◌, not, ◌==◌}

-- neither a quote nor a line feed
abbrev pub is_plain : ℕ → Bool
is_plain byte = not (byte == 39 || byte == 10)
