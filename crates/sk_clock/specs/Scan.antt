-- Reading a clock string from left to right: what the code computes.
use Rattle.std.specs.Prelude.{ℕ, zero, suc, Bool, ◌&&◌, nat_lt, nat_le, List, [], ◌∷◌, length, take, drop, codes, Option, Some, None, option_map, ◌==◌, if◌then◌else◌}
use Rattle.std.specs.Char.{is_ascii_digit}
use Rattle.std.specs.List.{prefix_len, list_any}
use Rattle.std.specs.Str.Parse.{digits_value}
use Rattle.sk_clock.specs.ClockText.{Reading}

abbrev pub is_blank : ℕ → Bool
is_blank byte = byte == 32

-- a delimiter that is no blank
abbrev pub is_mark : ℕ → Bool
is_mark byte = list_any (λ mark. byte == mark) (codes ".:-,")

-- the bytes in front that pass, and those behind them
abbrev pub front : (ℕ → Bool) → List ℕ → List ℕ
front test bytes = take (prefix_len test bytes) bytes

abbrev pub behind : (ℕ → Bool) → List ℕ → List ℕ
behind test bytes = drop (prefix_len test bytes) bytes

abbrev pub field_behind : List ℕ → Option (List ℕ)
field_behind [] = None
field_behind (byte ∷ bytes) = Some (if is_mark byte then behind is_blank bytes else byte ∷ bytes)

-- what stands behind a field and its delimiter; None where only blanks are left
abbrev pub next_field : List ℕ → Option (List ℕ)
next_field bytes = field_behind (behind is_blank bytes)

-- one digit or more, and so many at most
abbrev pub is_count : ℕ → List ℕ → Bool
is_count most digits = nat_lt 0 (length digits) && nat_le (length digits) most

-- the values of the fields, where there are no more of them than steps
abbrev pub values_from : ℕ → List ℕ → Option (List ℕ)
values_from zero bytes = None
values_from (suc steps) bytes =
    if is_count 16 (front is_ascii_digit bytes) then elim (next_field (behind is_ascii_digit bytes)) [
      | None ↦ Some (digits_value 10 (front is_ascii_digit bytes) ∷ [])
      | Some rest ↦ option_map (λ values. digits_value 10 (front is_ascii_digit bytes) ∷ values) (values_from steps rest)
    ]
    else None

abbrev pub values_of : List ℕ → Option (List ℕ)
values_of bytes = values_from (length bytes) bytes

-- the partition that is named, and the fields
pub record Parts : Type 0 where
  pub partition : Option ℕ
  pub fields : List ℕ

abbrev pub parts_at : List ℕ → List ℕ → List ℕ → Parts
parts_at bytes digits [] = record { partition = None; fields = bytes }
parts_at bytes digits (byte ∷ rest) =
    if byte == 47 && is_count 4 digits then record { partition = Some (digits_value 10 digits); fields = behind is_blank rest }
    else record { partition = None; fields = bytes }

abbrev pub parts_of : List ℕ → Parts
parts_of bytes = parts_at bytes (front is_ascii_digit bytes) (behind is_blank (behind is_ascii_digit bytes))

abbrev pub reading_with : Parts → Option Reading
reading_with parts = option_map (λ values. record { partition = parts.partition; values = values }) (values_of parts.fields)

-- what a clock string says; None where the text is none
abbrev pub reading_of : List ℕ → Option Reading
reading_of text = reading_with (parts_of (behind is_blank text))
