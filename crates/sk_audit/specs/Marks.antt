-- What is told of each observation, by its place.
use Rattle.std.specs.Prelude.{◌≡◌, ℕ, ◌<◌, Bool, false, nat_le, is_none, ◌==◌, List, [], codes, length, slice_index_or, slice_set, find, Option, None, Some, if◌then◌else◌}
use Rattle.std.specs.List.{list_any}
use Rattle.std.specs.Option.{option_map, option_map_or}
use Rattle.sk_publishing.specs.Row.{RowView}
use Rattle.sk_publishing.specs.Table.{ChainView, end_text, end_field, kind_text}
use Rattle.sk_audit.specs.declared.told.Told.{Told}
use Rattle.sk_audit.specs.declared.told.End.{End}
use Rattle.sk_audit.specs.declared.marks.Marks.{Marks}
use Rattle.sk_audit.specs.Given.{end_view}

-- the marked places are those that are listed
abbrev pub IsMarked : List ℕ → List Bool → Type 0
IsMarked listed marked = (place : ℕ) → place < length marked → slice_index_or marked place false ≡ list_any (λ d. d == place) listed

-- the place is that of the last observation that the segment covers
abbrev pub leaves : ℕ → Told → Bool
leaves place s = option_map_or (λ p. p == place) s.place false

-- at each of so many places the end of the first segment that is left there
abbrev pub AreEnds : ℕ → List Told → List (Option End) → Type 0
AreEnds count segments ends =
    (place : ℕ) → place < count → slice_index_or ends place None ≡ option_map (λ s. s.ended) (find (leaves place) segments)

-- an end at a place, where there is no other
abbrev pub marked_end : List (Option End) → Option ℕ → End → List (Option End)
marked_end ends None ended = ends
marked_end ends (Some place) ended = if is_none (slice_index_or ends place None) then slice_set ends place (Some ended) else ends

-- the words of an end, where there is one
abbrev pub end_words : List RowView → Option End → List ℕ
end_words rows ended = option_map_or (λ e. end_text rows (end_view e)) ended []

-- the word for the kind at a place
abbrev pub kind_word : Marks → ℕ → List ℕ
kind_word m place =
    if slice_index_or m.dropped.items place false then codes "dropped"
    else if nat_le m.first_new place then codes "new"
    else codes "old"

-- the marks say what the chain says of the observation at a place
pub record Tells (rows : List RowView) (chain : ChainView) (m : Marks) (place : ℕ) : Type 0 where
  pub kind : kind_word m place ≡ kind_text (Some chain) place
  pub ended : end_words rows (slice_index_or m.ends.items place None) ≡ end_field (Some chain) rows place
