-- Where the ends of segments stand.
use Rattle.std.specs.Prelude.{◌≡◌, ℕ, ◌<◌, Bool, false, is_none, ◌==◌, List, length, slice_index_or, slice_set, find, Option, None, Some, if◌then◌else◌}
use Rattle.std.specs.List.{list_any}
use Rattle.std.specs.Option.{option_map}
use Rattle.sk_publishing.specs.Row.{RowView}
use Rattle.sk_publishing.specs.Terms.{sights}
use Rattle.sk_publishing.specs.Table.{is_left_at}
use Rattle.sk_fit.specs.declared.chain.Segment.{Segment}
use Rattle.sk_fit.specs.declared.chain.End.{End}
use Rattle.sk_fit.specs.Given.{segment_view}

-- the marked places are those that are listed
abbrev pub IsMarked : List ℕ → List Bool → Type 0
IsMarked listed marked = (place : ℕ) → place < length marked → slice_index_or marked place false ≡ list_any (λ d. d == place) listed

-- the segment's end stands at the place
abbrev pub leaves : List RowView → List ℕ → ℕ → Segment → Bool
leaves rows listed place s = is_left_at place (segment_view (sights rows) listed s)

-- at each place the end of the first segment whose end stands there
abbrev pub AreEnds : List RowView → List ℕ → List Segment → List (Option End) → Type 0
AreEnds rows listed segments ends =
    (place : ℕ) → place < length rows → slice_index_or ends place None ≡ option_map (λ s. s.ended) (find (leaves rows listed place) segments)

-- an end at a place, where there is no other
abbrev pub marked_end : List (Option End) → Option ℕ → End → List (Option End)
marked_end ends None ended = ends
marked_end ends (Some place) ended = if is_none (slice_index_or ends place None) then slice_set ends place (Some ended) else ends
