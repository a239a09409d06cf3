-- What a chain says of each observation, by places.
use Rattle.std.specs.Prelude.{◌≡◌, ℕ, ◌<◌, false, nat_le, List, [], codes, slice_index_or, Option, None, IfSome, if◌then◌else◌}
use Rattle.std.specs.Option.{option_map_or}
use Rattle.sk_publishing.specs.Row.{RowView}
use Rattle.sk_publishing.specs.Table.{ChainView, end_text, end_field, kind_text}
use Rattle.sk_fit.specs.declared.chain.End.{End}
use Rattle.sk_fit.specs.Given.{end_view}
use Rattle.sk_report.specs.declared.marks.Marks.{Marks}
use Rattle.sk_fit.specs.Over.{IsEndOver}

-- the ends at the places of so many observations are over these
abbrev pub AreOver : ℕ → Marks → Type 0
AreOver count m = (place : ℕ) → place < count → IfSome (slice_index_or m.ends.items place None) (IsEndOver count)

-- the words of an end, where there is one
abbrev pub end_words : List RowView → Option End → List ℕ
end_words rows ended = option_map_or (λ e. end_text rows (end_view e)) ended []

-- the word for the kind at a place
abbrev pub kind_word : Marks → ℕ → List ℕ
kind_word m place =
    if slice_index_or m.dropped.items place false then codes "dropped"
    else if nat_le m.first_new place then codes "new"
    else codes "old"

-- the marks say what the chain says of the observation at a place
pub record Tells (rows : List RowView) (chain : Option ChainView) (m : Marks) (place : ℕ) : Type 0 where
  pub kind : kind_word m place ≡ kind_text chain place
  pub ended : end_words rows (slice_index_or m.ends.items place None) ≡ end_field chain rows place
