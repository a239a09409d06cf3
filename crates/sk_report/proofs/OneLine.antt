-- No line of the table has a line feed in it.
use Rattle.std.proofs.Common.{◌≡◌, ℕ, Bool, false, ◌||◌, List, [], ◌∷◌, ◌++◌, Option, None, Some, refl, ap, ◌∙◌, arith}
use Rattle.std.specs.Prelude.{nat_le, slice_index_or}
use Rattle.std.specs.List.{list_any, AllByRecursion, join_with_byte}
use Rattle.std.proofs.lemmas.List.Folds.{list_any-append}
use Rattle.sk_decimal.specs.Fixed.{fixed_text}
use Rattle.sk_grammar.specs.Lines.{is_line_feed}
use Rattle.sk_publishing.specs.Row.{RowView}
use Rattle.sk_clock.specs.Clock.{ClockView, clock_text}
use Rattle.sk_line.specs.Triple.{TripleView}
use Rattle.sk_line.specs.Line.{covering}
use Rattle.sk_publishing.specs.Table.{kernel_view, time_fields}
use Rattle.sk_fit.specs.declared.chain.End.{End}
use Rattle.sk_fit.specs.Given.{end_view}
use Rattle.sk_report.specs.declared.marks.Marks.{Marks}
use Rattle.sk_report.specs.Marks.{end_words, kind_word}
use Rattle.sk_report.specs.Line.{IsLined, fields_of}
use Rattle.sk_report.proofs.TextLines.{number, fixed, text_plain, id_plain, end_plain, word_plain, is_one_line}

abbrev IsOneLine : List ℕ → Type 0
IsOneLine text = list_any is_line_feed text ≡ false

joined : (parts : List (List ℕ)) → AllByRecursion IsOneLine parts → IsOneLine (join_with_byte 59 parts)
joined [] all = refl
joined (x ∷ []) all = all.0
joined (x ∷ y ∷ rest) all =
    let later = joined (y ∷ rest) all.1 in
    list_any-append is_line_feed x (59 ∷ join_with_byte 59 (y ∷ rest)) ∙ ap (λ (b : Bool). b || list_any is_line_feed (59 ∷ join_with_byte 59 (y ∷ rest))) all.0 ∙ later

times_then : (clock : ClockView) (triples : List TripleView) (row : RowView) (found : Option (ℕ × TripleView)) (words : List (List ℕ))
    → AllByRecursion IsOneLine words → AllByRecursion IsOneLine (time_fields (kernel_view 12 clock triples) row found ++ words)
times_then clock triples row None words all = all
times_then clock triples row (Some found) words all =
    (is_one_line 130 _ (fixed 12 _ (omega arith)), (is_one_line 130 _ (fixed 0 _ (omega arith)), (is_one_line 64 _ (number found.0), all)))

end_one_line : (rows : List RowView) (ended : Option End) → IsOneLine (end_words rows ended)
end_one_line rows None = refl
end_one_line rows (Some ended) = is_one_line 137 _ (end_plain rows (end_view ended))

pub row_one_line : (clock : ClockView) (triples : List TripleView) (rows : List RowView) (row : RowView) (m : Marks) (place : ℕ) (ended : Option End) → IsLined clock row
    → list_any is_line_feed (fields_of (kernel_view 12 clock triples) row (kind_word m place) (end_words rows ended)) ≡ false
row_one_line clock triples rows row m place ended known =
    let kind = kind_word m place in
    let words = kind ∷ end_words rows ended ∷ [] in
    let kind_is : IsOneLine kind = is_one_line 137 kind (word_plain (slice_index_or m.dropped.items place false) (nat_le m.first_new place)) in
    joined (row.id ∷ clock_text clock row.tick ∷ fixed_text 12 row.time ∷ (time_fields (kernel_view 12 clock triples) row (covering triples row.tick) ++ words)) (
      is_one_line 32 row.id (id_plain row.id known.1),
      (
        is_one_line 715 _ (text_plain clock _ _ known.0),
        (
          is_one_line 130 _ (fixed 12 row.time (omega arith)),
          times_then clock triples row (covering triples row.tick) words (kind_is, (end_one_line rows ended, tt)),
        ),
      ),
    )
