-- What the calls on documents and variables answer is their only answer.
use Rattle.std.proofs.Common.{◌≡◌, ℕ, List, [], ◌∷◌, map, Some, None, Result, Ok, Err, refl, sym, ap, ◌∙◌, inl, inr}
use Rattle.std.specs.Prelude.{pos, unwrap_or}
use Rattle.std.specs.List.{AllZip}
use Rattle.std.proofs.lemmas.Option.{same_Some, none-some}
use Rattle.sk_checks.specs.Checks.{◌⇒◌, carried, FirstRefuses}
use Rattle.sk_checks.proofs.ChecksLemmas.{AreSingle, plain-single, carried-single, FirstRefuses-one}
use Rattle.sk_decimal.specs.Number.{DecimalView}
use Rattle.sk_grammar.specs.declared.fault.GrammarFault.{GrammarFault}
use Rattle.sk_grammar.specs.declared.fault.GrammarFault.TheVariants as grammar
use Rattle.sk_grammar.specs.declared.fault.Reason.{Reason}
use Rattle.sk_grammar.specs.declared.value.Value.TheVariants.{Number}
use Rattle.sk_grammar.specs.Lines.{lines}
use Rattle.sk_grammar.specs.Document.{DocView}
use Rattle.sk_grammar.specs.Variables.{VariableView, items_of, variables_of, values_at, IsMixedAppend}
use Rattle.sk_grammar.proofs.AllRead.{one_document}
use Rattle.sk_grammar.proofs.Judged.{one_refusal, never_both}
use Rattle.sk_pool.specs.declared.pool.PoolFault.TheVariants.{AppendMixed}
use Rattle.sk_pool.specs.Pool.{pool_checks}
use Rattle.sk_leap.specs.declared.pair.LeapPair.{LeapPair}
use Rattle.sk_leap.specs.Kernel.{leap_checks, IsTableOf, IsLeapDate, Entry, entry_checks, entries_of, delta_at}
use Rattle.sk_leap.proofs.KernelDates.{one_date}
use Rattle.sk_clock.specs.declared.fault.ClockName.TheVariants as name
use Rattle.sk_clock.specs.declared.partition.Partition.{Partition}
use Rattle.sk_clock.specs.Clock.{ClockView, total}
use Rattle.sk_clock.specs.Kernel.{clock_checks, IsClockOf, name_of}
use Rattle.sk_clock.proofs.KernelLemmas.{same_numbers, same_number}
use Rattle.sk_publishing.specs.Row.{RowView}
use Rattle.sk_line.specs.Triple.{TripleView}
use Rattle.sk_triples.specs.Kernel.{TriplesView, range_checks}
use Rattle.sk_triples.proofs.RowTimes.{time_one}
use Rattle.sk_triples.specs.Coefficients.{triples_checks, AreTriplesOf, IsTripleOf, Row, row_checks, rows_of, values_for}
use Rattle.sk_report.specs.Report.{table_checks}
use Rattle.sk_report.specs.declared.fault.ReportFault.TheVariants.{Range}
use Rattle.sk_words.specs.declared.tables.Command.{Command}
use Rattle.sk_words.specs.Words.{matches}
use Rattle.sk_words.specs.Request.{options_of, used}
use Rattle.sk_words.specs.Asked.{Request, WordsAsk}
use Rattle.sk_outcome.specs.Files.{DocOf, PoolOf, LeapOf, ClockOf, TriplesOf}
use Rattle.sk_headline.proofs.Determined.{IsOne, judges_one, single_each, zip_one}

-- ---- documents

refused_once : (m n : ℕ) (r s : Reason) → (m ≡ n) × (r ≡ s) → ◌≡◌ {A = Result DocView GrammarFault} (Err (grammar.At m r)) (Err (grammar.At n s))
refused_once m n r s e = λ i. Err (grammar.At (e.0 i) (e.1 i))

pub doc_one : (bytes : List ℕ) → IsOne (DocOf bytes)
doc_one bytes (Ok a) (Ok b) h k = ap Ok (one_document (lines bytes) a b h.0 k.0 h.1 k.1)
doc_one bytes (Ok a) (Err (grammar.At n r)) h k = absurd (never_both (lines bytes) n r a h.0 k h.1)
doc_one bytes (Ok a) (Err grammar.NoMemory) h k = absurd k
doc_one bytes (Err (grammar.At n r)) (Ok b) h k = absurd (never_both (lines bytes) n r b k.0 h k.1)
doc_one bytes (Err (grammar.At m r)) (Err (grammar.At n s)) h k = refused_once m n r s (one_refusal (lines bytes) m n r s h k)
doc_one bytes (Err (grammar.At m r)) (Err grammar.NoMemory) h k = absurd k
doc_one bytes (Err grammar.NoMemory) b h k = absurd h

pub pool_one : (doc : DocView) → IsOne (PoolOf doc)
pool_one doc =
    judges_one (pool_checks doc) (λ (variables : List VariableView). variables ≡ variables_of (items_of doc))
    (single_each None 1 (λ before n item. IsMixedAppend (items_of doc) n ⇒ AppendMixed n ∷ []) (items_of doc) (λ before n item. (plain-single _ _, tt)))
    (λ x y h k. h ∙ sym k)

-- ---- leap tables

leap_single : (variables : List VariableView) → AreSingle (leap_checks variables)
leap_single variables =
    let entries = single_each None 1 entry_checks (entries_of (unwrap_or (values_at delta_at variables) [])) (λ before n entry. (plain-single _ _, (plain-single _ _, (plain-single _ _, tt)))) in
    (plain-single _ _, (plain-single _ _, (plain-single _ _, (plain-single _ _, entries))))

pairs_one : (entries : List Entry) (a b : List LeapPair) → AllZip (λ (pair : LeapPair) (entry : Entry). (pair.value ≡ entry.number) × IsLeapDate entry.date pair.day) a entries
    → AllZip (λ (pair : LeapPair) (entry : Entry). (pair.value ≡ entry.number) × IsLeapDate entry.date pair.day) b entries → a ≡ b
pairs_one [] [] [] h k = refl
pairs_one [] [] (y ∷ b) h k = absurd k
pairs_one [] (x ∷ a) b h k = absurd h
pairs_one (entry ∷ entries) [] b h k = absurd h
pairs_one (entry ∷ entries) (x ∷ a) [] h k = absurd k
pairs_one (entry ∷ entries) (x ∷ a) (y ∷ b) h k =
    let value : x.value ≡ y.value = h.0.0 ∙ sym k.0.0 in
    let day : x.day ≡ y.day = one_date entry.date x.day y.day h.0.1 k.0.1 in
    let first : x ≡ y = λ i. record { value = value i; day = day i } in
    λ i. first i ∷ pairs_one entries a b h.1 k.1 i

pub leap_one : (variables : List VariableView) → IsOne (LeapOf variables)
leap_one variables = judges_one (leap_checks variables) (IsTableOf variables) (leap_single variables) (pairs_one (entries_of (unwrap_or (values_at delta_at variables) [])))

-- ---- clocks

clock_single : (variables : List VariableView) (sc : ℕ) → AreSingle (clock_checks variables sc)
clock_single variables sc = (plain-single _ _, (plain-single _ _, (plain-single _ _, (plain-single _ _, (plain-single _ _, (plain-single _ _, (plain-single _ _, (plain-single _ _, (plain-single _ _, (plain-single _ _, (plain-single _ _, (plain-single _ _, (plain-single _ _, (plain-single _ _, (plain-single _ _, tt)))))))))))))))

partitions_one : (a b : List Partition) → map (λ (p : Partition). p.start) a ≡ map (λ (p : Partition). p.start) b → map (λ (p : Partition). p.end) a ≡ map (λ (p : Partition). p.end) b → a ≡ b
partitions_one [] [] s e = refl
partitions_one [] (y ∷ b) s e = cc
partitions_one (x ∷ a) [] s e = cc
partitions_one (x ∷ a) (y ∷ b) s e =
    let start : x.start ≡ y.start = cc in
    let end : x.end ≡ y.end = cc in
    let first : x ≡ y = λ i. record { start = start i; end = end i } in
    let starts : map (λ (p : Partition). p.start) a ≡ map (λ (p : Partition). p.start) b = cc in
    let ends : map (λ (p : Partition). p.end) a ≡ map (λ (p : Partition). p.end) b = cc in
    λ i. first i ∷ partitions_one a b starts ends i

same_clock : (a b : ClockView) → a.moduli ≡ b.moduli → a.offsets ≡ b.offsets → a.delimiter ≡ b.delimiter → a.partitions ≡ b.partitions → a ≡ b
same_clock a b moduli offsets delimiter partitions = λ i. record { moduli = moduli i; offsets = offsets i; delimiter = delimiter i; partitions = partitions i }

clock_of_one : (variables : List VariableView) (sc : ℕ) (a b : ClockView) → IsClockOf variables sc a → IsClockOf variables sc b → a ≡ b
clock_of_one variables sc a b h k =
    same_clock a b
    (same_numbers variables (name_of name.Moduli sc) a.moduli b.moduli h.moduli.are_whole k.moduli.are_whole)
    (same_numbers variables (name_of name.Offsets sc) a.offsets b.offsets h.offsets.are_whole k.offsets.are_whole)
    (same_number variables (name_of name.Delim sc) a.delimiter b.delimiter h.delimiter k.delimiter)
    (partitions_one a.partitions b.partitions
    (same_numbers variables (name_of name.Start sc) (map (λ (p : Partition). p.start) a.partitions) (map (λ (p : Partition). p.start) b.partitions) h.partitions.starts k.partitions.starts)
    (same_numbers variables (name_of name.End sc) (map (λ (p : Partition). p.end) a.partitions) (map (λ (p : Partition). p.end) b.partitions) h.partitions.ends k.partitions.ends))

pub clock_one : (variables : List VariableView) (sc : ℕ) → IsOne (ClockOf variables sc)
clock_one variables sc = judges_one (clock_checks variables sc) (IsClockOf variables sc) (clock_single variables sc) (clock_of_one variables sc)

-- ---- triples

triples_single : (variables : List VariableView) (clock : ClockView) (sc : ℕ) → AreSingle (triples_checks variables clock sc)
triples_single variables clock sc =
    let rows = single_each None 1 (row_checks (total clock)) (rows_of (values_for variables sc)) (λ before n row. (plain-single _ _, (plain-single _ _, (plain-single _ _, (plain-single _ _, (plain-single _ _, tt)))))) in
    (plain-single _ _, (plain-single _ _, (plain-single _ _, rows)))

pub whole_one : (m n : ℕ) → Number (record { coefficient = pos m; scale = 0 }) ≡ Number (record { coefficient = pos n; scale = 0 }) → m ≡ n
whole_one m n same =
    let a : DecimalView = record { coefficient = pos m; scale = 0 } in
    let b : DecimalView = record { coefficient = pos n; scale = 0 } in
    let decimals : a ≡ b = cc in
    let coefficients = ap (λ (d : DecimalView). d.coefficient) decimals in
    cc

same_triple : (a b : TripleView) → a.anchor.ticks ≡ b.anchor.ticks → a.anchor.time ≡ b.anchor.time → a.rate ≡ b.rate → a ≡ b
same_triple a b ticks time rate = λ i. record { anchor = record { ticks = ticks i; time = time i }; rate = rate i }

row_triple : (row : Row) (a b : TripleView) → IsTripleOf row a → IsTripleOf row b → a ≡ b
row_triple row a b h k =
    same_triple a b (whole_one a.anchor.ticks b.anchor.ticks (sym h.ticks ∙ k.ticks)) (time_one row.time a.anchor.time b.anchor.time h.time k.time) (h.rate.1 ∙ sym k.rate.1)

same_triples : (a b : TriplesView) → a.triples ≡ b.triples → a.per_count ≡ b.per_count → a.total ≡ b.total → a ≡ b
same_triples a b triples per_count total = λ i. record { triples = triples i; per_count = per_count i; total = total i }

triples_of_one : (variables : List VariableView) (clock : ClockView) (sc : ℕ) (a b : TriplesView) → AreTriplesOf variables clock sc a → AreTriplesOf variables clock sc b → a ≡ b
triples_of_one variables clock sc a b h k =
    same_triples a b (zip_one IsTripleOf row_triple (rows_of (values_for variables sc)) a.triples b.triples h.rows k.rows) (h.of_clock.0 ∙ sym k.of_clock.0) (h.of_clock.1 ∙ sym k.of_clock.1)

pub triples_one : (variables : List VariableView) (clock : ClockView) (sc : ℕ) → IsOne (TriplesOf variables clock sc)
triples_one variables clock sc =
    judges_one (triples_checks variables clock sc) (AreTriplesOf variables clock sc) (triples_single variables clock sc) (triples_of_one variables clock sc)

-- ---- tables

pub range_single : (triples : TriplesView) (tick : ℕ) → AreSingle (range_checks triples tick)
range_single triples tick = (plain-single _ _, (plain-single _ _, tt))

pub table_single : (triples : TriplesView) (rows : List RowView) → AreSingle (table_checks triples rows)
table_single triples rows =
    single_each None 0 (λ before n row. carried (FirstRefuses (range_checks triples row.tick)) (Range row.number) ∷ []) rows
    (λ before n row. (
      carried-single (FirstRefuses (range_checks triples row.tick)) (Range row.number)
          (λ a b. FirstRefuses-one (range_checks triples row.tick) a b (range_single triples row.tick)),
      tt,
    ))

-- ---- words

same_request : (a b : Request) → a.command ≡ b.command → a.options ≡ b.options → a ≡ b
same_request a b command options = λ i. record { command = command i; options = options i }

pub words_one : (words : List (List ℕ)) → IsOne (WordsAsk words)
words_one words (Ok a) (Ok b) h k =
    let command : a.command ≡ b.command = same_Some a.command b.command (sym h.2 ∙ k.2) in
    ap Ok (same_request a b command (h.3 ∙ ap (λ (c : Command). used c (options_of (matches words))) command ∙ sym k.3))
words_one words (Ok a) (Err f) h (inl k) = absurd (k.0 h.0)
words_one words (Ok a) (Err f) h (inr k) = let both : None ≡ Some f = sym h.1 ∙ k.1 in absurd (none-some f both)
words_one words (Err f) (Ok b) (inl h) k = absurd (h.0 k.0)
words_one words (Err f) (Ok b) (inr h) k = let both : None ≡ Some f = sym k.1 ∙ h.1 in absurd (none-some f both)
words_one words (Err f) (Err g) (inl h) (inl k) = ap Err (h.1 ∙ sym k.1)
words_one words (Err f) (Err g) (inl h) (inr k) = absurd (h.0 k.0)
words_one words (Err f) (Err g) (inr h) (inl k) = absurd (k.0 h.0)
words_one words (Err f) (Err g) (inr h) (inr k) = ap Err (same_Some f g (sym h.1 ∙ k.1))
