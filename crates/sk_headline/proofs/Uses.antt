-- The laws for those who use the program.
use Rattle.std.proofs.Common.{rules, ◌≡◌, ℕ, ◌^◌, ◌<◌, ◌≤◌, Bool, true, false, ◌&&◌, eqb, List, [], ◌∷◌, ◌++◌, length, Option, Some, None, Result, Ok, Err, codes, decimal, refl, sym, ap, subst, ◌∙◌, inl, inr, arith, append_assoc}
use Rattle.std.proofs.lemmas.Bool.{cases_lt, leb-true, false≢true}
use Rattle.std.proofs.lemmas.Bool.Decides.{eqb_tells}
use Rattle.std.proofs.lemmas.Fmt.{digits_decimal, decimal_nonempty}
use Rattle.std.proofs.lemmas.Str.Parse.{IsNumeralModel, numerals_by_value}
use Rattle.std.specs.Str.Parse.{digits_value}
use Rattle.std.specs.Prelude.{ℤ, IsSome, IfSome, nat_le, flat_map}
use Rattle.std.specs.Char.{is_ascii_digit}
use Rattle.std.specs.Option.{option_map}
use Rattle.std.specs.List.{AllByRecursion, list_all, join_with_byte}
use Rattle.sk_checks.specs.Checks.{◌⇒◌, NoneRefuses, FirstRefuses}
use Rattle.sk_checks.proofs.ChecksLemmas.{FirstRefuses-some, NoneRefuses-append}
use Rattle.sk_grammar.specs.Document.{DocView, BlockView}
use Rattle.sk_grammar.specs.Canonical.{canonical_text, ended_by_line_feeds, block_lines}
use Rattle.sk_grammar.specs.Spelling.{Spells}
use Rattle.sk_grammar.specs.Variables.{variables_of, items_of}
use Rattle.sk_grammar.proofs.CanonicalLines.{canonical_spelled}
use Rattle.sk_leap.specs.declared.pair.LeapPair.{LeapPair}
use Rattle.sk_leap.specs.declared.utc.Utc.{Utc}
use Rattle.sk_leap.specs.Leap.{tdt_of, utc_checks}
use Rattle.sk_leap.specs.UtcText.{SpellsUtc}
use Rattle.sk_leap.proofs.Printing.{printed_spells}
use Rattle.sk_clock.specs.Clock.{ClockView, IsClock, clock_text, count_in, delimiter_byte, field_values, padded_fields, partition_at, total}
use Rattle.sk_clock.specs.ClockText.{StandsFor, text_checks}
use Rattle.sk_clock.specs.declared.fault.ClockFault.{ClockFault}
use Rattle.sk_clock.proofs.ReadBackLemmas.{canonical_reads}
use Rattle.sk_clock.proofs.TickLemmas.{partition_at_is}
use Rattle.sk_publishing.specs.Row.{RowView, IsObservedTime}
use Rattle.sk_line.specs.Triple.{TripleView}
use Rattle.sk_publishing.specs.Terms.{Sight, Terms, sights}
use Rattle.sk_publishing.specs.Meets.{IsWithinTolerance}
use Rattle.sk_publishing.specs.Chain.{SegmentView, new_triples}
use Rattle.sk_publishing.specs.Kept.{Sorts, IsPublication}
use Rattle.sk_publishing.specs.Laws.{TriplesRise}
use Rattle.sk_publishing.proofs.Again.{again_law, none_law}
use Rattle.sk_triples.specs.Kernel.{TriplesView}
use Rattle.sk_fit.specs.Given.{terms_of}
use Rattle.sk_obs.specs.Words as word
use Rattle.sk_obs.specs.Words.{ClockForm, clock_form, ClockString, IsTickOf, UtcCode, SaysTime}
use Rattle.sk_obs.proofs.Laws.{SaysTime-one}
use Rattle.sk_words.specs.Request.{Options, text_or, number_or}
use Rattle.sk_words.specs.declared.tables.OptionName.TheVariants as opt
use Rattle.sk_status.specs.declared.status.Status.{Status}
use Rattle.sk_outcome.specs.Seen.{Source}
use Rattle.sk_outcome.specs.Files.{KernelRead, OpenedRead, LeapOf, sc_of, kernel_file, ObservationsOf}
use Rattle.sk_outcome.specs.Output.{settings_of}
use Rattle.sk_status.specs.declared.status.TimeStop.TheVariants.{Range}
use Rattle.sk_outcome.specs.Time.{form_checks, IsUtcWord}
use Rattle.sk_outcome.specs.Outcome.{TimeOf, TickOf, convert_of}
use Rattle.sk_headline.specs.Headline.{IsShort, IsKernel, GivePairs, IsPublished, terms_for, block_with}
use Rattle.sk_headline.specs.Uses.{ReadAgain, AddsNothing, AddsOneBlock, NoneAddsNone, SameDocument, CanonicalIsRead, TextIsRead, UtcIsRead}
use Rattle.sk_headline.proofs.Commands.{kernel_file_determined, convert_of_determined}
use Rattle.sk_headline.proofs.Documents.{spelled_valid}
use Rattle.sk_headline.proofs.Exactly.{kernel_read, known_file}
use Rattle.sk_headline.proofs.Inverted.{time_one}
use Rattle.sk_headline.proofs.NewTimes.{triples_rise}
use Rattle.sk_headline.proofs.OneAnswer.{doc_one}
use Rattle.sk_headline.proofs.OneRecord.{observations_one}
use Rattle.sk_headline.proofs.OneText.{one_kernel, one_pairs, ok_is}
use Rattle.sk_headline.proofs.Ranges.{clock_ranges, triples_ranges}
use Rattle.sk_outcome.proofs.TimeWords.{utc_sent}

-- ---- a published kernel

pub read_again : ReadAgain
read_again options leap_bytes kernel_bytes observation_bytes written p holds given read held short reads =
    let source : Source = record { holds = holds; given = given; rose = λ name. ⊥ } in
    kernel_file_determined source options (λ name rose. rose) (known_file (holds (text_or opt.Kernel options)) written held) read (Ok p.new) reads
    (kernel_read source options written p.new held short p.is_new)

module _ (options : Options) (leap_bytes : Option (List ℕ)) (kernel_bytes observation_bytes written again : List ℕ) (p : IsPublished options leap_bytes kernel_bytes observation_bytes written)
    (q : IsPublished options leap_bytes written observation_bytes again) where
  reread : q.old ≡ p.new
  reread = one_kernel (sc_of options) written q.old p.new q.is_old p.is_new

  clocks : q.old.clock ≡ p.old.clock
  clocks = ap (λ (k : KernelRead). k.clock) reread ∙ p.same_clock

  rows : q.observations ≡ p.observations
  rows = ok_is q.observations p.observations (observations_one observation_bytes p.old.clock p.leap (Ok q.observations) (Ok p.observations)
      (subst (λ (leap : List LeapPair). ObservationsOf observation_bytes p.old.clock leap (Ok q.observations)) (one_pairs leap_bytes q.leap p.leap q.is_leap p.is_leap)
      (subst (λ (clock : ClockView). ObservationsOf observation_bytes clock q.leap (Ok q.observations)) clocks q.are_observations)) p.are_observations)

  abbrev t : Terms
  t = terms_for options p.old p.last

  ended : p.new.triples.triples ≡ q.front ++ q.last ∷ []
  ended = ap (λ (k : KernelRead). k.triples.triples) (sym reread) ∙ q.is_last

  joined : (p.front ++ p.last ∷ []) ++ new_triples p.chain ≡ q.front ++ q.last ∷ []
  joined = ap (λ (ts : List TripleView). ts ++ new_triples p.chain) (sym p.is_last) ∙ sym p.stand ∙ ended

  rise : TriplesRise (q.front ++ q.last ∷ [])
  rise = subst TriplesRise ended (triples_rise p.new.triples.triples (triples_ranges (variables_of (items_of p.new.doc)) p.new.clock (sc_of options) p.new.triples p.is_new.has_triples).rise)

  within : AllByRecursion (IsWithinTolerance t.gauge (q.front ++ q.last ∷ [])) p.publication.kept
  within = subst (λ (ts : List TripleView). AllByRecursion (IsWithinTolerance t.gauge ts) p.publication.kept) ended p.within

  second : IsPublication (terms_for options p.old q.last) (sights p.observations) q.dropped q.chain
  second =
      subst (λ (os : List RowView). IsPublication (terms_for options p.old q.last) (sights os) q.dropped q.chain) rows
      (subst (λ (clock : ClockView). IsPublication (terms_of (settings_of options) clock q.last) (sights q.observations) q.dropped q.chain) clocks q.publication)

  adds_none : options opt.Hold ≡ None → p.dropped ≡ [] → new_triples q.chain ≡ []
  adds_none free all =
      let first : IsPublication t (sights p.observations) [] p.chain = record {
        kept = p.publication.kept;
        sorts = subst (λ (d : List Sight). Sorts t (sights p.observations) p.publication.kept d) all p.publication.sorts;
        is_chain = p.publication.is_chain;
      } in
      again_law t p.front q.front q.last (sights p.observations) p.chain first (ap (λ (o : Option (List ℕ)). option_map (λ _. number_or 0 opt.Hold options) o) free) joined rise
      within q.dropped q.chain second

pub adds_nothing : AddsNothing
adds_nothing options leap_bytes kernel_bytes observation_bytes written again p q free all = adds_none options leap_bytes kernel_bytes observation_bytes written again p q free all

ended_append : (a b : List (List ℕ)) → ended_by_line_feeds (a ++ b) ≡ ended_by_line_feeds a ++ ended_by_line_feeds b
ended_append [] b = refl
ended_append (line ∷ a) b = ap (λ (xs : List ℕ). (line ++ 10 ∷ []) ++ xs) (ended_append a b) ∙ sym (append_assoc (line ++ 10 ∷ []) (ended_by_line_feeds a) (ended_by_line_feeds b))

blocks_append : (a : List BlockView) (b : BlockView) → flat_map block_lines (a ++ b ∷ []) ≡ flat_map block_lines a ++ block_lines b
blocks_append [] b = append_none (block_lines b)
  where
    append_none : (xs : List (List ℕ)) → xs ++ [] ≡ xs
    append_none xs = search rules
blocks_append (x ∷ a) b = ap (λ (xs : List (List ℕ)). block_lines x ++ xs) (blocks_append a b) ∙ sym (append_assoc (block_lines x) (flat_map block_lines a) (block_lines b))

pub adds_one_block : AddsOneBlock
adds_one_block options leap_bytes kernel_bytes observation_bytes written p =
    let block : BlockView = block_with options p.old p.last p.observations p.dropped p.chain in
    p.is_text ∙ ap canonical_text p.is_doc
    ∙ ap (λ (lines : List (List ℕ)). ended_by_line_feeds (p.old.doc.head ++ lines)) (blocks_append p.old.doc.blocks block)
    ∙ ap ended_by_line_feeds (sym (append_assoc p.old.doc.head (flat_map block_lines p.old.doc.blocks) (block_lines block)))
    ∙ ended_append (p.old.doc.head ++ flat_map block_lines p.old.doc.blocks) (block_lines block)

pub none_adds_none : NoneAddsNone
none_adds_none options leap_bytes kernel_bytes observation_bytes written p none =
    none_law (terms_for options p.old p.last) p.dropped p.chain (subst (λ (os : List RowView). IsPublication (terms_for options p.old p.last) (sights os) p.dropped p.chain) none p.publication)

-- ---- texts of one document

pub same_document : SameDocument
same_document options leap_bytes a b observation_bytes written doc spells spelled short p =
    let same : p.old.doc ≡ doc = ok_is p.old.doc doc (doc_one a (Ok p.old.doc) (Ok doc) p.is_old.spelled spells) in
    record {
      short = record { leap = p.short.leap; kernel = short; observations = p.short.observations };
      leap = p.leap;
      is_leap = p.is_leap;
      old = p.old;
      is_old = record { spelled = subst (Spells b) (sym same) spelled; unmixed = p.is_old.unmixed; has_clock = p.is_old.has_clock; has_triples = p.is_old.has_triples };
      observations = p.observations;
      are_observations = p.are_observations;
      front = p.front;
      last = p.last;
      is_last = p.is_last;
      begun = p.begun;
      dropped = p.dropped;
      chain = p.chain;
      publication = p.publication;
      new = p.new;
      is_new = p.is_new;
      same_clock = p.same_clock;
      is_doc = p.is_doc;
      is_text = p.is_text;
      stand = p.stand;
      within = p.within;
      timed = p.timed;
      falls = p.falls;
      rises = p.rises;
      begins = p.begins;
      ordered = p.ordered;
      steps = p.steps;
      barred = p.barred;
      marked = p.marked;
      residuals = p.residuals;
    }

pub canonical_is_read : CanonicalIsRead
canonical_is_read bytes doc spells =
    let spelled = canonical_spelled doc (spelled_valid bytes doc spells) in
    (spelled, (λ again other. ok_is again doc (doc_one (canonical_text doc) (Ok again) (Ok doc) other spelled)))

-- ---- a line of `convert`

apart : (n digit : ℕ) → digit < n → eqb n digit ≡ false
apart n digit less = elim (eqb_tells n digit) [
  | inl same ↦ absurd (let e = same.1 in omega (arith, e, less))
  | inr other ↦ other.0
]

-- a text that begins with a digit is a clock string
of_digit : (rest : List ℕ) (digit : ℕ) → digit < 58 → clock_form (digit ∷ rest) ≡ ClockString (digit ∷ rest)
of_digit rest digit small = rw (apart 116 digit (omega (arith, small)), apart 99 digit (omega (arith, small))) refl

both : (a b : Bool) → (a && b) ≡ true → (a ≡ true) × (b ≡ true)
both true b h = (refl, h)
both false b h = absurd (false≢true h)

starts_with_digit : (digits rest : List ℕ) → 0 < length digits → list_all is_ascii_digit digits ≡ true → clock_form (digits ++ rest) ≡ ClockString (digits ++ rest)
starts_with_digit [] rest some all = absurd (omega (arith, some))
starts_with_digit (digit ∷ digits) rest some all =
    let first : is_ascii_digit digit ≡ true = (both (is_ascii_digit digit) (list_all is_ascii_digit digits) all).0 in
    let small : digit ≤ 57 = leb-true digit 57 (both (nat_le 48 digit) (nat_le digit 57) first).1 in
    of_digit (digits ++ rest) digit (omega (arith, small))

own : IsNumeralModel (λ ds. list_all is_ascii_digit ds ≡ true) (digits_value 10)
own = numerals_by_value (λ ds. list_all is_ascii_digit ds ≡ true) (search rules)

is_clock_string : (clock : ClockView) (tick : ℕ) → IsClock clock → tick ≤ total clock → clock_form (clock_text clock tick) ≡ ClockString (clock_text clock tick)
is_clock_string clock tick is within =
    let p = partition_at clock tick in
    let at = partition_at_is clock tick is within in
    let small : p < 2 ^ 64 = omega (arith, at.is_partition.1, is.partitions.some.1) in
    let fields = join_with_byte (delimiter_byte clock) (padded_fields clock.moduli clock.offsets (field_values clock.moduli clock.offsets (count_in clock p tick))) in
    subst (λ (text : List ℕ). clock_form text ≡ ClockString text) (sym (append_assoc (decimal p) (codes "/") fields))
    (starts_with_digit (decimal p) (codes "/" ++ fields) (decimal_nonempty p small) (digits_decimal own p small))

string_read : (clock : ClockView) (text : List ℕ) (tick : ℕ) → NoneRefuses (text_checks clock text) × StandsFor clock text tick → NoneRefuses (word.form_checks clock (ClockString text)) × IsTickOf clock (ClockString text) tick
string_read clock text tick h = (((λ fault refused. FirstRefuses-some (text_checks clock text) fault refused h.0), tt), h.1)

tick_read : (clock : ClockView) (tick : ℕ) → IsClock clock → tick ≤ total clock → TickOf (clock_text clock tick) clock (Ok tick)
tick_read clock tick is within =
    subst (λ (form : ClockForm). NoneRefuses (word.form_checks clock form) × IsTickOf clock form tick) (sym (is_clock_string clock tick is within))
    (string_read clock (clock_text clock tick) tick (canonical_reads clock tick is within))

not_past : (tick total : ℕ) → ¬ (total < tick) → tick ≤ total
not_past tick total past = elim (cases_lt total tick) [
  | inl less ↦ absurd (past less)
  | inr not_less ↦ omega (arith, not_less)
]

converts : (sc : ℕ) (kernel_bytes : List ℕ) (opened : OpenedRead) (options again : Options) (line : List ℕ) → IsKernel sc kernel_bytes opened.kernel
    → (c : convert_of options opened (Ok line)) → text_or opt.Clock again ≡ clock_text opened.kernel.clock c.0 → convert_of again opened (Ok line)
converts sc kernel_bytes opened options again line k c is =
    let clock : ClockView = opened.kernel.clock in
    let clocked : IsClock clock = clock_ranges (variables_of (items_of opened.kernel.doc)) sc clock k.has_clock in
    let inside : c.0 ≤ opened.kernel.triples.total = not_past c.0 opened.kernel.triples.total c.2.1.0.1.0 in
    let within : c.0 ≤ total clock = omega (arith, inside, k.has_triples.1.of_clock.1) in
    (c.0, subst (λ (text : List ℕ). TickOf text clock (Ok c.0)) (sym is) (tick_read clock c.0 clocked within), c.2)

pub text_is_read : TextIsRead
text_is_read sc kernel_bytes opened options again line k table c is =
    let read = converts sc kernel_bytes opened options again line k c is in
    (read, (λ other h. convert_of_determined again opened table other (Ok line) h read))

-- what is printed says the time
utc_says : (leap : List LeapPair) (time : ℤ) (utc : List ℕ) (u : Utc) → SpellsUtc utc u → NoneRefuses (utc_checks leap u) → tdt_of leap u ≡ time → IsObservedTime time
    → NoneRefuses (form_checks leap (UtcCode utc) ++ ((t : ℤ) × SaysTime leap (UtcCode utc) t × ¬ IsObservedTime t) ⇒ Range ∷ []) × SaysTime leap (UtcCode utc) time
utc_says leap time utc u spelled none is small =
    let says : SaysTime leap (UtcCode utc) time = (u, spelled, sym is) in
    let form = utc_sent leap utc u (record { units = time }) spelled none (sym is) in
    (NoneRefuses-append (form_checks leap (UtcCode utc)) (((t : ℤ) × SaysTime leap (UtcCode utc) t × ¬ IsObservedTime t) ⇒ Range ∷ []) form.0 ((λ large. large.2 (subst IsObservedTime (SaysTime-one leap (UtcCode utc) time large.0 says large.1) small)), tt), says)

utc_read : (leap : List LeapPair) (time : ℤ) (utc : List ℕ) → IsUtcWord leap time utc → ¬ (utc ≡ codes "-") → IsObservedTime time → TimeOf (codes "utc:" ++ utc) leap (Ok time)
utc_read leap time utc (inl h) some small = absurd (some h.2)
utc_read leap time utc (inr h) some small = utc_says leap time utc h.0 (printed_spells utc h.0 h.4) h.2 h.3 small

pub utc_is_read : UtcIsRead
utc_is_read leap time utc word some small =
    let read = utc_read leap time utc word some small in
    (read, (λ other h. time_one (codes "utc:" ++ utc) leap other (Ok time) h read))
