-- A file of observations has one answer.
use Rattle.std.proofs.Common.{◌≡◌, ℕ, ℤ, List, [], ◌∷◌, Option, None, sym, ap, subst, ◌∙◌}
use Rattle.std.specs.Prelude.{drop, pos, ◌*◌, ◌-ℤ◌, IsSomeAnd}
use Rattle.std.specs.List.{enumerate_from, AllZip}
use Rattle.sk_checks.specs.Checks.{Check, ◌⇒◌, FirstRefuses}
use Rattle.sk_checks.proofs.ChecksLemmas.{AreSingle, plain-single, carried-single, FirstRefuses-one}
use Rattle.sk_cuc.specs.Code.{CucView, cuc_checks}
use Rattle.sk_cuc.specs.declared.fault.CucFault.{CucFault}
use Rattle.sk_cds.specs.Code.{CdsView, cds_checks}
use Rattle.sk_cds.specs.declared.fault.CdsFault.{CdsFault}
use Rattle.sk_clock.specs.Clock.{ClockView}
use Rattle.sk_clock.specs.ClockText.{text_checks, code_checks}
use Rattle.sk_publishing.specs.Row.{RowView, IsObservedTime}
use Rattle.sk_clock.specs.declared.fault.ClockFault.{ClockFault}
use Rattle.sk_leap.specs.declared.pair.LeapPair.{LeapPair}
use Rattle.sk_leap.specs.declared.utc.Utc.{Utc}
use Rattle.sk_leap.specs.declared.utc.UtcFault.{UtcFault}
use Rattle.sk_leap.specs.UtcText.{SpellsUtc}
use Rattle.sk_leap.specs.Leap.{utc_checks}
use Rattle.sk_obs.specs.declared.fault.ClockWord.TheVariants.{Text, Cuc}
use Rattle.sk_obs.specs.declared.fault.CodeFault.TheVariants as code
use Rattle.sk_obs.specs.declared.fault.ObsFault.{ObsFault}
use Rattle.sk_obs.specs.declared.fault.ObsFault.TheVariants.{ClockRefused, CodeRefused, UtcRefused, BadDelay, TimeRange, OutOfOrder, Header}
use Rattle.sk_obs.specs.Words.{ClockForm, TickDigits, CodeBytes, ClockString, clock_form, form_checks, word_checks, IsHexOf, hex_part, IsCodeWord, TimeWord, TdtNumber, UtcCode, CucHex, CdsHex, OtherWord, time_word, time_checks, IsCdsHex, IsUtcOf}
use Rattle.sk_obs.specs.File.{records_of, file_checks, header_causes, IsNoHeader, record_checks, own_checks, AreObservations, IsRecordOf, IsObserved, IsDelay, clock_of, time_of, delay_of, IsNotAbove}
use Rattle.sk_obs.proofs.Laws.{IsHexOf-one, IsCodeWord-named, IsCodeWord-code, IsClockWord-one, SaysTime-one, SpellsUtc-one, utc_checks-same, cds_utc}
use Rattle.sk_outcome.specs.Files.{ObservationsOf}
use Rattle.sk_headline.proofs.Determined.{IsOne, judges_one, single_append, single_each, zip_one}

cuc_single : (octets : List ℕ) → AreSingle (cuc_checks octets)
cuc_single octets = (plain-single _ _, (plain-single _ _, (plain-single _ _, (plain-single _ _, (plain-single _ _, tt)))))

cds_single : (octets : List ℕ) → AreSingle (cds_checks octets)
cds_single octets = (plain-single _ _, (plain-single _ _, (plain-single _ _, (plain-single _ _, (plain-single _ _, (plain-single _ _, (plain-single _ _, tt)))))))

text_single : (clock : ClockView) (text : List ℕ) → AreSingle (text_checks clock text)
text_single clock text = (plain-single _ _, (plain-single _ _, (plain-single _ _, (plain-single _ _, (plain-single _ _, tt)))))

code_single : (clock : ClockView) (named : Option ℕ) (cuc : CucView) → AreSingle (code_checks clock named cuc)
code_single clock named cuc = (plain-single _ _, (plain-single _ _, (plain-single _ _, tt)))

utc_single : (pairs : List LeapPair) (utc : Utc) → AreSingle (utc_checks pairs utc)
utc_single pairs utc = (plain-single _ _, (plain-single _ _, tt))

-- ---- the codes of hex texts

cuc_fault : (text : List ℕ) (a b : CucFault) → (octets : List ℕ) × IsHexOf text octets × FirstRefuses (cuc_checks octets) a → (octets : List ℕ) × IsHexOf text octets × FirstRefuses (cuc_checks octets) b → a ≡ b
cuc_fault text a b h k =
    FirstRefuses-one (cuc_checks h.0) a b (cuc_single h.0) h.2 (subst (λ (octets : List ℕ). FirstRefuses (cuc_checks octets) b) (IsHexOf-one text k.0 h.0 k.1 h.1) k.2)

cds_fault : (text : List ℕ) (a b : CdsFault) → (octets : List ℕ) × IsHexOf text octets × FirstRefuses (cds_checks octets) a → (octets : List ℕ) × IsHexOf text octets × FirstRefuses (cds_checks octets) b → a ≡ b
cds_fault text a b h k =
    FirstRefuses-one (cds_checks h.0) a b (cds_single h.0) h.2 (subst (λ (octets : List ℕ). FirstRefuses (cds_checks octets) b) (IsHexOf-one text k.0 h.0 k.1 h.1) k.2)

-- ---- clock words

-- what is refused of the code of a clock word
code_fault : (clock : ClockView) (bytes : List ℕ) (a b : ClockFault)
    → (named : Option ℕ) × (cuc : CucView) × IsCodeWord bytes named cuc × FirstRefuses (code_checks clock named cuc) a
    → (named : Option ℕ) × (cuc : CucView) × IsCodeWord bytes named cuc × FirstRefuses (code_checks clock named cuc) b → a ≡ b
code_fault clock bytes a b h k =
    let named : k.0 ≡ h.0 = IsCodeWord-named bytes k.0 h.0 k.1 h.1 k.2 h.2 in
    let cuc : k.1 ≡ h.1 = IsCodeWord-code bytes k.0 h.0 k.1 h.1 k.2 h.2 in
    let other : FirstRefuses (code_checks clock h.0 k.1) b = subst (λ (n : Option ℕ). FirstRefuses (code_checks clock n k.1) b) named k.3 in
    FirstRefuses-one (code_checks clock h.0 h.1) a b (code_single clock h.0 h.1) h.3 (subst (λ (c : CucView). FirstRefuses (code_checks clock h.0 c) b) cuc other)

form_single : (clock : ClockView) (form : ClockForm) → AreSingle (form_checks clock form)
form_single clock (TickDigits digits) = (plain-single _ _, (plain-single _ _, tt))
form_single clock (CodeBytes bytes) =
    let code = carried-single (λ (fault : CucFault). (octets : List ℕ) × IsHexOf (hex_part bytes) octets × FirstRefuses (cuc_checks octets) fault) Cuc (cuc_fault (hex_part bytes)) in
    let shape = carried-single (λ (fault : ClockFault). (named : Option ℕ) × (cuc : CucView) × IsCodeWord bytes named cuc × FirstRefuses (code_checks clock named cuc) fault) Text (code_fault clock bytes) in
    (plain-single _ _, (plain-single _ _, (code, (shape, tt))))
form_single clock (ClockString text) =
    (carried-single (FirstRefuses (text_checks clock text)) Text (λ a b. FirstRefuses-one (text_checks clock text) a b (text_single clock text)), tt)

pub word_single : (clock : ClockView) (word : List ℕ) → AreSingle (word_checks clock word)
word_single clock word = form_single clock (clock_form word)

-- ---- time words

pub utc_fault : (pairs : List LeapPair) (text : List ℕ) (a b : UtcFault)
    → (u : Utc) × SpellsUtc text u × FirstRefuses (utc_checks pairs u) a → (u : Utc) × SpellsUtc text u × FirstRefuses (utc_checks pairs u) b → a ≡ b
utc_fault pairs text a b h k =
    FirstRefuses-one (utc_checks pairs h.0) a b (utc_single pairs h.0) h.2 (utc_checks-same pairs k.0 h.0 b (SpellsUtc-one text k.0 h.0 k.1 h.1) k.2)

cds_utc_fault : (pairs : List LeapPair) (text : List ℕ) (a b : UtcFault)
    → (c : CdsView) × (u : Utc) × IsCdsHex text c × IsUtcOf c u × FirstRefuses (utc_checks pairs u) a
    → (c : CdsView) × (u : Utc) × IsCdsHex text c × IsUtcOf c u × FirstRefuses (utc_checks pairs u) b → a ≡ b
cds_utc_fault pairs text a b h k =
    FirstRefuses-one (utc_checks pairs h.1) a b (utc_single pairs h.1) h.4
    (utc_checks-same pairs k.1 h.1 b (cds_utc text k.0 h.0 k.1 h.1 k.2 h.2 k.3 h.3) k.4)

pub time_single : (pairs : List LeapPair) (n : ℕ) (word : TimeWord) → AreSingle (time_checks pairs n word)
time_single pairs n (TdtNumber bytes) = (plain-single _ _, tt)
time_single pairs n (UtcCode text) =
    let refused = carried-single (λ (fault : UtcFault). (u : Utc) × SpellsUtc text u × FirstRefuses (utc_checks pairs u) fault) (UtcRefused n) (utc_fault pairs text) in
    (plain-single _ _, (refused, tt))
time_single pairs n (CucHex text) =
    let refused = carried-single (λ (fault : CucFault). (octets : List ℕ) × IsHexOf text octets × FirstRefuses (cuc_checks octets) fault) (λ fault. CodeRefused n (code.Cuc fault)) (cuc_fault text) in
    (plain-single _ _, (refused, (plain-single _ _, tt)))
time_single pairs n (CdsHex text) =
    let refused = carried-single (λ (fault : CdsFault). (octets : List ℕ) × IsHexOf text octets × FirstRefuses (cds_checks octets) fault) (λ fault. CodeRefused n (code.Cds fault)) (cds_fault text) in
    let outside = carried-single (λ (fault : UtcFault). (c : CdsView) × (u : Utc) × IsCdsHex text c × IsUtcOf c u × FirstRefuses (utc_checks pairs u) fault) (UtcRefused n) (cds_utc_fault pairs text) in
    (plain-single _ _, (refused, (outside, tt)))
time_single pairs n OtherWord = (plain-single _ _, tt)

-- ---- records

record_single : (clock : ClockView) (pairs : List LeapPair) (before : Option (List (List ℕ))) (n : ℕ) (fields : List (List ℕ)) → AreSingle (record_checks clock pairs before n fields)
record_single clock pairs before n fields =
    let word : AreSingle (word_checks clock (clock_of fields)) = word_single clock (clock_of fields) in
    let carries = carried-single (FirstRefuses (word_checks clock (clock_of fields))) (ClockRefused n) (λ a b. FirstRefuses-one (word_checks clock (clock_of fields)) a b word) in
    let later : List (Check ObsFault) =
    ((delay : ℕ) → ¬ IsDelay (delay_of fields) delay) ⇒ BadDelay n ∷ ((time : ℤ) × IsObserved pairs fields time × ¬ IsObservedTime time) ⇒ TimeRange n ∷ [] in
    let observed = single_append (time_checks pairs n (time_word (time_of fields))) later (time_single pairs n (time_word (time_of fields))) (plain-single _ _, (plain-single _ _, tt)) in
    single_append (own_checks clock pairs n fields) (IsSomeAnd before (λ previous. IsNotAbove clock previous fields) ⇒ OutOfOrder n ∷ [])
    (plain-single _ _, (plain-single _ _, (plain-single _ _, (carries, observed)))) (plain-single _ _, tt)

header_single : (first : List (List ℕ)) (rows : List (List (List ℕ))) → AreSingle (header_causes first rows)
header_single first rows =
    (plain-single _ _, (plain-single _ _, (plain-single _ _, (plain-single _ _, (plain-single _ _, (plain-single _ _, (plain-single _ _, (plain-single _ _, (plain-single _ _, (plain-single _ _, (plain-single _ _, tt)))))))))))

file_single : (clock : ClockView) (pairs : List LeapPair) (rows : List (List (List ℕ))) → AreSingle (file_checks clock pairs rows)
file_single clock pairs [] = (plain-single _ _, tt)
file_single clock pairs (header ∷ rows) =
    let no_header = carried-single (IsNoHeader header rows) Header (λ a b p q. FirstRefuses-one (header_causes header rows) a b (header_single header rows) p.1 q.1) in
    (no_header, single_each None 2 (record_checks clock pairs) rows (record_single clock pairs))

observed_one : (pairs : List LeapPair) (fields : List (List ℕ)) (a b : ℤ) → IsObserved pairs fields a → IsObserved pairs fields b → a ≡ b
observed_one pairs fields a b h k =
    let sent : h.0 ≡ k.0 = SaysTime-one pairs (time_word (time_of fields)) h.0 k.0 h.2 k.2 in
    let delay : h.1 ≡ k.1 = h.3.0.2 ∙ sym k.3.0.2 in
    h.4 ∙ ap (λ (s : ℤ). s -ℤ pos (h.1 * 1000)) sent ∙ ap (λ (d : ℕ). k.0 -ℤ pos (d * 1000)) delay ∙ sym k.4

same_row : (a b : RowView) → a.id ≡ b.id → a.number ≡ b.number → a.tick ≡ b.tick → a.time ≡ b.time → a ≡ b
same_row a b id number tick time = λ i. record { id = id i; number = number i; tick = tick i; time = time i }

row_one : (clock : ClockView) (pairs : List LeapPair) (n : ℕ) (fields : List (List ℕ)) (a b : RowView) → IsRecordOf clock pairs n fields a → IsRecordOf clock pairs n fields b → a ≡ b
row_one clock pairs n fields a b h k =
    same_row a b (h.id ∙ sym k.id) (h.number ∙ sym k.number) (IsClockWord-one clock (clock_of fields) a.tick b.tick h.tick k.tick) (observed_one pairs fields a.time b.time h.time k.time)

rows_one : (clock : ClockView) (pairs : List LeapPair) (rows : List (ℕ × List (List ℕ))) (a b : List RowView)
    → AllZip (λ row o. IsRecordOf clock pairs row.0 row.1 o) rows a → AllZip (λ row o. IsRecordOf clock pairs row.0 row.1 o) rows b → a ≡ b
rows_one clock pairs rows a b h k = zip_one (λ (row : ℕ × List (List ℕ)) (o : RowView). IsRecordOf clock pairs row.0 row.1 o) (λ row x y. row_one clock pairs row.0 row.1 x y) rows a b h k

pub observations_one : (bytes : List ℕ) (clock : ClockView) (leap : List LeapPair) → IsOne (ObservationsOf bytes clock leap)
observations_one bytes clock leap =
    judges_one (file_checks clock leap (records_of bytes)) (AreObservations clock leap (records_of bytes)) (file_single clock leap (records_of bytes))
    (rows_one clock leap (enumerate_from 2 (drop 1 (records_of bytes))))
