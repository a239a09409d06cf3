use Rattle.std.proofs.Common.{ℕ, List, Option, length, ap, sym, ◌∙◌, subst, arith}
use Rattle.std.proofs.lemmas.List.{length-map}
use Rattle.sk_checks.specs.Checks.{FirstRefuses, Judges}
use Rattle.sk_clock.specs.declared.field.Field.{Field}
use Rattle.sk_clock.specs.declared.fault.ClockFault.TheVariants.{TooManyFields, BelowOffset}
use Rattle.sk_clock.specs.Clock.{ClockView, count, count_checks, Encodes}
use Rattle.sk_clock.specs.ClockText.{StandsFor, HasLowValue, text_checks}
use Rattle.sk_clock.specs.Kept.{view_of, moduli_of, offsets_of, AreUnits}
use Rattle.sk_clock.specs.Scan.{reading_of}
use Rattle.sk_clock.specs.Values.{KeepsReading}
use Rattle.sk_clock.proofs.TickLemmas.{bad_text, too_many, below_offset, judged_text, some_and, kept_more, kept_all, kept_many}
use Rattle.sk_clock.proofs.clock.Clock.ticks_of.Goals as goal

pub returns-in_default : goal.returns-in_default
returns-in_default c = bad_text c.args.self.now c.args.text.now c.in_default.ensures

pub returns-then-reading : goal.returns-then-reading
returns-then-reading c =
    let inside = c.self.inside in
    let view = view_of inside.fields.items inside.delimiter inside.partitions.items in
    let all = some_and (reading_of c.args.text.now) (λ r. KeepsReading r c.in-Some.reading) c.in-Some.ensures in
    let most = c.self.invariant.clock.moduli.0.1 in
    let many = kept_more all.0.values c.in-Some.reading.values all.2.values c.if-reading.true in
    subst (λ (v : ClockView). FirstRefuses (text_checks v c.args.text.now) TooManyFields) c.self.view_is (too_many view c.args.text.now all.0 all.1 (omega arith))

pub returns-then-values-fields : goal.returns-then-values-fields
returns-then-values-fields c =
    let inside = c.self.inside in
    let view = view_of inside.fields.items inside.delimiter inside.partitions.items in
    let all = some_and (reading_of c.args.text.now) (λ r. KeepsReading r c.in-Some.reading) c.in-Some.ensures in
    let kept = kept_many all.0.values c.in-Some.reading.values all.2.values in
    let fields = length-map inside.fields.items (λ (f : Field). f.modulus) in
    subst (λ (v : ClockView). FirstRefuses (text_checks v c.args.text.now) TooManyFields) c.self.view_is (too_many view c.args.text.now all.0 all.1
    (omega (arith, c.if-values-fields.true, fields, kept, ap length c.as_slice-fields.ensures.value, ap length c.as_slice-values.ensures.value)))

pub returns-in-None : goal.returns-in-None
returns-in-None c =
    let inside = c.self.inside in
    let view = view_of inside.fields.items inside.delimiter inside.partitions.items in
    let all = some_and (reading_of c.args.text.now) (λ r. KeepsReading r c.in-Some.reading) c.in-Some.ensures in
    let values = c.as_slice-values.ensures.value ∙ kept_all all.0.values c.in-Some.reading.values all.2.values c.if-reading.false in
    let fields = length-map inside.fields.items (λ (f : Field). f.modulus) in
    let low = subst (λ (vs : List ℕ). HasLowValue (offsets_of inside.fields.items) vs) values (subst (λ (fs : List Field). HasLowValue (offsets_of fs) c.as_slice-values.result.now) c.as_slice-fields.ensures.value c.in-None.ensures.low) in
    subst (λ (v : ClockView). FirstRefuses (text_checks v c.args.text.now) BelowOffset) c.self.view_is (below_offset view c.args.text.now all.0 all.1
    (omega (arith, c.if-values-fields.false, fields, ap length values, ap length c.as_slice-fields.ensures.value)) low)

pub returns-in-Some-count_of : goal.returns-in-Some-count_of
returns-in-Some-count_of c =
    let inside = c.self.inside in
    let view = view_of inside.fields.items inside.delimiter inside.partitions.items in
    let all = some_and (reading_of c.args.text.now) (λ r. KeepsReading r c.in-Some.reading) c.in-Some.ensures in
    let values = c.as_slice-values.ensures.value ∙ kept_all all.0.values c.in-Some.reading.values all.2.values c.if-reading.false in
    let fields = length-map inside.fields.items (λ (f : Field). f.modulus) in
    let not_low : ¬ HasLowValue (offsets_of inside.fields.items) all.0.values =
    subst (λ (vs : List ℕ). ¬ HasLowValue (offsets_of inside.fields.items) vs) values (subst (λ (fs : List Field). ¬ HasLowValue (offsets_of fs) c.as_slice-values.result.now) c.as_slice-fields.ensures.value c.in-Some-count_of.ensures.low) in
    let units = subst AreUnits (sym c.as_slice-fields.ensures.value) c.self.invariant.units in
    let count_is = c.in-Some-count_of.ensures.value units
    ∙ (ap (λ (fs : List Field). count (moduli_of fs) (offsets_of fs) c.as_slice-values.result.now) c.as_slice-fields.ensures.value
    ∙ ap (λ (vs : List ℕ). count (moduli_of inside.fields.items) (offsets_of inside.fields.items) vs) values) in
    let n = c.in-Some-count_of.count in
    let judged = subst (λ (v : ClockView). Judges (count_checks v c.in-Some.reading.partition n) (Encodes v c.in-Some.reading.partition n) c.tick_of.result) (sym c.self.view_is) c.tick_of.ensures in
    let named = subst (λ (p : Option ℕ). Judges (count_checks view p n) (Encodes view p n) c.tick_of.result) all.2.partition judged in
    subst (λ (v : ClockView). Judges (text_checks v c.args.text.now) (StandsFor v c.args.text.now) c.tick_of.result) c.self.view_is
    (judged_text view c.args.text.now all.0 n c.tick_of.result all.1 (omega (arith, c.if-values-fields.false, fields, ap length values, ap length c.as_slice-fields.ensures.value)) not_low count_is named)
