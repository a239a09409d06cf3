use Rattle.std.proofs.Common.{◌++◌, ◌∷◌, [], ℕ, List, Option, IsSomeAnd, refl, ap, sym, subst, ◌∙◌}
use Rattle.std.specs.Str.Parse.{digits_value}
use Rattle.sk_clock.specs.Values.{KeepsValues}
use Rattle.sk_clock.specs.Scan.{is_count, next_field}
use Rattle.sk_clock.proofs.ScanLemmas.{reads_last, reads_more, next_shorter, reads_first}
use Rattle.sk_clock.proofs.scan.values_of.Goals as goal

pub loop-digits-init : goal.loop-digits-init
loop-digits-init c = reads_first c.args.bytes.now _ c.new.ensures refl

pub returns-in-None : goal.returns-in-None
returns-in-None c =
    let on = c.loop-digits.invariant in
    let rest = c.loop-digits.rest.now in
    let count = ap (λ (ds : List ℕ). is_count 16 ds) (sym c.split_digits.ensures.digits) ∙ (sym c.is_count.ensures ∙ c.if-not-is_count.false) in
    let next = sym (c.in-None.ensures ∙ ap next_field c.split_digits.ensures.rest) in
    let last = reads_last c.args.bytes.now rest c.loop-digits.values on count next in
    let value = c.number_of.ensures.value ∙ ap (λ (ds : List ℕ). digits_value 10 ds) c.split_digits.ensures.digits in
    let kept = subst (λ (v : ℕ). KeepsValues (on.before ++ v ∷ []) c.push.new.self) value (c.push.ensures on.before on.kept) in
    subst (λ (o : Option (List ℕ)). IsSomeAnd o (λ all. KeepsValues all c.push.new.self)) (sym last) kept

pub loop-digits-smaller : goal.loop-digits-smaller
loop-digits-smaller c =
    let count = ap (λ (ds : List ℕ). is_count 16 ds) (sym c.split_digits.ensures.digits) ∙ (sym c.is_count.ensures ∙ c.if-not-is_count.false) in
    let next = sym (c.in-Some.ensures ∙ ap next_field c.split_digits.ensures.rest) in
    next_shorter c.loop-digits.rest.now c.in-Some.more.now count next

pub loop-digits-preserved : goal.loop-digits-preserved
loop-digits-preserved c =
    let on = c.loop-digits.invariant in
    let rest = c.loop-digits.rest.now in
    let count = ap (λ (ds : List ℕ). is_count 16 ds) (sym c.split_digits.ensures.digits) ∙ (sym c.is_count.ensures ∙ c.if-not-is_count.false) in
    let next = sym (c.in-Some.ensures ∙ ap next_field c.split_digits.ensures.rest) in
    let value = c.number_of.ensures.value ∙ ap (λ (ds : List ℕ). digits_value 10 ds) c.split_digits.ensures.digits in
    let kept = subst (λ (v : ℕ). KeepsValues (on.before ++ v ∷ []) c.push.new.self) value (c.push.ensures on.before on.kept) in
    reads_more c.args.bytes.now rest c.in-Some.more.now c.loop-digits.values c.push.new.self on count next kept
