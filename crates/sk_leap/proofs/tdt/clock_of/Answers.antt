use Rattle.std.proofs.Common.{◌≡◌, ◌∙◌, sym, ap, subst, pos, to_z, of_z, w32, w64, SFits, Option, Some, rules}
use Rattle.std.specs.Prelude.{ℤ, ◌+ℤ◌, ◌-ℤ◌, ◌*ℤ◌}
use Rattle.std.proofs.lemmas.Int.{to_z-of_z}
use Rattle.sk_leap.specs.declared.pair.LeapPair.{LeapPair}
use Rattle.sk_leap.specs.Steps.{IsClockOf}
use Rattle.sk_leap.proofs.Clocks.{leap_clock, plain_clock, start_low, count_cast, same_bits, back_cast, near_day, near_fits, day_cast, later_low}
use Rattle.sk_leap.proofs.tdt.clock_of.Goals as goal

pub returns-then-day-from : goal.returns-then-day-from
returns-then-day-from c =
    let pair = c.args.pair in
    let later = c.in-Some.later in
    let between = c.requires.between later c.in-Some.is in
    let day = c.split_second-day.result.0 in
    let sod = c.split_second-day.result.1 in
    let low = start_low pair c.args.second c.requires.from c.requires.begun in
    let sum = c.split_second-day.ensures.sum ∙ count_cast c.args.second c.from.result pair.value c.from.ensures c.requires.value low c.requires.end in
    let near = near_day day c.args.second sod pair.value sum c.split_second-day.ensures.part c.requires.value low c.requires.end in
    let fits : SFits w32 later.day = search rules in
    let next : c.from-2.result ≡ later.day = c.from-2.ensures ∙ to_z-of_z w32 later.day fits in
    let far : SFits w64 c.from-2.result = search rules in
    let same = same_bits day c.from-2.result (near_fits day near) far c.if-day-from.true ∙ next in
    let clock = leap_clock pair later c.args.second day sod sum between same in
    subst (λ (d : ℤ). IsClockOf pair c.args.next c.args.second d 86400) (sym (back_cast later.day fits (later_low pair later c.args.second c.requires.from between)))
    (subst (λ (o : Option LeapPair). IsClockOf pair o c.args.second (later.day -ℤ pos 1) 86400) (sym c.in-Some.is) clock)

pub returns-else-day-from : goal.returns-else-day-from
returns-else-day-from c =
    let pair = c.args.pair in
    let later = c.in-Some.later in
    let between = c.requires.between later c.in-Some.is in
    let day = c.split_second-day.result.0 in
    let sod = c.split_second-day.result.1 in
    let low = start_low pair c.args.second c.requires.from c.requires.begun in
    let sum = c.split_second-day.ensures.sum ∙ count_cast c.args.second c.from.result pair.value c.from.ensures c.requires.value low c.requires.end in
    let near = near_day day c.args.second sod pair.value sum c.split_second-day.ensures.part c.requires.value low c.requires.end in
    let fits : SFits w32 later.day = search rules in
    let next : c.from-2.result ≡ later.day = c.from-2.ensures ∙ to_z-of_z w32 later.day fits in
    let differs : day ≡ later.day → ⊥ = λ same. c.if-day-from.false (ap (of_z w64) (same ∙ sym next)) in
    let clock = plain_clock pair later c.args.second day sod sum c.split_second-day.ensures.part between differs in
    subst (λ (d : ℤ). IsClockOf pair c.args.next c.args.second d sod) (sym (day_cast day near))
    (subst (λ (o : Option LeapPair). IsClockOf pair o c.args.second day sod) (sym c.in-Some.is) clock)
