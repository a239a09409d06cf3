use Rattle.std.proofs.Common.{◌≡◌, Some, sym, ap, ◌∙◌}
use Rattle.std.proofs.lemmas.Option.{same_Some}
use Rattle.sk_decimal.specs.declared.fixed.Fixed.{Fixed}
use Rattle.sk_audit.proofs.Numbers.{list_three, three_parts}
use Rattle.sk_audit.proofs.Reading.{triple_same}
use Rattle.sk_audit.proofs.claims.read_triple.Goals as goal

pub returns-in_ok-rate-in-len3 : goal.returns-in_ok-rate-in-len3
returns-in_ok-rate-in-len3 c = λ triple numbers e.
    let is = list_three c.args.values.now _ _ _ c.in-len3.len_at_least c.in-len3.len_below c.first-item.is c.second-item.is c.third-item.is in
    let parts = three_parts _ _ _ _ _ _ (sym is ∙ e) in
    let ticks : c.in_ok-ticks-in-len3.ticks ≡ triple.anchor.ticks = same_Some _ _ (c.in_ok-ticks-in-len3.ensures triple.anchor.ticks numbers.ticks parts.0) in
    let time : c.in_ok-time-in-len3.time.units ≡ triple.anchor.time =
    ap (λ (f : Fixed 18). f.units) (same_Some _ _ (c.in_ok-time-in-len3.ensures triple.anchor.time numbers.time parts.1)) in
    let rate : c.in_ok-rate-in-len3.rate.units ≡ triple.rate = ap (λ (f : Fixed 18). f.units) (same_Some _ _ (c.in_ok-rate-in-len3.ensures triple.rate numbers.rate parts.2)) in
    ap Some (triple_same c.in_ok-ticks-in-len3.ticks c.in_ok-time-in-len3.time.units c.in_ok-rate-in-len3.rate.units triple ticks time rate)
