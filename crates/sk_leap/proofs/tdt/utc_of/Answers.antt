use Rattle.std.proofs.Common.{◌≡◌, ◌∙◌, sym, ap, subst, refl, ℕ, ℤ, pos, SFits, to_z, of_z, w32, w64, List, ◌∷◌, Option, rules, arith, ◌*◌, ◌^◌}
use Rattle.std.specs.Int.{w128}
use Rattle.std.specs.Prelude.{◌≤ℤ◌}
use Rattle.std.proofs.lemmas.Int.{ints, to_z-of_z}
use Rattle.sk_leap.specs.declared.utc.Utc.{Utc}
use Rattle.sk_leap.proofs.Found.{units_from, split_of, split_end, at_of, utc_of_time}
use Rattle.sk_leap.proofs.tdt.utc_of.Goals as goal

pub split_time-second-requires-clause-from : goal.split_time-second-requires-clause-from
split_time-second-requires-clause-from c =
    let fits : SFits w128 c.args.tdt.units = search rules in
    (units_from c.args.first c.args.later.now c.args.tdt.units c.atomic_seconds.result c.tdt_units.result c.requires fits c.atomic_seconds.ensures c.tdt_units.ensures c.if-tdt-tdt_units.false).1

pub clock_of-day-requires-clause-begun : goal.clock_of-day-requires-clause-begun
clock_of-day-requires-clause-begun c =
    let units = c.args.tdt.units in
    let fits : SFits w128 units = search rules in
    let wide : SFits w64 c.split_time-second.result.0 = search rules in
    let from = units_from c.args.first c.args.later.now units c.atomic_seconds.result c.tdt_units.result c.requires fits c.atomic_seconds.ensures c.tdt_units.ensures c.if-tdt-tdt_units.false in
    let upto : units ≤ℤ pos (9 * 10 ^ 21) = omega (arith, ints, c.if-tdt-gt-RANGE.false) in
    let split = split_of c.args.first units c.split_time-second.result.0 c.split_time-second.result.1 from.0 upto fits wide c.split_time-second.ensures.sum c.split_time-second.ensures.part in
    (at_of c.args.first c.args.later.now units _ c.split_time-second.result.1 c.pair_at-next.result c.requires split c.pair_at-next.ensures).has.begun

pub clock_of-day-requires-clause-end : goal.clock_of-day-requires-clause-end
clock_of-day-requires-clause-end c =
    let units = c.args.tdt.units in
    let fits : SFits w128 units = search rules in
    let wide : SFits w64 c.split_time-second.result.0 = search rules in
    let from = units_from c.args.first c.args.later.now units c.atomic_seconds.result c.tdt_units.result c.requires fits c.atomic_seconds.ensures c.tdt_units.ensures c.if-tdt-tdt_units.false in
    let upto : units ≤ℤ pos (9 * 10 ^ 21) = omega (arith, ints, c.if-tdt-gt-RANGE.false) in
    split_end c.args.first units _ c.split_time-second.result.1 (split_of c.args.first units c.split_time-second.result.0 c.split_time-second.result.1 from.0 upto fits wide c.split_time-second.ensures.sum c.split_time-second.ensures.part)

pub clock_of-day-requires-clause-from : goal.clock_of-day-requires-clause-from
clock_of-day-requires-clause-from c =
    let units = c.args.tdt.units in
    let fits : SFits w128 units = search rules in
    let wide : SFits w64 c.split_time-second.result.0 = search rules in
    let from = units_from c.args.first c.args.later.now units c.atomic_seconds.result c.tdt_units.result c.requires fits c.atomic_seconds.ensures c.tdt_units.ensures c.if-tdt-tdt_units.false in
    let upto : units ≤ℤ pos (9 * 10 ^ 21) = omega (arith, ints, c.if-tdt-gt-RANGE.false) in
    let split = split_of c.args.first units c.split_time-second.result.0 c.split_time-second.result.1 from.0 upto fits wide c.split_time-second.ensures.sum c.split_time-second.ensures.part in
    (at_of c.args.first c.args.later.now units _ c.split_time-second.result.1 c.pair_at-next.result c.requires split c.pair_at-next.ensures).low

pub clock_of-day-requires-clause-value : goal.clock_of-day-requires-clause-value
clock_of-day-requires-clause-value c =
    let units = c.args.tdt.units in
    let fits : SFits w128 units = search rules in
    let wide : SFits w64 c.split_time-second.result.0 = search rules in
    let from = units_from c.args.first c.args.later.now units c.atomic_seconds.result c.tdt_units.result c.requires fits c.atomic_seconds.ensures c.tdt_units.ensures c.if-tdt-tdt_units.false in
    let upto : units ≤ℤ pos (9 * 10 ^ 21) = omega (arith, ints, c.if-tdt-gt-RANGE.false) in
    let split = split_of c.args.first units c.split_time-second.result.0 c.split_time-second.result.1 from.0 upto fits wide c.split_time-second.ensures.sum c.split_time-second.ensures.part in
    (at_of c.args.first c.args.later.now units _ c.split_time-second.result.1 c.pair_at-next.result c.requires split c.pair_at-next.ensures).small

pub clock_of-day-requires-clause-between : goal.clock_of-day-requires-clause-between
clock_of-day-requires-clause-between c =
    let units = c.args.tdt.units in
    let fits : SFits w128 units = search rules in
    let wide : SFits w64 c.split_time-second.result.0 = search rules in
    let from = units_from c.args.first c.args.later.now units c.atomic_seconds.result c.tdt_units.result c.requires fits c.atomic_seconds.ensures c.tdt_units.ensures c.if-tdt-tdt_units.false in
    let upto : units ≤ℤ pos (9 * 10 ^ 21) = omega (arith, ints, c.if-tdt-gt-RANGE.false) in
    let split = split_of c.args.first units c.split_time-second.result.0 c.split_time-second.result.1 from.0 upto fits wide c.split_time-second.ensures.sum c.split_time-second.ensures.part in
    (at_of c.args.first c.args.later.now units _ c.split_time-second.result.1 c.pair_at-next.result c.requires split c.pair_at-next.ensures).has.between

pub returns : goal.returns
returns c =
    let units = c.args.tdt.units in
    let fits : SFits w128 units = search rules in
    let wide : SFits w64 c.split_time-second.result.0 = search rules in
    let from = units_from c.args.first c.args.later.now units c.atomic_seconds.result c.tdt_units.result c.requires fits c.atomic_seconds.ensures c.tdt_units.ensures c.if-tdt-tdt_units.false in
    let upto : units ≤ℤ pos (9 * 10 ^ 21) = omega (arith, ints, c.if-tdt-gt-RANGE.false) in
    let split = split_of c.args.first units c.split_time-second.result.0 c.split_time-second.result.1 from.0 upto fits wide c.split_time-second.ensures.sum c.split_time-second.ensures.part in
    let day_fits : SFits w32 c.clock_of-day.result.0 = search rules in
    let utc : Utc = record { day = to_z w32 (of_z w32 c.clock_of-day.result.0); sod = c.clock_of-day.result.1; sub = c.split_time-second.result.1; sub_in_second = c.split_time-second.ensures.part } in
    utc_of_time c.args.first c.args.later.now units _ c.split_time-second.result.1 c.pair_at-next.result c.clock_of-day.result.0 utc c.requires split c.pair_at-next.ensures c.clock_of-day.ensures
    (to_z-of_z w32 c.clock_of-day.result.0 day_fits) refl
