use Rattle.std.proofs.Common.{◌≡◌, ◌+◌, ◌-◌, ◌<◌, ℕ, List, length, map, arith, ap, sym, ◌∙◌, get_or, subst, Option}
use Rattle.std.proofs.lemmas.Option.{slice_get-get_or}
use Rattle.std.specs.Option.{option_map_or}
use Rattle.sk_clock.specs.declared.partition.Partition.{Partition}
use Rattle.sk_clock.specs.Clock.{ClockView, ticks_in, partition_from, partition_at as partition_at_of, count_in as count_in_of}
use Rattle.sk_clock.specs.Kept.{lengths_before}
use Rattle.sk_clock.proofs.PartitionLemmas.{IsPlaceAt, place_at}
use Rattle.sk_clock.proofs.clock.Clock.count_in.Goals as goal

pub overflow_sub-place : goal.overflow_sub-place
overflow_sub-place c =
    let ps = c.self.inside.partitions.items in
    let some : 0 < length ps = omega (arith, c.self.invariant.clock.partitions.some.0) in
    let is : c.args.partition ≡ partition_from 0 (map ticks_in ps) c.args.tick = c.requires.partition_at ∙ sym (ap (λ (v : ClockView). partition_at_of v c.args.tick) c.self.view_is) in
    omega (arith, (place_at ps c.self.inside.earlier.items c.args.tick c.args.partition c.self.invariant.earlier_lengths some is).some)

placed : (view : ClockView) (inside : List Partition) (ps : List Partition) (kept earlier : List ℕ) (p tick : ℕ)
    → inside ≡ view.partitions → ps ≡ inside → earlier ≡ kept → kept ≡ lengths_before 0 inside → 0 < length inside → p ≡ partition_at_of view tick
    → IsPlaceAt ps earlier tick p × (tick - get_or earlier (p - 1) 0 + (get_or ps (p - 1) (record { start = 0; end = 0 })).start ≡ count_in_of view p tick)
placed view inside ps kept earlier p tick is_inside is_ps is_earlier is_kept some is =
    let none : Partition = record { start = 0; end = 0 } in
    let same : ps ≡ view.partitions = is_ps ∙ is_inside in
    let before : earlier ≡ lengths_before 0 view.partitions = is_earlier ∙ (is_kept ∙ ap (λ (xs : List Partition). lengths_before 0 xs) is_inside) in
    let at = place_at view.partitions earlier tick p before (omega (arith, ap length is_inside)) is in
    let right = ap (λ (o : Option Partition). option_map_or (λ (x : Partition). x.start) o 0) (slice_get-get_or view.partitions (p - 1) none at.in_list) in
    let left = ap (λ (xs : List Partition). (get_or xs (p - 1) none).start) same in
    (subst (λ (xs : List Partition). IsPlaceAt xs earlier tick p) (sym same) at, omega (arith, at.before, right, left))

pub bounds-earlier-place : goal.bounds-earlier-place
bounds-earlier-place c = (placed c.args.self.now _ _ _ _ _ c.args.tick (ap (λ (v : ClockView). v.partitions) c.self.view_is) c.as_slice-partitions.ensures.value c.as_slice-earlier.ensures.value c.self.invariant.earlier_lengths (omega (arith, c.self.invariant.clock.partitions.some.0)) c.requires.partition_at).0.in_earlier

pub overflow_sub-result : goal.overflow_sub-result
overflow_sub-result c =
    let at = placed c.args.self.now _ _ _ _ _ c.args.tick (ap (λ (v : ClockView). v.partitions) c.self.view_is) c.as_slice-partitions.ensures.value c.as_slice-earlier.ensures.value c.self.invariant.earlier_lengths (omega (arith, c.self.invariant.clock.partitions.some.0)) c.requires.partition_at in
    omega (arith, at.0.before, at.0.begun)

pub bounds-partitions-place : goal.bounds-partitions-place
bounds-partitions-place c = (placed c.args.self.now _ _ _ _ _ c.args.tick (ap (λ (v : ClockView). v.partitions) c.self.view_is) c.as_slice-partitions.ensures.value c.as_slice-earlier.ensures.value c.self.invariant.earlier_lengths (omega (arith, c.self.invariant.clock.partitions.some.0)) c.requires.partition_at).0.in_list

pub returns-clause-value : goal.returns-clause-value
returns-clause-value c = (placed c.args.self.now _ _ _ _ _ c.args.tick (ap (λ (v : ClockView). v.partitions) c.self.view_is) c.as_slice-partitions.ensures.value c.as_slice-earlier.ensures.value c.self.invariant.earlier_lengths (omega (arith, c.self.invariant.clock.partitions.some.0)) c.requires.partition_at).1
