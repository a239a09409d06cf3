use Rattle.std.proofs.Common.{◌≡◌, ◌<◌, ◌≤◌, ◌-◌, ◌^◌, ℕ, Some, length, ap, sym, subst, refl, arith, rules, ◌∙◌}
use Rattle.std.proofs.lemmas.Int.{ints}
use Rattle.std.proofs.lemmas.Option.{slice_get_read}
use Rattle.std.specs.Prelude.{ℤ, pos, ◌*ℤ◌, ◌<ℤ◌, ◌≤ℤ◌, slice_get}
use Rattle.sk_line.specs.Line.{fall_over, FallsOver, IsFirstFall}
use Rattle.sk_triples.specs.Kernel.{TriplesView, HasFall}
use Rattle.sk_triples.proofs.Falls.{before_join, no_fall, one_more, none_at_all, found}
use Rattle.sk_triples.proofs.Wide.{passed_on, count_passed}
use Rattle.sk_triples.proofs.triples.Triples.first_fall_over.Goals as goal

pub fall_over-amount-requires-clause-before : goal.fall_over-amount-requires-clause-before
fall_over-amount-requires-clause-before c =
    let ts = c.self.inside.list.items in
    let within : c.loop-join.join < length ts = omega (arith, c.self.inside.list.ok.0) in
    before_join c.self.inside.total ts c.loop-join.join c.index.result.now c.index-in-loop-join.result.now c.self.invariant.triples (omega arith) within
    c.index.ensures c.index-in-loop-join.ensures

pub returns-then-amount-most : goal.returns-then-amount-most
returns-then-amount-most c =
    let ts = c.self.inside.list.items in
    let slip = c.args.slip.units *ℤ pos (10 ^ 9) in
    let within : c.loop-join.join < length ts = omega (arith, c.self.inside.list.ok.0) in
    let before : slice_get ts (c.loop-join.join - 1) ≡ Some c.index.result.now = slice_get_read ts (length ts) (c.loop-join.join - 1) c.index.result.now refl (omega arith) c.index.ensures in
    let after : slice_get ts c.loop-join.join ≡ Some c.index-in-loop-join.result.now = slice_get_read ts (length ts) c.loop-join.join c.index-in-loop-join.result.now refl within c.index-in-loop-join.ensures in
    let most : c.times_count-most.result ≡ (c.args.slip.units *ℤ pos (10 ^ 9)) *ℤ pos c.self.inside.ticks_per = search rules in
    let over : c.times_count-most.result <ℤ c.fall_over-amount.result = omega (arith, ints) in
    let amount : c.fall_over-amount.result ≡ fall_over c.self.inside.ticks_per c.index.result.now c.index-in-loop-join.result.now = c.fall_over-amount.ensures in
    let falls = found c.self.inside.ticks_per ts slip c.loop-join.join c.index.result.now c.index-in-loop-join.result.now (omega arith) before after
    (subst (λ (x : ℤ). x <ℤ fall_over c.self.inside.ticks_per c.index.result.now c.index-in-loop-join.result.now) most (subst (λ (x : ℤ). c.times_count-most.result <ℤ x) amount over))
    c.loop-join.invariant in
    let has : HasFall c.self.inside.ticks_per ts c.loop-join.join c.fall_over-amount.result =
    record { before = c.index.result.now; after = c.index-in-loop-join.result.now; counted = omega arith; is_before = before; is_after = after; is_amount = amount } in
    let passed = passed_on c.fall_over-amount.result c.fall_over-amount.type_inv in
    let Answers : TriplesView → Type 0 = λ t. IsFirstFall t.per_count t.triples slip c.loop-join.join × HasFall t.per_count t.triples c.loop-join.join c.fall_over-amount.result in
    let both = subst Answers c.self.view_is (falls, has) in
    let count : c.self.inside.ticks_per ≡ c.args.self.now.per_count = ap (λ (t : TriplesView). t.per_count) c.self.view_is in (
      both.0,
      subst (HasFall c.args.self.now.per_count c.args.self.now.triples c.loop-join.join) (sym passed) both.1,
      count_passed c.self.inside.ticks_per c.self.invariant.per_count.1 ∙ ap (λ (n : ℕ). pos n) count,
    )

pub loop-join-preserved : goal.loop-join-preserved
loop-join-preserved c =
    let ts = c.self.inside.list.items in
    let slip = c.args.slip.units *ℤ pos (10 ^ 9) in
    let within : c.loop-join.join < length ts = omega (arith, c.self.inside.list.ok.0) in
    let before : slice_get ts (c.loop-join.join - 1) ≡ Some c.index.result.now = slice_get_read ts (length ts) (c.loop-join.join - 1) c.index.result.now refl (omega arith) c.index.ensures in
    let after : slice_get ts c.loop-join.join ≡ Some c.index-in-loop-join.result.now = slice_get_read ts (length ts) c.loop-join.join c.index-in-loop-join.result.now refl within c.index-in-loop-join.ensures in
    let most : c.times_count-most.result ≡ (c.args.slip.units *ℤ pos (10 ^ 9)) *ℤ pos c.self.inside.ticks_per = search rules in
    let under : c.fall_over-amount.result ≤ℤ c.times_count-most.result = omega (arith, ints) in
    let amount : c.fall_over-amount.result ≡ fall_over c.self.inside.ticks_per c.index.result.now c.index-in-loop-join.result.now = c.fall_over-amount.ensures in
    one_more c.self.inside.ticks_per ts slip c.loop-join.join c.loop-join.invariant
    (no_fall c.self.inside.ticks_per ts slip c.loop-join.join c.index.result.now c.index-in-loop-join.result.now before after
    (subst (λ (x : ℤ). x ≤ℤ (slip *ℤ pos c.self.inside.ticks_per)) amount (subst (λ (x : ℤ). c.fall_over-amount.result ≤ℤ x) most under)))

pub returns : goal.returns
returns c =
    let ts = c.self.inside.list.items in
    let slip = c.args.slip.units *ℤ pos (10 ^ 9) in
    let past : length ts ≤ c.loop-join.join = omega (arith, c.self.inside.list.ok.0) in
    let none = none_at_all c.self.inside.ticks_per ts slip c.loop-join.join past c.loop-join.invariant in
    let Answers : TriplesView → Type 0 = λ t. (i : ℕ) → ¬ FallsOver t.per_count t.triples slip i in
    subst Answers c.self.view_is none
