use Rattle.std.proofs.Common.{◌≡◌, ◌≢◌, ◌-◌, ℕ, refl, inl, inr, ap, subst, arith, rules}
use Rattle.std.specs.Prelude.{ℤ, pos, ◌-ℤ◌, ◌*ℤ◌, ◌<ℤ◌}
use Rattle.sk_line.specs.Triple.{TripleView}
use Rattle.sk_triples.proofs.Wide.{passed_on}
use Rattle.sk_inverse.specs.Search.{HaveBegun, IsReached, kernel_of}
use Rattle.sk_inverse.proofs.Found.{before_first, start_of, next_here, next_ticks, kept_triple, in_next, in_last, past_end, not_before_first}
use Rattle.sk_inverse.proofs.tick.tick_by.Goals as goal

pub returns-then-number-eq0 : goal.returns-then-number-eq0
returns-then-number-eq0 c =
    let k = kernel_of c.args.triples.now c.args.ticks_per c.args.total in
    let none : c.begun-number.result ≡ 0 = search rules in
    let have = subst (λ (time : ℤ). HaveBegun c.args.triples.now time c.begun-number.result) (passed_on c.args.time c.ranges.time.sfits) c.begun-number.ensures in
    inl (before_first k c.args.time c.requires.kept (subst (λ (n : ℕ). HaveBegun c.args.triples.now c.args.time n) none have), refl)

pub overflow_sub-next-inside : goal.overflow_sub-next-inside
overflow_sub-next-inside c =
    let ts = c.args.triples.now in
    let number = c.begun-number.result in
    let triple = c.index-triples-number.result in
    let next = c.index-triples-number-then-number-triples.result in
    let some : number ≢ 0 = search rules in
    let have = subst (λ (time : ℤ). HaveBegun c.args.triples.now time number) (passed_on c.args.time c.ranges.time.sfits) c.begun-number.ensures in
    let start = start_of ts c.args.time number triple have some c.index-triples-number.is in
    let there = next_here ts number next some c.if-number-triples.true c.index-triples-number-then-number-triples.is in
    let ticks : c.next.inside.ticks ≡ next.anchor.ticks = ap (λ (t : TripleView). t.anchor.ticks) c.next.view_is in
    let less = next_ticks ts (number - 1) triple next c.requires.kept.triples.rise start.here there in
    omega arith

pub reached-requires-clause-triple : goal.reached-requires-clause-triple
reached-requires-clause-triple c =
    let ts = c.args.triples.now in
    let number = c.begun-number.result in
    let triple = c.index-triples-number.result in
    let next = c.index-triples-number-then-number-triples.result in
    let some : number ≢ 0 = search rules in
    let have = subst (λ (time : ℤ). HaveBegun c.args.triples.now time number) (passed_on c.args.time c.ranges.time.sfits) c.begun-number.ensures in
    let start = start_of ts c.args.time number triple have some c.index-triples-number.is in
    let there = next_here ts number next some c.if-number-triples.true c.index-triples-number-then-number-triples.is in
    let ticks : c.next.inside.ticks ≡ next.anchor.ticks = ap (λ (t : TripleView). t.anchor.ticks) c.next.view_is in
    let less = next_ticks ts (number - 1) triple next c.requires.kept.triples.rise start.here there in
    let kept = kept_triple c.args.total ts (number - 1) triple c.requires.kept.triples start.here in
    record { ticks = omega arith; from = kept.from; to = kept.to; positive = kept.positive; slow = kept.slow }

pub returns-then-number-triples : goal.returns-then-number-triples
returns-then-number-triples c =
    let k = kernel_of c.args.triples.now c.args.ticks_per c.args.total in
    let ts = c.args.triples.now in
    let number = c.begun-number.result in
    let triple = c.index-triples-number.result in
    let next = c.index-triples-number-then-number-triples.result in
    let some : number ≢ 0 = search rules in
    let have = subst (λ (time : ℤ). HaveBegun c.args.triples.now time number) (passed_on c.args.time c.ranges.time.sfits) c.begun-number.ensures in
    let start = start_of ts c.args.time number triple have some c.index-triples-number.is in
    let there = next_here ts number next some c.if-number-triples.true c.index-triples-number-then-number-triples.is in
    let ticks : c.next.inside.ticks ≡ next.anchor.ticks = ap (λ (t : TripleView). t.anchor.ticks) c.next.view_is in
    let reached : IsReached triple ((c.args.time -ℤ triple.anchor.time) *ℤ pos c.args.ticks_per) (next.anchor.ticks - 1) c.reached.result = search rules in
    in_next k c.args.time (number - 1) c.reached.result triple next c.requires.kept start there reached

pub returns-then-is_past : goal.returns-then-is_past
returns-then-is_past c =
    let k = kernel_of c.args.triples.now c.args.ticks_per c.args.total in
    let number = c.begun-number.result in
    let triple = c.index-triples-number.result in
    let some : number ≢ 0 = search rules in
    let have = subst (λ (time : ℤ). HaveBegun c.args.triples.now time number) (passed_on c.args.time c.ranges.time.sfits) c.begun-number.ensures in
    let start = start_of c.args.triples.now c.args.time number triple have some c.index-triples-number.is in
    let past : (triple.rate *ℤ pos (c.args.total - triple.anchor.ticks)) <ℤ ((c.args.time -ℤ triple.anchor.time) *ℤ pos c.args.ticks_per) = search rules in
    inr (
      not_before_first k c.requires.kept c.args.time (number - 1) triple start,
      inl (past_end k c.requires.kept c.args.time (number - 1) triple start (omega arith) past, refl),
    )

pub returns : goal.returns
returns c =
    let k = kernel_of c.args.triples.now c.args.ticks_per c.args.total in
    let number = c.begun-number.result in
    let triple = c.index-triples-number.result in
    let some : number ≢ 0 = search rules in
    let have = subst (λ (time : ℤ). HaveBegun c.args.triples.now time number) (passed_on c.args.time c.ranges.time.sfits) c.begun-number.ensures in
    let start = start_of c.args.triples.now c.args.time number triple have some c.index-triples-number.is in
    let not_past : ¬ ((triple.rate *ℤ pos (c.args.total - triple.anchor.ticks)) <ℤ ((c.args.time -ℤ triple.anchor.time) *ℤ pos c.args.ticks_per)) = search rules in
    let reached : IsReached triple ((c.args.time -ℤ triple.anchor.time) *ℤ pos c.args.ticks_per) c.args.total c.reached-2.result = search rules in
    in_last k c.args.time (number - 1) c.reached-2.result triple c.requires.kept start (omega arith) not_past reached
