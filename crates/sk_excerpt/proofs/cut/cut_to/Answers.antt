use Rattle.std.proofs.Common.{◌≡◌, ℕ, ◌+◌, ◌≤◌, List, ap, sym, inl, inr, arith, ◌∙◌}
use Rattle.std.specs.Option.{option_map}
use Rattle.std.proofs.lemmas.Option.{none-some, same_Some}
use Rattle.sk_line.specs.Triple.{TripleView}
use Rattle.sk_line.specs.Line.{covering}
use Rattle.sk_excerpt.proofs.Covers.{numbered, later, found_at, nothing_at}
use Rattle.sk_excerpt.proofs.cut.cut_to.Goals as goal

pub unreachable-requires : goal.unreachable-requires
unreachable-requires c =
    let ts : List TripleView = c.args.triples.now.triples in
    let from : ℕ = c.args.range.from in
    let to : ℕ = c.args.range.to in
    let up : from ≤ to = c.if-range.false in
    let first = found_at c.in-Some.first (covering ts from) (ap (option_map (λ (place : ℕ). place + 1)) (sym c.in-Some.is) ∙ c.covering.ensures) in
    let none = nothing_at (covering ts to) (ap (option_map (λ (place : ℕ). place + 1)) (sym c.in_default-covering.is) ∙ c.covering-2.ensures) in
    let some = later 1 ts from to (c.in-Some.first + 1, first.0) up first.1 in
    none-some some.0 (sym none ∙ some.1)

pub returns : goal.returns
returns c =
    let ts : List TripleView = c.args.triples.now.triples in
    let from : ℕ = c.args.range.from in
    let to : ℕ = c.args.range.to in
    let up : from ≤ to = c.if-range.false in
    let few : to ≤ c.args.total = c.if-total-range.false in
    let first = found_at c.in-Some.first (covering ts from) (ap (option_map (λ (place : ℕ). place + 1)) (sym c.in-Some.is) ∙ c.covering.ensures) in
    let last = found_at c.in-Some-covering.last (covering ts to) (ap (option_map (λ (place : ℕ). place + 1)) (sym c.in-Some-covering.is) ∙ c.covering-2.ensures) in
    let end : ℕ × TripleView = (c.in-Some-covering.last + 1, last.0) in
    let some = later 1 ts from to (c.in-Some.first + 1, first.0) up first.1 in
    let number : some.0.0 ≡ c.in-Some-covering.last + 1 = ap (λ (p : ℕ × TripleView). p.0) (same_Some some.0 end (sym some.1 ∙ last.1)) in
    let bounds = numbered 1 ts to end last.1 in (
      (
        λ bad. elim bad [ inl back ↦ absurd (omega arith) | inr past ↦ absurd (omega arith) ],
        (λ none. none-some (c.in-Some.first + 1, first.0) (sym none ∙ first.1), tt),
      ),
      record {
        first = first.0;
        last = last.0;
        covers_from = first.1;
        covers_to = last.1;
        order = omega (arith, some.2, number);
        within = omega (arith, bounds.1);
      },
    )
