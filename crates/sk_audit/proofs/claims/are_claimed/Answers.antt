use Rattle.std.proofs.Common.{◌≡◌, ◌++◌, List, take, drop, flat_map, sym, ap, ◌∙◌, subst}
use Rattle.std.specs.List.{All}
use Rattle.std.proofs.lemmas.List.{take-append-drop}
use Rattle.sk_grammar.specs.declared.value.Value.{Value}
use Rattle.sk_grammar.specs.Document.{IsValue}
use Rattle.sk_publishing.specs.Published.{triple_values}
use Rattle.sk_audit.proofs.Numbers.{values_left, not_short, front_is, no_true, front_values, back_values}
use Rattle.sk_audit.proofs.claims.are_claimed.Goals as goal

pub returns-then-rest-lt3 : goal.returns-then-rest-lt3
returns-then-rest-lt3 c = (
  (λ h. absurd (no_true h)),
  (λ all. absurd (not_short c.loop-triple.rest.now c.triple-item.result _ c.if-rest-lt3.true
      (values_left c.args.values.now c.loop-triple.rest.now c.args.triples.now c.loop-triple.triple-index c.triple-item.result c.loop-triple-test.true c.triple-item.is c.loop-triple.invariant all))),
)

pub are_triple-requires-clause-valid : goal.are_triple-requires-clause-valid
are_triple-requires-clause-valid c =
    let rest = c.loop-triple.rest.now in
    let before = flat_map triple_values (take c.loop-triple.triple-index c.args.triples.now) in
    subst (All IsValue) (sym c.split_at.ensures.front) (front_values IsValue (take 3 rest) (drop 3 rest)
    (subst (All IsValue) (sym (take-append-drop 3 rest)) (back_values IsValue before rest (subst (All IsValue) c.loop-triple.invariant c.requires.valid))))

pub returns-then-not-are_triple : goal.returns-then-not-are_triple
returns-then-not-are_triple c =
    let rest = c.loop-triple.rest.now in
    let three = c.split_at.result.0.now in
    let behind = c.split_at.result.1.now in
    let whole : three ++ behind ≡ rest = ap (λ (l : List Value). l ++ behind) c.split_at.ensures.front ∙ ap (λ (l : List Value). take 3 rest ++ l) c.split_at.ensures.back ∙ take-append-drop 3 rest in
    let left = values_left c.args.values.now rest c.args.triples.now c.loop-triple.triple-index c.triple-item.result c.loop-triple-test.true c.triple-item.is c.loop-triple.invariant in (
      (λ h. absurd (no_true h)),
      (λ all. c.if-not-are_triple.ensures.1 (front_is three behind c.triple-item.result _ c.split_at.ensures.front_len (whole ∙ left all))),
    )
