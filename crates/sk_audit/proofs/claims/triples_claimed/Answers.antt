use Rattle.std.proofs.Common.{◌≡◌, ◌++◌, List, take, sym, ap, ◌∙◌, subst, arith}
use Rattle.std.specs.List.{All}
use Rattle.std.proofs.lemmas.List.{take-append-drop}
use Rattle.std.proofs.lemmas.Option.{same_Some}
use Rattle.sk_line.specs.Triple.{TripleView}
use Rattle.sk_grammar.specs.declared.value.Value.{Value}
use Rattle.sk_grammar.specs.Document.{IsValue}
use Rattle.sk_audit.proofs.Numbers.{back_values}
use Rattle.sk_audit.proofs.Reading.{Leaves, leaves_one, none_reads, ends, not_none}
use Rattle.sk_audit.proofs.claims.triples_claimed.Goals as goal

pub returns-in_default-clause-none : goal.returns-in_default-clause-none
returns-in_default-clause-none c =
    let values = c.args.values.now in
    let rest = c.loop-rest.rest.now in
    let three = c.split_at.result.0.now in
    let behind = c.split_at.result.1.now in
    let whole : three ++ behind ≡ rest = ap (λ (l : List Value). l ++ behind) c.split_at.ensures.front ∙ ap (λ (l : List Value). take 3 rest ++ l) c.split_at.ensures.back ∙ take-append-drop 3 rest in
    none_reads values rest three behind c.loop-rest.claims.items c.loop-rest.invariant.0 c.split_at.ensures.front_len whole
    (λ u numbers e. not_none c.read_triple.result u c.in_default.is (c.read_triple.ensures u numbers e))

pub loop-rest-preserved : goal.loop-rest-preserved
loop-rest-preserved c =
    let values = c.args.values.now in
    let rest = c.loop-rest.rest.now in
    let three = c.split_at.result.0.now in
    let behind = c.split_at.result.1.now in
    let whole : three ++ behind ≡ rest = ap (λ (l : List Value). l ++ behind) c.split_at.ensures.front ∙ ap (λ (l : List Value). take 3 rest ++ l) c.split_at.ensures.back ∙ take-append-drop 3 rest in
    let more = leaves_one values rest three behind c.loop-rest.claims.items c.loop-rest.invariant.0 c.split_at.ensures.front_len whole c.in-Some.triple
    (λ u numbers e. same_Some c.in-Some.triple u (sym c.in-Some.is ∙ c.read_triple.ensures u numbers e)) in (
      subst (λ (read : List TripleView). Leaves values read behind) (sym c.in_ok-push.ensures.items) more,
      back_values IsValue three behind (subst (All IsValue) (sym whole) c.loop-rest.invariant.1),
    )

pub returns-clause-some : goal.returns-clause-some
returns-clause-some c =
    ends c.args.values.now c.loop-rest.rest.now c.loop-rest.claims.items c.loop-rest.invariant.0 (let short = c.loop-rest-test.false in omega arith)
