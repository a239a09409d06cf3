use Rattle.std.proofs.Common.{◌≡◌, ℕ, List, false, drop, get_or, Ok, Err, ap, sym, ◌∙◌, subst, arith}
use Rattle.std.proofs.lemmas.List.{take_rest}
use Rattle.sk_decimal.specs.Reading.{number_of}
use Rattle.sk_grammar.specs.declared.place.Place.TheVariants.{Valued}
use Rattle.sk_grammar.specs.declared.value.Op.{Op}
use Rattle.sk_grammar.specs.Lines.{is_white}
use Rattle.sk_grammar.specs.Reading.{step, further_at}
use Rattle.sk_grammar.specs.Stopping.{GivesPlaceAt}
use Rattle.sk_grammar.proofs.Rows.{value_sized, value_on, value_stops}
use Rattle.sk_grammar.proofs.reading.add_values.Goals as goal

pub returns-in-Err-clause-read : goal.returns-in-Err-clause-read
returns-in-Err-clause-read c = λ name op.
    let line = c.args.line.now in
    let at = c.loop-at.at in
    let white : false ≡ is_white (get_or line at 0) = c.if-is_white.ensures in
    let held = Valued name op c.loop-at.values in
    let stepped : step number_of held (drop at line) ≡ further_at number_of name op c.loop-at.values (drop at line) =
    ap (step number_of held) (sym (take_rest line at)) ∙ c.begins_value.ensures name op c.loop-at.values c.if-begins_value.true ∙ ap (further_at number_of name op c.loop-at.values) (take_rest line at) in
    let gives = subst (λ (b : List ℕ). GivesPlaceAt (Err c.in-Err.stop) (Valued name op c.add_value.new.values) (further_at number_of name op c.loop-at.values b)) (take_rest line at) (c.in-Err.ensures name op) in
    value_stops c.in-Err.stop line at (Valued name op c.args.values.now) held (Valued name op c.add_value.new.values) (Valued name op c.add_value.new.values) c.requires c.loop-at-test.true (sym white) (c.loop-at.invariant.1 name op)
    (subst (GivesPlaceAt (Err c.in-Err.stop) (Valued name op c.add_value.new.values)) (sym stepped) gives)

pub overflow_add-at-in-Ok : goal.overflow_add-at-in-Ok
overflow_add-at-in-Ok c =
    let line = c.args.line.now in
    let at = c.loop-at.at in
    let sized = value_sized line at c.in-Ok.size c.loop-at.values c.add_value.new.values c.loop-at-test.true
    (λ name op. ap (step number_of (Valued name op c.loop-at.values)) (sym (take_rest line at)) ∙ c.begins_value.ensures name op c.loop-at.values c.if-begins_value.true ∙ c.in-Ok.ensures name op) in
    omega (arith, sized.1)

pub loop-at-smaller : goal.loop-at-smaller
loop-at-smaller c =
    let line = c.args.line.now in
    let at = c.loop-at.at in
    let sized = value_sized line at c.in-Ok.size c.loop-at.values c.add_value.new.values c.loop-at-test.true
    (λ name op. ap (step number_of (Valued name op c.loop-at.values)) (sym (take_rest line at)) ∙ c.begins_value.ensures name op c.loop-at.values c.if-begins_value.true ∙ c.in-Ok.ensures name op) in
    omega (arith, sized.0, sized.1, c.loop-at-test.true)

pub loop-at-preserved : goal.loop-at-preserved
loop-at-preserved c =
    let line = c.args.line.now in
    let at = c.loop-at.at in
    let white : false ≡ is_white (get_or line at 0) = c.if-is_white.ensures in
    let stepped : (name : List ℕ) (op : Op) → step number_of (Valued name op c.loop-at.values) (drop at line) ≡ Ok (Valued name op c.add_value.new.values, c.in-Ok.size) =
    λ name op. ap (step number_of (Valued name op c.loop-at.values)) (sym (take_rest line at)) ∙ c.begins_value.ensures name op c.loop-at.values c.if-begins_value.true ∙ c.in-Ok.ensures name op in (
      (value_sized line at c.in-Ok.size c.loop-at.values c.add_value.new.values c.loop-at-test.true stepped).1,
      λ name op. c.loop-at.invariant.1 name op ∙ value_on name op line at c.in-Ok.size c.loop-at.values c.add_value.new.values c.requires c.loop-at-test.true (sym white) stepped,
    )
