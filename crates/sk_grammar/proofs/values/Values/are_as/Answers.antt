use Rattle.std.proofs.Common.{◌≡◌, ◌<◌, false, length, vec_len, List, ap, sym, ◌∙◌, arith}
use Rattle.std.specs.Bool.{beq}
use Rattle.std.specs.List.{list_all}
use Rattle.std.specs.Prelude.{◌==◌}
use Rattle.std.proofs.lemmas.Bool.{eqb-false}
use Rattle.sk_grammar.specs.declared.value.Value.{Value}
use Rattle.sk_grammar.specs.Document.{is_text}
use Rattle.sk_grammar.proofs.HeldValues.{kind_held}
use Rattle.sk_grammar.proofs.values.Values.are_as.Goals as goal

pub returns-else-is_empty : goal.returns-else-is_empty
returns-else-is_empty c =
    let inside = c.self.inside in
    let kind = is_text c.args.value.now in
    let none : false ≡ (vec_len inside.text == 0) = c.if-is_empty.ensures in
    let some : 0 < length inside.text.items = omega (arith, eqb-false (vec_len inside.text) 0 (sym none), inside.text.ok.0) in
    ap (beq inside.texts) c.is_text.ensures
    ∙ kind_held inside.text.items inside.texts inside.numbers kind c.self.invariant some
    ∙ ap (λ (values : List Value). list_all (λ held. beq (is_text held) kind) values) c.self.view_is
