use Rattle.std.proofs.Common.{◌≡◌, Bool, ◌||◌, ◌&&◌, List, ◌∷◌, ◌++◌, [], true, ap, sym, ◌∙◌, subst}
use Rattle.std.specs.Bool.{beq}
use Rattle.std.specs.List.{list_all}
use Rattle.sk_grammar.specs.declared.value.Value.{Value}
use Rattle.sk_grammar.specs.Document.{is_text}
use Rattle.sk_grammar.specs.Canonical.{is_number}
use Rattle.sk_grammar.proofs.HeldValues.{value_pushed, value_behind}
use Rattle.sk_grammar.proofs.values.Values.push.Goals as goal
use Rattle.sk_grammar.proofs.values.Values.push.Goals.{then-self, else-self, then-self-2, else-self-2}

pub invariant_of-self : goal.invariant_of-self
invariant_of-self c =
    let inside = c.self.inside in
    let value = c.args.value.now in
    let texts : c.if-self.self ≡ (inside.texts || is_text value) =
    elim c.if-self.branch [
      | then-self w ↦ w.self-is ∙ w.if-self.true ∙ sym (ap (λ (b : Bool). b || is_text value) w.if-self.true)
      | else-self w ↦ w.self-is ∙ w.is_text-self-inside.ensures ∙ sym (ap (λ (b : Bool). b || is_text value) w.if-self.false)
    ] in
    let numbers : c.if-self-2.self ≡ (inside.numbers && is_number value) =
    elim c.if-self-2.branch [
      | then-self-2 w ↦ w.self-is ∙ w.is_number-self-inside.ensures ∙ sym (ap (λ (b : Bool). b && is_number value) w.if-self-2.true)
      | else-self-2 w ↦ w.self-is ∙ w.if-self-2.false ∙ sym (ap (λ (b : Bool). b && is_number value) w.if-self-2.false)
    ] in
    value_pushed inside.text.items c.write_value_line.new.out.items inside.texts inside.numbers c.if-self.self c.if-self-2.self value c.self.invariant c.requires.held
    (subst (λ (values : List Value). list_all (λ held. beq (is_text held) (is_text value)) values ≡ true) (sym c.self.view_is) c.requires.kind) c.in-Ok.ensures texts numbers

pub returns-after-self-2 : goal.returns-after-self-2
returns-after-self-2 c =
    value_behind c.self.inside.text.items c.write_value_line.new.out.items c.args.value.now c.self.invariant.ended c.requires.held c.in-Ok.ensures
    ∙ ap (λ (values : List Value). values ++ c.args.value.now ∷ []) c.self.view_is
