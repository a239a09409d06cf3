use Rattle.std.proofs.Common.{◌≡◌, ◌+◌, List, ◌∷◌, ◌++◌, take, drop, get_or, ap, sym, ◌∙◌, subst, arith}
use Rattle.std.proofs.lemmas.List.{drop_more, take-append-drop}
use Rattle.sk_grammar.specs.declared.value.Value.{Value}
use Rattle.sk_grammar.specs.Document.{AreOfOneKind, is_text}
use Rattle.sk_grammar.specs.Refusal.{AreOfKind}
use Rattle.sk_grammar.proofs.HeldValues.{kind_in_front}
use Rattle.sk_grammar.proofs.values.Values.of_list.Goals as goal

pub push-requires-clause-kind : goal.push-requires-clause-kind
push-requires-clause-kind c =
    let list = c.args.list.now in
    let i = c.loop-value.value-index in
    let value = c.value-item.result in
    let behind : drop i list ≡ value ∷ drop (i + 1) list = drop_more list i value (omega arith) ∙ ap (λ (v : Value). v ∷ drop (i + 1) list) (sym c.value-item.is) in
    let whole : list ≡ take i list ++ value ∷ drop (i + 1) list = sym (take-append-drop i list) ∙ ap (λ (vs : List Value). take i list ++ vs) behind in
    subst (λ (front : List Value). AreOfKind (is_text value) front) (sym c.loop-value.invariant) (kind_in_front (take i list) (drop (i + 1) list) value (subst AreOfOneKind whole c.requires.one_kind))
