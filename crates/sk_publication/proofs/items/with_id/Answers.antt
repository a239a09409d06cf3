use Rattle.std.proofs.Common.{◌≡◌, List, ℕ, [], ◌∷◌, ◌++◌, codes, ap, sym, ◌∙◌, subst, Option, Bor}
use Rattle.std.specs.Prelude.{IfOk, option_map}
use Rattle.sk_grammar.specs.declared.value.Value.{Value}
use Rattle.sk_grammar.specs.declared.value.Op.TheVariants.{Set}
use Rattle.sk_grammar.specs.Document.{ItemView}
use Rattle.sk_publishing.specs.Published.{id_items}
use Rattle.sk_publication.proofs.items.with_id.Goals as goal

pub returns-clause-items : goal.returns-clause-items
returns-clause-items c =
    subst (λ (items : List ItemView). IfOk c.with_item.result (λ more. more ≡ c.args.items ++ items))
    ((λ i. record { name = c.in_ok-name.ensures i; op = Set; values = c.in_ok-values.ensures i } ∷ []) ∙ ap (λ (o : Option (Bor (List ℕ))). id_items (option_map (λ text. codes "@" ++ text.now) o)) (sym c.in-Some.is))
    c.with_item.ensures.more
