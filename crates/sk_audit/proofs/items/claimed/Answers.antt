use Rattle.std.proofs.Common.{◌≡◌, ◌∷◌, ◌-◌, List, length, take, drop, sym, ap, subst, ◌∙◌}
use Rattle.std.proofs.lemmas.List.{take_rest}
use Rattle.sk_grammar.specs.Document.{ItemView}
use Rattle.sk_audit.specs.Items.{AreItems}
use Rattle.sk_audit.proofs.Claiming.{map_some, split_first, with_id}
use Rattle.sk_audit.proofs.items.claimed.Goals as goal

pub returns-then-is_kernel_id-clause-some : goal.returns-then-is_kernel_id-clause-some
returns-then-is_kernel_id-clause-some c =
    let items : List ItemView = c.args.items.now in
    let rest : List ItemView = take (length items - 1) (drop 1 items) in
    let split : items ≡ c.first-item.result ∷ rest =
    split_first items c.first-item.result c.in-len1-up.len_at_least c.first-item.is ∙ ap (λ (xs : List ItemView). c.first-item.result ∷ xs) (sym (take_rest items 1)) in
    map_some c.claims.result _ _ (λ v h. subst (λ (xs : List ItemView). AreItems c.args.sc xs v.now) (sym split)
    (with_id c.args.sc c.first-item.result rest v.now (c.is_kernel_id.ensures.yes c.if-is_kernel_id.true) h)) c.claims.ensures.some
