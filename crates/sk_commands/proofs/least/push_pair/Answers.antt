use Rattle.std.proofs.Common.{◌≡◌, ℕ, List, [], ◌∷◌, ◌++◌, ap, ◌∙◌}
use Rattle.std.specs.Prelude.{decimal}
use Rattle.sk_publishing.specs.Row.{RowView}
use Rattle.sk_words.proofs.Joined.{three_parts}
use Rattle.sk_outcome.specs.Output.{number_at}
use Rattle.sk_outcome.proofs.Runs.{number_told}
use Rattle.sk_commands.proofs.least.push_pair.Goals as goal

pub returns : goal.returns
returns c =
    let rows : List RowView = c.args.observations.now in
    let out : List ℕ = c.args.out.now.items in
    let a : List ℕ = decimal c.from.result in
    let b : List ℕ = decimal c.from-2.result in
    let text : c.push_number-2.new.self ≡ a ++ 58 ∷ b =
    three_parts c.new-text.result c.push_number.new.self c.push.new.self c.push_number-2.new.self a (58 ∷ []) b
    c.push_number.ensures.number c.push.ensures c.push_number-2.ensures.number
    ∙ ap (λ (l : List ℕ). l ++ (a ++ 58 ∷ b)) c.new-text.ensures in
    let first : a ≡ number_at rows c.args.from =
    ap decimal (c.from.ensures ∙ ap (λ (r : RowView). r.number) c.first.view_is) ∙ number_told rows c.args.from c.index-observations-from.result c.requires.from c.index-observations-from.is in
    let second : b ≡ number_at rows c.args.to =
    ap decimal (c.from-2.ensures ∙ ap (λ (r : RowView). r.number) c.second.view_is) ∙ number_told rows c.args.to c.index-observations-to.result c.requires.to c.index-observations-to.is in
    c.in_ok-extend_from_slice.ensures.items
    ∙ ap (λ (l : List ℕ). out ++ l) (c.as_slice.ensures.value ∙ text
    ∙ ap (λ (l : List ℕ). l ++ 58 ∷ b) first ∙ ap (λ (l : List ℕ). number_at rows c.args.from ++ 58 ∷ l) second)
