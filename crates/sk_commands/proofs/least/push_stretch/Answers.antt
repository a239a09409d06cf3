use Rattle.std.proofs.Common.{◌≡◌, ℕ, ◌-◌, List, [], ◌∷◌, ◌++◌, ap, arith, ◌∙◌}
use Rattle.sk_publishing.specs.Row.{RowView}
use Rattle.sk_words.proofs.Joined.{six_parts}
use Rattle.sk_outcome.specs.Output.{id_at, stop_text}
use Rattle.sk_outcome.proofs.Runs.{id_told, fields_ended}
use Rattle.sk_commands.proofs.least.push_stretch.Goals as goal

pub returns : goal.returns
returns c =
    let rows : List RowView = c.args.observations.now in
    let out : List ℕ = c.args.out.now.items in
    let s = c.args.stretch.now in
    let some = c.requires.some in
    let past = c.requires.past in
    let stop : List ℕ = stop_text rows s.stop in
    let x : List ℕ = c.as_slice.result.now in
    let y : List ℕ = c.as_slice-2.result.now in
    let first : x ≡ id_at rows s.first =
    c.as_slice.ensures ∙ ap (λ (r : RowView). r.id) c.first.view_is ∙ id_told rows s.first c.index-observations-stretch.result (omega arith) c.index-observations-stretch.is in
    let last : y ≡ id_at rows (s.past - 1) =
    c.as_slice-2.ensures ∙ ap (λ (r : RowView). r.id) c.last.view_is ∙ id_told rows (s.past - 1) c.index-observations-stretch-2.result (omega arith) c.index-observations-stretch-2.is in
    six_parts out c.extend_from_slice.new.self.items c.push.new.self.items c.extend_from_slice-2.new.self.items c.push-2.new.self.items c.push_stop.new.out.items c.push-3.new.self.items
    x (59 ∷ []) y (59 ∷ []) stop (10 ∷ [])
    c.in_ok-extend_from_slice.ensures.items c.in_ok-push.ensures.items c.in_ok-extend_from_slice-2.ensures.items c.in_ok-push-2.ensures.items c.in_ok-push_stop.ensures c.in_ok-push-3.ensures.items
    ∙ ap (λ (l : List ℕ). out ++ l) (fields_ended x y stop (10 ∷ [])
    ∙ ap (λ (l : List ℕ). (l ++ 59 ∷ (y ++ 59 ∷ stop)) ++ 10 ∷ []) first
    ∙ ap (λ (l : List ℕ). (id_at rows s.first ++ 59 ∷ (l ++ 59 ∷ stop)) ++ 10 ∷ []) last)
