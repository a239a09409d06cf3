use Rattle.std.proofs.Common.{◌≡◌, ℕ, ◌+◌, ◌<◌, get_or, List, [], ◌∷◌, ◌++◌, Result, sym, ◌∙◌, subst, ap, arith, length, drop, length-append}
use Rattle.std.specs.List.{flat_map}
use Rattle.std.proofs.lemmas.List.{drop_more}
use Rattle.std.proofs.lemmas.Result.{err_from_is_err_and}
use Rattle.sk_grammar.specs.Document.{BlockView, DocView, ItemView}
use Rattle.sk_grammar.specs.Variables.{VariableView, items_of}
use Rattle.sk_pool.specs.Assigning.{variables_in, all_assigned, IsMixedOf}
use Rattle.sk_pool.proofs.Judged.{all_assigned-append, mixed_front}
use Rattle.sk_pool.proofs.table.table_of.Goals as goal

abbrev items_in : List BlockView → List ItemView
items_in blocks = flat_map (λ (block : BlockView). block.items) blocks

-- the items of this block, and those of the blocks behind it
items_from : (blocks : List BlockView) (i : ℕ) (block : BlockView) (given : List ItemView) → given ≡ block.items → i < length blocks → block ≡ get_or blocks i block → items_in (drop i blocks) ≡ given ++ items_in (drop (i + 1) blocks)
items_from blocks i block given given_is within here =
    ap items_in (drop_more blocks i block within ∙ ap (λ (b : BlockView). b ∷ drop (i + 1) blocks) (sym here))
    ∙ ap (λ (front : List ItemView). front ++ items_in (drop (i + 1) blocks)) (sym given_is)

items_of_doc : (doc : DocView) (head : List (List ℕ)) (inside blocks : List BlockView) → blocks ≡ inside → record { head = head; blocks = inside } ≡ doc → items_in blocks ≡ items_of doc
items_of_doc doc head inside blocks is view_is = ap items_in is ∙ ap items_of view_is

pub returns-in_err-assign_all-clause-mixed : goal.returns-in_err-assign_all-clause-mixed
returns-in_err-assign_all-clause-mixed c =
    let blocks = c.as_slice-block-items.result.now in
    let i = c.loop-block.block-index in
    let given = c.block.inside.items in
    let rest = items_in (drop (i + 1) blocks) in
    let variables = variables_in c.loop-block.table in
    let n = c.loop-block.table.count + 1 in
    let fault = c.in_err-assign_all.field-0.0 in
    let front = items_from blocks i c.block-item.result given (ap (λ (b : BlockView). b.items) c.block.view_is) (omega arith) c.block-item.is in
    let same = items_of_doc c.args.doc.now c.doc.inside.head c.doc.inside.blocks blocks c.as_slice-block-items.ensures c.doc.view_is in
    let whole = ap (all_assigned [] 1) (sym same) ∙ c.loop-block.invariant.rest ∙ ap (λ (xs : List ItemView). all_assigned variables n xs) front in
    let p = err_from_is_err_and c.from_residual.result c.from_residual.ensures.1 in
    rw (p.1, p.2) (subst (λ (answer : Result (List VariableView) ℕ). IsMixedOf answer fault) (sym whole) (mixed_front variables n given rest fault c.in_err-assign_all.ensures.mixed))

pub loop-block-preserved : goal.loop-block-preserved
loop-block-preserved c =
    let blocks = c.as_slice-block-items.result.now in
    let i = c.loop-block.block-index in
    let given = c.block.inside.items in
    let rest = items_in (drop (i + 1) blocks) in
    let variables = variables_in c.loop-block.table in
    let behind = variables_in c.assign_all.new.self in
    let n = c.loop-block.table.count + 1 in
    let taken = c.in_ok-assign_all.ensures.ok in
    let front = items_from blocks i c.block-item.result given (ap (λ (b : BlockView). b.items) c.block.view_is) (omega arith) c.block-item.is in
    let number : n + length given ≡ c.assign_all.new.self.count + 1 = omega (arith, taken.1) in
    record {
      table = taken.0;
      count = omega (arith, taken.1, c.loop-block.invariant.count, ap length front, length-append given rest);
      rest = c.loop-block.invariant.rest ∙ ap (λ (xs : List ItemView). all_assigned variables n xs) front ∙ all_assigned-append variables behind n given rest taken.2 ∙ ap (λ (k : ℕ). all_assigned behind k rest) number;
    }
