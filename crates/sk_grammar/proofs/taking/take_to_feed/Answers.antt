use Rattle.std.proofs.Common.{◌≡◌, ℕ, ◌++◌, List, [], vec_len, true, ap, sym, ◌∙◌, subst, arith}
use Rattle.std.specs.List.{list_any}
use Rattle.std.specs.Prelude.{◌==◌}
use Rattle.std.proofs.lemmas.List.Folds.{list_any-append}
use Rattle.sk_grammar.specs.Lines.{is_line_feed}
use Rattle.std.proofs.lemmas.Bool.{eqb-true}
use Rattle.sk_grammar.specs.Taken.{taken_of, EndsLine}
use Rattle.sk_grammar.proofs.Bytewise.{none_left, line_has}
use Rattle.sk_grammar.proofs.Blocks.{or_false}
use Rattle.sk_grammar.proofs.Validity.{taken_reached, kept_one}
use Rattle.sk_grammar.proofs.taking.take_to_feed.Goals as goal

pub take_ended-requires-clause-reached : goal.take_ended-requires-clause-reached
take_ended-requires-clause-reached c = taken_reached (taken_of c.args.taking) c.requires.reached

pub take_kept-requires-clause-reached : goal.take_kept-requires-clause-reached
take_kept-requires-clause-reached c = taken_reached (taken_of c.args.taking) c.requires.reached

pub take_kept-requires-clause-one_line : goal.take_kept-requires-clause-one_line
take_kept-requires-clause-one_line c =
    ap (list_any is_line_feed) c.in-Ok.ensures.items
    ∙ list_any-append is_line_feed c.args.taking.line.items c.args.rest.now
    ∙ or_false _ _ (kept_one (taken_of c.args.taking) c.requires.reached) c.requires.one_line

pub returns-then-is_empty-clause-piece : goal.returns-then-is_empty-clause-piece
returns-then-is_empty-clause-piece c = λ bytes t.
    let rest = c.args.rest.now in
    let empty : true ≡ (vec_len c.args.taking.line == 0) = c.if-is_empty.ensures in
    let none : c.args.taking.line.items ≡ [] = none_left c.args.taking.line.items (omega (arith, eqb-true (vec_len c.args.taking.line) 0 (sym empty), c.args.taking.line.ok.0)) in
    let whole : rest ≡ c.args.taking.line.items ++ rest = ap (λ (l : List ℕ). l ++ rest) (sym none) in
    line_has c.take_ended.result (taken_of c.args.taking) bytes rest c.requires.one_line (subst (EndsLine c.take_ended.result c.args.taking.state c.args.taking.count) whole c.take_ended.ensures) t

pub returns-in-Ok-clause-piece : goal.returns-in-Ok-clause-piece
returns-in-Ok-clause-piece c = λ bytes t.
    line_has c.take_kept.result (taken_of c.args.taking) bytes c.args.rest.now c.requires.one_line (subst (EndsLine c.take_kept.result c.args.taking.state c.args.taking.count) c.in-Ok.ensures.items c.take_kept.ensures) t
