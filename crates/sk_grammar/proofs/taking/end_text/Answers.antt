use Rattle.std.proofs.Common.{◌≡◌, ◌<◌, [], length, vec_len, true, false, sym, arith}
use Rattle.std.specs.Prelude.{◌==◌}
use Rattle.std.proofs.lemmas.Bool.{eqb-true, eqb-false}
use Rattle.sk_grammar.specs.Taken.{taken_of}
use Rattle.sk_grammar.proofs.Bytewise.{none_left, end_empty, end_taken, end_refused, next_reached}
use Rattle.sk_grammar.proofs.Validity.{taken_reached, state_valid, kept_one}
use Rattle.sk_grammar.proofs.taking.end_text.Goals as goal

pub end_state-requires : goal.end_state-requires
end_state-requires c = state_valid c.args.taking.state (taken_reached (taken_of c.args.taking) c.requires.reached)

pub returns-then-is_empty : goal.returns-then-is_empty
returns-then-is_empty c = λ bytes t.
    let empty : true ≡ (vec_len c.args.taking.line == 0) = c.if-is_empty.ensures in
    let none : c.args.taking.line.items ≡ [] = none_left c.args.taking.line.items (omega (arith, eqb-true (vec_len c.args.taking.line) 0 (sym empty), c.args.taking.line.ok.0)) in
    end_empty c.args.taking bytes c.end_state.result none t c.end_state.ensures

pub take_kept-requires-clause-reached : goal.take_kept-requires-clause-reached
take_kept-requires-clause-reached c = taken_reached (taken_of c.args.taking) c.requires.reached

pub take_kept-requires-clause-one_line : goal.take_kept-requires-clause-one_line
take_kept-requires-clause-one_line c = kept_one (taken_of c.args.taking) c.requires.reached

pub end_state-requires-in-Ok : goal.end_state-requires-in-Ok
end_state-requires-in-Ok c = state_valid c.in-Ok.last.state (taken_reached (taken_of c.in-Ok.last) (next_reached c.args.taking c.in-Ok.last c.in-Ok.ensures c.requires.reached))

pub returns-in-Err : goal.returns-in-Err
returns-in-Err c = λ bytes t.
    let other : false ≡ (vec_len c.args.taking.line == 0) = c.if-is_empty.ensures in
    let some : 0 < length c.args.taking.line.items = let ne = eqb-false (vec_len c.args.taking.line) 0 (sym other) in omega (arith, c.args.taking.line.ok.0) in
    end_refused c.in-Err.fault c.args.taking bytes some c.in-Err.ensures t

pub returns-in-Ok : goal.returns-in-Ok
returns-in-Ok c = λ bytes t.
    let other : false ≡ (vec_len c.args.taking.line == 0) = c.if-is_empty.ensures in
    let some : 0 < length c.args.taking.line.items = let ne = eqb-false (vec_len c.args.taking.line) 0 (sym other) in omega (arith, c.args.taking.line.ok.0) in
    end_taken c.args.taking c.in-Ok.last bytes c.end_state-in-Ok.result some c.in-Ok.ensures t c.end_state-in-Ok.ensures
