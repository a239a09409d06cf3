use Rattle.std.proofs.Common.{ℕ, ◌++◌, List, sym, subst}
use Rattle.sk_grammar.specs.HasTaken.{HasTaken}
use Rattle.sk_grammar.specs.Taken.{taken_of}
use Rattle.sk_grammar.proofs.Bytewise.{others_taken}
use Rattle.sk_grammar.proofs.taking.keep.Goals as goal

pub returns-in-Ok-clause-piece : goal.returns-in-Ok-clause-piece
returns-in-Ok-clause-piece c = λ bytes t.
    subst (λ (l : List ℕ). HasTaken (record { state = c.args.taking.state; count = c.args.taking.count; line = l }) (bytes ++ c.args.bytes.now)) (sym c.in-Ok.ensures.items)
    (others_taken c.args.bytes.now (taken_of c.args.taking) bytes c.requires.one_line t)
