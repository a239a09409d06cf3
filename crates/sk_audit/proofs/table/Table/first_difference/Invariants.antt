use Rattle.std.proofs.Common.{◌≡◌, ◌∷◌, ◌++◌, take}
use Rattle.sk_grammar.specs.Lines.{held_lines}
use Rattle.sk_audit.specs.Tables.{head_of, lines_from}
use Rattle.sk_audit.proofs.table.Table.first_difference.Given as goal

abbrev pub invariant-loop-place : goal.invariant-loop-place
invariant-loop-place l = l.lines ≡ (head_of l.self.observations.now ∷ lines_from l.self 0 (take l.place l.self.observations.now)) ++ held_lines l.rest
