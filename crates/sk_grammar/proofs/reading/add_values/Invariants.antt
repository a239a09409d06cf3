use Rattle.std.proofs.Common.{◌≡◌, ◌-◌, ◌≤◌, List, ℕ, length, drop}
use Rattle.sk_decimal.specs.Reading.{number_of}
use Rattle.sk_grammar.specs.declared.place.Place.TheVariants.{Valued}
use Rattle.sk_grammar.specs.declared.value.Op.{Op}
use Rattle.sk_grammar.specs.Reading.{read_from}
use Rattle.sk_grammar.proofs.reading.add_values.Given as goal

abbrev pub invariant-loop-at : goal.invariant-loop-at
invariant-loop-at l =
    (l.at ≤ length l.line)
    × ((name : List ℕ) (op : Op) → read_from number_of (Valued name op l.fn.values) 0 l.line ≡ read_from number_of (Valued name op l.values) 0 (drop l.at l.line))

abbrev pub decreases-loop-at : goal.decreases-loop-at
decreases-loop-at l = length l.line - l.at
