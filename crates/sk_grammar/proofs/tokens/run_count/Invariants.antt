use Rattle.std.proofs.Common.{◌≡◌, ◌+◌, drop}
use Rattle.std.specs.List.{prefix_len}
use Rattle.sk_grammar.specs.Document.{is_run_byte}
use Rattle.sk_grammar.proofs.tokens.run_count.Given as goal

abbrev pub invariant-loop-i : goal.invariant-loop-i
invariant-loop-i l = prefix_len is_run_byte l.bytes ≡ l.i + prefix_len is_run_byte (drop l.i l.bytes)
