use Rattle.std.proofs.Common.{◌≡◌, ◌++◌, take}
use Rattle.std.specs.List.{flat_map}
use Rattle.sk_grammar.specs.Canonical.{block_lines, ended_by_line_feeds}
use Rattle.sk_writer.proofs.write.write_doc.Given as goal

abbrev pub invariant-loop-block : goal.invariant-loop-block
invariant-loop-block l = l.out.items ≡ l.initial.out.items ++ ended_by_line_feeds (flat_map block_lines (take l.block-index l.block-items))
