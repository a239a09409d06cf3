use Rattle.std.proofs.Common.{◌≡◌, ◌+◌, [], length, drop}
use Rattle.std.specs.List.{flat_map}
use Rattle.sk_grammar.specs.Document.{BlockView}
use Rattle.sk_pool.specs.Assigning.{IsTable, variables_in, all_assigned}
use Rattle.sk_pool.proofs.table.table_of.Given as goal

abbrev pub invariant-loop-block : goal.invariant-loop-block
invariant-loop-block l = record {
  table : IsTable l.table;
  count : l.table.count + length (flat_map (λ (block : BlockView). block.items) (drop l.block-index l.block-items)) ≡ length (flat_map (λ (block : BlockView). block.items) l.block-items);
  rest : all_assigned [] 1 (flat_map (λ (block : BlockView). block.items) l.block-items)
      ≡ all_assigned (variables_in l.table) (l.table.count + 1) (flat_map (λ (block : BlockView). block.items) (drop l.block-index l.block-items));
}
