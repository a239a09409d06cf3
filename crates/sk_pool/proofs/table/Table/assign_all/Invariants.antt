use Rattle.std.proofs.Common.{◌≡◌, ◌+◌, length}
use Rattle.sk_pool.specs.Assigning.{IsTable, variables_in, all_assigned}
use Rattle.sk_pool.proofs.table.Table.assign_all.Given as goal

abbrev pub invariant-loop-name : goal.invariant-loop-name
invariant-loop-name l = record {
  table : IsTable l.self;
  count : l.self.count + length l.left ≡ l.initial.self.count + length l.items;
  rest : all_assigned (variables_in l.initial.self) (l.initial.self.count + 1) l.items ≡ all_assigned (variables_in l.self) (l.self.count + 1) l.left;
}

abbrev pub decreases-loop-name : goal.decreases-loop-name
decreases-loop-name l = length l.left
