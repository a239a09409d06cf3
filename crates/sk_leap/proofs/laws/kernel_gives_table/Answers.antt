use Rattle.sk_leap.proofs.KernelTables.{is_leap_table}
use Rattle.sk_leap.proofs.laws.kernel_gives_table.Goals as goal

pub returns : goal.returns
returns c = is_leap_table
