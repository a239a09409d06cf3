use Rattle.sk_outcome.specs.Files.{leap_pool, leap_table}
use Rattle.sk_outcome.proofs.Moves.{may_then}
use Rattle.sk_commands.proofs.meaning.leap_meaning.Goals as goal

pub returns : goal.returns
returns c = may_then (λ t. t) (leap_pool c.args.doc.now) leap_table c.in_ok-pool.pool c.leap_table.result c.in_ok-pool.ensures.stage c.leap_table.ensures
