use Rattle.std.specs.Prelude.{string_bytes}
use Rattle.sk_outcome.proofs.Converted.{utc_printed}
use Rattle.sk_commands.proofs.convert.utc_word.Goals as goal

pub returns-in-Ok : goal.returns-in-Ok
returns-in-Ok c = utc_printed string_bytes c.args.leap.now c.args.time.units c.in-Ok.utc c.print_utc.result c.in-Ok.ensures c.print_utc.ensures.printed
