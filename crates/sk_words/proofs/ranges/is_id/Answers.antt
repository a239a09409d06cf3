use Rattle.std.proofs.Common.{◌∙◌}
use Rattle.sk_words.proofs.KernelId.{decided}
use Rattle.sk_words.proofs.ranges.is_id.Goals as goal

pub returns : goal.returns
returns c = c.is_some.ensures ∙ decided (λ time. time.units) c.args.text.now c.read_calendar_time.result c.read_calendar_time.ensures
