use Rattle.std.proofs.Common.{List, ℕ, subst}
use Rattle.sk_leap.specs.declared.utc.Utc.{Utc}
use Rattle.sk_leap.specs.UtcText.{SpellsUtc}
use Rattle.sk_obs.proofs.Ascii.{SpellsUtc-utf8}
use Rattle.sk_commands.proofs.time_word.spelled_utc.Goals as goal

pub returns-in_default : goal.returns-in_default
returns-in_default c = λ utc spelled. c.in_default.ensures.cases.0 (SpellsUtc-utf8 c.args.text.now utc spelled)

pub returns-in-Err : goal.returns-in-Err
returns-in-Err c = subst (λ (text : List ℕ). (utc : Utc) → ¬ SpellsUtc text utc) c.in-Ok.ensures.cases.0 c.in-Err.ensures
