use Rattle.std.proofs.Common.{◌∙◌, sym}
use Rattle.sk_obs.proofs.Slashes.{before_found, before_missing}
use Rattle.sk_obs.proofs.code_word.before_slash.Goals as goal

pub returns-in-Some : goal.returns-in-Some
returns-in-Some c = rw c.split_at.ensures.front (before_found c.args.word.now c.in-Some.place (sym c.slash_place.ensures ∙ c.in-Some.is))

pub returns-in-None : goal.returns-in-None
returns-in-None c = before_missing c.args.word.now (sym c.slash_place.ensures ∙ c.in-None.is)
