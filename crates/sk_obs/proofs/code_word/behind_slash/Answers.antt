use Rattle.std.proofs.Common.{◌∙◌, sym}
use Rattle.sk_obs.proofs.Slashes.{behind_found, behind_missing}
use Rattle.sk_obs.proofs.code_word.behind_slash.Goals as goal

pub returns-in-Some : goal.returns-in-Some
returns-in-Some c = c.split_at.ensures.back ∙ behind_found c.args.word.now c.in-Some.place (sym c.slash_place.ensures ∙ c.in-Some.is)

pub returns-in-None : goal.returns-in-None
returns-in-None c = behind_missing c.args.word.now (sym c.slash_place.ensures ∙ c.in-None.is)
