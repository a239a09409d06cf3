use Rattle.std.proofs.Common.{◌∙◌, sym, ap, option_map, Bor, List, ℕ, Option}
use Rattle.sk_obs.proofs.Slashes.{names_none, names_some}
use Rattle.sk_obs.proofs.code_word.named_partition.Goals as goal

pub returns-in-None : goal.returns-in-None
returns-in-None c = names_none c.args.word.now (sym c.before_slash.ensures ∙ ap (λ (o : Option (Bor (List ℕ))). option_map (λ part. part.now) o) c.in-None.is)

pub returns-in-Some-read_digits : goal.returns-in-Some-read_digits
returns-in-Some-read_digits c = names_some c.args.word.now c.in-Some.digits.now c.in-Some-read_digits.partition (sym c.before_slash.ensures ∙ ap (λ (o : Option (Bor (List ℕ))). option_map (λ part. part.now) o) c.in-Some.is) c.in-Some-read_digits.ensures.number
