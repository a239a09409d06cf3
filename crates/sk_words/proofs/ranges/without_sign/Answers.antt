use Rattle.std.proofs.Common.{rules, tests, ◌≡◌, ◌≢◌, ℕ, List, [], ◌∷◌, refl, sym, lit<, None}
use Rattle.std.proofs.lemmas.Str.Pattern.{strip_prefix_char}
use Rattle.sk_words.specs.Request.{without_sign}
use Rattle.sk_words.proofs.ranges.without_sign.Goals as goal

no_sign : (text : List ℕ) → ((rest : List ℕ) → text ≢ 45 ∷ rest) → without_sign text ≡ text
no_sign [] h = refl
no_sign (byte ∷ rest) h = search (rules, tests)

pub returns-in-None : goal.returns-in-None
returns-in-None c = sym (no_sign c.args.text.now (strip_prefix_char 45 c.args.text.now None c.in-None.ensures.cases (lit< tt)))
