use Rattle.std.proofs.Common.{◌∙◌, ap}
use Rattle.clap.specs.Words.{first_of, found_of}
use Rattle.clap.proofs.WalkLemmas.{first_value-rows}
use Rattle.sk_words.specs.Asked.{rows_in}
use Rattle.sk_words.proofs.request.given_text.Goals as goal

pub returns : goal.returns
returns c =
    c.get_str.ensures ∙ first_value-rows (found_of c.args.matches.now) c.word.result.now
    ∙ ap (λ id. first_of id (rows_in c.args.matches.now)) c.word.ensures
