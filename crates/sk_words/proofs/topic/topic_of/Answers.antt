use Rattle.std.proofs.Common.{◌∙◌, map}
use Rattle.sk_words.proofs.Apart.{no_topic}
use Rattle.sk_words.proofs.topic.topic_of.Goals as goal

pub returns-clause-apart : goal.returns-clause-apart
returns-clause-apart c = λ request asks. c.topic_in.ensures ∙ no_topic (map (λ w. w.now) c.args.words.now) request asks
