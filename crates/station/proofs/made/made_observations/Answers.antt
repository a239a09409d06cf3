use Rattle.std.proofs.Common.{◌≡◌, ℕ, List, [], ap, subst, ◌∙◌}
use Rattle.sk_publishing.specs.Row.{RowView}
use Rattle.sk_clock.specs.Clock.{ClockView}
use Rattle.sk_sample.specs.Sample.{observations_text}
use Rattle.sk_words.specs.Asked.{options_in}
use Rattle.sk_words.specs.Request.{Options}
use Rattle.sk_outcome.specs.Stage.{MayAnswer}
use Rattle.sk_outcome.specs.Files.{KernelRead, observed}
use Rattle.sk_outcome.specs.Sample.{made_observations, seed_of, count_of}
use Rattle.station.proofs.made.made_observations.Goals as goal

pub returns-clause-stage : goal.returns-clause-stage
returns-clause-stage c =
    let options : Options = options_in c.args.request.now in
    let clock : ClockView = c.kernel.inside.clock in
    let text : observations_text c.seed.result c.count.result ≡ observations_text (seed_of options) (count_of options) =
    ap (λ (n : ℕ). observations_text n c.count.result) c.seed.ensures ∙ ap (λ (n : ℕ). observations_text (seed_of options) n) c.count.ensures.number in
    subst (λ (k : KernelRead). MayAnswer (λ (o : List RowView). o) (made_observations options k) c.made_by.result) c.kernel.view_is
    (subst (λ (bytes : List ℕ). MayAnswer (λ (o : List RowView). o) (observed bytes clock []) c.made_by.result) text c.made_by.ensures.stage)
