use Rattle.std.proofs.Common.{◌≡◌, List, ℕ, map, ◌∷◌, ap, ◌∙◌, subst, Option, Some, None, Vec, Global}
use Rattle.std.specs.Prelude.{codes, string_bytes}
use Rattle.sk_words.specs.declared.topic.Topic.{Topic}
use Rattle.sk_words.specs.Topics.{topic_of}
use Rattle.sk_outcome.specs.Seen.{Source, seen_by}
use Rattle.sk_outcome.specs.Stage.{MayAnswer}
use Rattle.sk_outcome.specs.Outcome.{commanded, told_or}
use Rattle.station.specs.Asking.{AsksBy}
use Rattle.station.proofs.top.whole_text.Goals as goal

pub returns-clause-stage : goal.returns-clause-stage
returns-clause-stage g c =
    let source : Source = seen_by g.D.Depot.holds g.D.Depot.given g.D.Depot.faults c.args.depot.now c.asked_text.new.depot in
    let words : List (List ℕ) = codes "station" ∷ map string_bytes c.args.words.now in
    let first : map (λ w. w.now) c.as_slice.result.now ≡ words = ap (map (λ w. w.now)) c.as_slice.ensures.value ∙ c.in-Ok.ensures in
    let again : map (λ w. w.now) c.as_slice-in-None.result.now ≡ words = ap (map (λ w. w.now)) c.as_slice-in-None.ensures.value ∙ c.in-Ok.ensures in
    let none : None ≡ topic_of words = c.in-None.ensures.topic ∙ ap topic_of first in
    subst (λ (topic : Option Topic). MayAnswer (λ (v : Vec ℕ Global). v.items) (told_or topic (commanded words source)) c.asked_text.result) none
    (subst (λ (ws : List (List ℕ)). MayAnswer (λ (v : Vec ℕ Global). v.items) (commanded ws source) c.asked_text.result) again c.asked_text.ensures.stage)

pub returns-clause-asks : goal.returns-clause-asks
returns-clause-asks g c =
    let asked = g.D.Depot.asked in
    subst (λ (ws : List (List ℕ)). AsksBy (asked c.args.depot.now) (asked c.asked_text.new.depot) ws)
    (ap (map (λ w. w.now)) c.as_slice-in-None.ensures.value ∙ c.in-Ok.ensures) c.asked_text.ensures.asks
