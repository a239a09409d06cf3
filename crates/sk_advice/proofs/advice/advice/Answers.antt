use Rattle.std.proofs.Common.{ℕ, List, map, Vec, Global}
use Rattle.sk_advice.proofs.Given.{given_advice}
use Rattle.sk_advice.proofs.advice.advice.Goals as goal

pub returns-in-Ok : goal.returns-in-Ok
returns-in-Ok c =
    given_advice (λ (v : Vec ℕ Global). v.items) (map (λ w. w.now) c.args.words.now) c.in-Ok.given c.args.status c.given_advice.result
    c.in-Ok.ensures.ok c.given_advice.ensures
