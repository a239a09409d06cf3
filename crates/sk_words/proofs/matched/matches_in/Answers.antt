use Rattle.std.proofs.Common.{◌≡◌, map, true, false, [], List, Bool, ap, sym, subst, inl, inr, ◌∙◌, refl, ◌⊎◌}
use Rattle.clap.specs.Words.{app_of, is_simple, is_simple_and_free, fault_of, takes, matches_of, Kinds, IsAmong, App, Text}
use Rattle.clap.specs.declared.error.kind.ErrorKind.{ErrorKind}
use Rattle.clap.specs.declared.error.kind.ErrorKind.TheVariants.{OutOfMemory}
use Rattle.sk_words.specs.declared.matched.MatchStop.TheVariants.{NotTaken}
use Rattle.sk_words.specs.Words.{station, is_taken, faults, matches}
use Rattle.sk_words.proofs.Station.{station_is_simple, station_is_free}
use Rattle.sk_words.proofs.matched.matches_in.Goals as goal

no_then_false : (b : Bool) → (b ≡ true → ⊥) → b ≡ false
no_then_false true h = absurd (h refl)
no_then_false false h = refl

none_among : (k : ErrorKind) (ks : Kinds) → ks ≡ [] → (k ≡ OutOfMemory) ⊎ IsAmong k ks → k ≡ OutOfMemory
none_among k ks e (inl h) = h
none_among k ks e (inr h) = absurd (subst (IsAmong k) e h)

pub returns-in-Ok-try_get_matches_from-clause-ok :
    goal.returns-in-Ok-try_get_matches_from-clause-ok
unfolding faults matches
returns-in-Ok-try_get_matches_from-clause-ok c =
    let words : List Text = map (λ w. w.now) c.args.words.now in
    let e : app_of c.in-Ok.command ≡ station = c.in-Ok.ensures in
    let kinds : fault_of (app_of c.in-Ok.command) words ≡ [] = c.in-Ok-try_get_matches_from.ensures.kinds (ap is_simple_and_free e ∙ station_is_free) in
    let rows = (c.in-Ok-try_get_matches_from.ensures.matches (ap is_simple e ∙ station_is_simple)).0 in
    record {
      no_fault = ap (λ (a : App). fault_of a words) (sym e) ∙ kinds;
      are_rows = rows ∙ ap (λ (a : App). matches_of a words) e;
    }

pub returns-in-Err-clause-not_taken : goal.returns-in-Err-clause-not_taken
unfolding is_taken
returns-in-Err-clause-not_taken c = λ r.
    let words : List Text = map (λ w. w.now) c.args.words.now in
    let e : app_of c.in-Ok.command ≡ station = c.in-Ok.ensures in
    let stop : c.stop_of.result ≡ NotTaken = cc in
    no_then_false (is_taken words) (λ t. c.stop_of.ensures.taken stop
    (c.in-Err.ensures.passes (ap (λ (a : App). takes a words) e ∙ t)))

pub returns-in-Err-clause-refused : goal.returns-in-Err-clause-refused
unfolding faults
returns-in-Err-clause-refused c = λ r none.
    let words : List Text = map (λ w. w.now) c.args.words.now in
    let e : app_of c.in-Ok.command ≡ station = c.in-Ok.ensures in
    let stop : c.stop_of.result ≡ NotTaken = cc in
    c.stop_of.ensures.taken stop (none_among _ _ (ap (λ (a : App). fault_of a words) e ∙ none)
    (c.in-Err.ensures.kinds (ap is_simple_and_free e ∙ station_is_free)))
