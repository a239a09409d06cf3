use Rattle.std.proofs.Common.{◌≡◌, ◌∷◌, take, map}
use Rattle.std.specs.Prelude.{codes, string_bytes}
use Rattle.sk_words.proofs.given.station_words.Given as goal

abbrev pub invariant-loop-word : goal.invariant-loop-word
invariant-loop-word l = map (λ w. w.now) l.all.items ≡ codes "station" ∷ map string_bytes (take l.word-index l.words)
