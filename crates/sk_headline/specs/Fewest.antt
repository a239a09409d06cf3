-- How few triples a publication can have.
use Rattle.std.specs.Prelude.{◌≡◌, ℕ, ◌+◌, ◌≤◌, List, length, Option}
use Rattle.sk_clock.specs.Clock.{lengths}
use Rattle.sk_publishing.specs.Terms.{Sight, sights}
use Rattle.sk_publishing.specs.Chain.{new_triples}
use Rattle.sk_least.specs.Cover.{IsShortestCover}
use Rattle.sk_least.specs.declared.stretch.Stretch.{Stretch}
use Rattle.sk_words.specs.Request.{Options}
use Rattle.sk_outcome.specs.Output.{settings_of}
use Rattle.sk_outcome.specs.Outcome.{ShortestCover}
use Rattle.sk_headline.specs.Headline.{IsPublished}

-- The old last triple and the new ones are no fewer than the runs of a shortest cover of the new observations that are
-- kept, whatever the other settings.
abbrev pub NoFewerTriples : Type 0
NoFewerTriples = (options : Options) (leap_bytes : Option (List ℕ)) (kernel_bytes observation_bytes written : List ℕ)
    (p : IsPublished options leap_bytes kernel_bytes observation_bytes written) (runs : List (List Sight))
    → IsShortestCover (lengths p.old.clock) (settings_of options).tolerance.units p.publication.kept runs
    → length runs ≤ 1 + length (new_triples p.chain)

-- So they are no fewer than what `least` tells of the same files, where each observation is new and none is dropped.
abbrev pub NoFewerThanTold : Type 0
NoFewerThanTold = (options : Options) (leap_bytes : Option (List ℕ)) (kernel_bytes observation_bytes written : List ℕ)
    (p : IsPublished options leap_bytes kernel_bytes observation_bytes written) (stretches : List Stretch)
    → p.publication.kept ≡ sights p.observations
    → ShortestCover options (record { kernel = p.old; observations = p.observations }) stretches
    → length stretches ≤ 1 + length (new_triples p.chain)
