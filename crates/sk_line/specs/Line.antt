-- The line of a triple, the time of a tick, and falls at joins.
use Rattle.std.specs.Prelude.{◌≡◌, ℕ, ◌+◌, ◌-◌, ◌<◌, ℤ, pos, ◌+ℤ◌, ◌-ℤ◌, ◌*ℤ◌, ◌≤ℤ◌, ◌<ℤ◌, List, [], ◌∷◌, slice_get, nat_le, Option, Some, None, unwrap_or, if◌then◌else◌}
use Rattle.std.specs.Option.{option_map_or}
use Rattle.sk_line.specs.Triple.{Anchor, TripleView}

-- The line of an anchor and a rate at a tick is this over per_count: one fraction of whole numbers.
abbrev pub line_over : ℕ → Anchor → ℤ → ℕ → ℤ
line_over per_count anchor rate tick = (anchor.time *ℤ pos per_count) +ℤ (rate *ℤ pos (tick - anchor.ticks))

-- ---- the times of ticks

-- the last triple whose ticks are not greater, and its number from 1
abbrev pub covering_from : ℕ → List TripleView → ℕ → Option (ℕ × TripleView)
covering_from n [] tick = None
covering_from n (triple ∷ triples) tick =
    if nat_le triple.anchor.ticks tick then Some (unwrap_or (covering_from (n + 1) triples tick) (n, triple)) else None

abbrev pub covering : List TripleView → ℕ → Option (ℕ × TripleView)
covering triples tick = covering_from 1 triples tick

-- how many triples have begun at a tick
abbrev pub begun_at : List TripleView → ℕ → ℕ
begun_at triples tick = option_map_or (λ found. found.0) (covering triples tick) 0

-- the time of a tick by these triples is this over per_count, in 10 ^ -18 s
abbrev pub IsTimeAt : ℕ → List TripleView → ℕ → ℤ → Type 0
IsTimeAt per_count triples tick over =
    (n : ℕ) × (triple : TripleView) × (covering triples tick ≡ Some (n, triple)) × (over ≡ line_over per_count triple.anchor triple.rate tick)

-- ---- joins

-- By how much the line of a triple is later, at the next triple, than that triple's time: this over per_count, in 10 ^ -18 s.
abbrev pub fall_over : ℕ → TripleView → TripleView → ℤ
fall_over per_count before after =
    line_over per_count before.anchor before.rate after.anchor.ticks -ℤ (after.anchor.time *ℤ pos per_count)

-- join i, from 1, falls by more than slip, in 10 ^ -18 s
pub record FallsOver (per_count : ℕ) (triples : List TripleView) (slip : ℤ) (i : ℕ) : Type 0 where
  pub before : TripleView
  pub after : TripleView
  pub counted : 0 < i
  pub is_before : slice_get triples (i - 1) ≡ Some before
  pub is_after : slice_get triples i ≡ Some after
  pub falls : (slip *ℤ pos per_count) <ℤ fall_over per_count before after

-- the first join that falls by more than slip
pub record IsFirstFall (per_count : ℕ) (triples : List TripleView) (slip : ℤ) (i : ℕ) : Type 0 where
  pub falls : FallsOver per_count triples slip i
  pub first : (k : ℕ) → k < i → ¬ FallsOver per_count triples slip k
