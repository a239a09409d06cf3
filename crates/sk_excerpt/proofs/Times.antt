-- The times of a range by its source and by the triples that were kept.
use Rattle.std.proofs.Common.{◌≡◌, ℕ, zero, suc, ◌+◌, ◌-◌, ◌<◌, ◌≤◌, List, [], ◌∷◌, length, take, drop, slice_get, Some, refl, sym, ap, arith, ◌∙◌, min, length-take}
use Rattle.std.proofs.lemmas.Option.{same_Some, slice_get_within}
use Rattle.sk_line.specs.Triple.{TripleView}
use Rattle.sk_line.specs.Line.{covering, line_over}
use Rattle.sk_triples.specs.Kernel.{TriplesView, Rise}
use Rattle.sk_triples.proofs.Covering.{covers, covered}
use Rattle.sk_excerpt.specs.Law.{between, SameTimes}
use Rattle.sk_excerpt.proofs.Covers.{numbered, later}
use Rattle.sk_excerpt.proofs.Rows.{rises}

front_at : (n k : ℕ) (ts : List TripleView) → k < n → slice_get (take n ts) k ≡ slice_get ts k
front_at zero k ts less = absurd (omega arith)
front_at (suc n) k [] less = refl
front_at (suc n) zero (t ∷ ts) less = refl
front_at (suc n) (suc k) (t ∷ ts) less = front_at n k ts (omega arith)

rest_at : (n k : ℕ) (ts : List TripleView) → slice_get (drop n ts) k ≡ slice_get ts (n + k)
rest_at zero k ts = ap (slice_get ts) (let same : k ≡ 0 + k = omega arith in same)
rest_at (suc n) k [] = refl
rest_at (suc n) k (t ∷ ts) = let next : suc n + k ≡ suc (n + k) = omega arith in rest_at n k ts ∙ ap (slice_get (t ∷ ts)) (sym next)

middle_at : (first last k : ℕ) (ts : List TripleView) → k < last - first + 1 → slice_get (take (last - first + 1) (drop first ts)) k ≡ slice_get ts (first + k)
middle_at first last k ts less = front_at (last - first + 1) k (drop first ts) less ∙ rest_at first k ts

-- the triple that covers a tick covers it among the kept ones too
kept_covers : (first last place tick : ℕ) (ts : List TripleView) (triple : TripleView) → Rise ts → first ≤ place → place ≤ last → covering ts tick ≡ Some (place + 1, triple)
    → covering (take (last - first + 1) (drop first ts)) tick ≡ Some (place - first + 1, triple)
kept_covers first last place tick ts triple rise low high e =
    let is = covers tick ts place triple rise e in
    let kept : List TripleView = take (last - first + 1) (drop first ts) in
    let back : first + (place - first) ≡ place = omega arith in
    covered tick kept (place - first) triple (rises first last ts rise) (record {
      here = middle_at first last (place - first) ts (omega arith) ∙ ap (slice_get ts) back ∙ is.here;
      begun = is.begun;
      last = λ k next behind at.
          let within : k < length kept = slice_get_within kept k next at in
          let size : length kept ≡ min (last - first + 1) (length (drop first ts)) = length-take (last - first + 1) (drop first ts) in
          is.last (first + k) next (omega arith) (sym (middle_at first last k ts (omega (arith, size, within))) ∙ at);
    })

-- the number and the triple that cover a tick
abbrev Covered : List TripleView → ℕ → Type 0
Covered ts tick = (place : ℕ) × (triple : TripleView) × (covering ts tick ≡ Some (place + 1, triple))

placed : (ts : List TripleView) (tick : ℕ) (f : ℕ × TripleView) → covering ts tick ≡ Some f → covering ts tick ≡ Some (f.0 - 1 + 1, f.1)
placed ts tick f e =
    let bounds = numbered 1 ts tick f e in
    let low : 1 ≤ f.0 = bounds.0 in
    let same : f.0 ≡ f.0 - 1 + 1 = omega arith in
    e ∙ ap (λ (n : ℕ). Some (n, f.1)) same

pub same_times : (from to : ℕ) (t : TriplesView) (first last : ℕ × TripleView) → Rise t.triples → covering t.triples from ≡ Some first → covering t.triples to ≡ Some last
    → SameTimes from to t (between (first.0 - 1) (last.0 - 1) t)
same_times from to t first last rise at_from at_to tick over low high =
    let ts : List TripleView = t.triples in
    let some = later 1 ts from tick first low at_from in
    let here : ℕ × TripleView = some.0 in
    let at : covering ts tick ≡ Some here = some.1 in
    let end = later 1 ts tick to here high at in
    let one : end.0 ≡ last = same_Some end.0 last (sym end.1 ∙ at_to) in
    let number : end.0.0 ≡ last.0 = ap (λ (p : ℕ × TripleView). p.0) one in
    let from_first : first.0 - 1 ≤ here.0 - 1 = omega (arith, some.2) in
    let to_last : here.0 - 1 ≤ last.0 - 1 = omega (arith, end.2, number) in
    let new = kept_covers (first.0 - 1) (last.0 - 1) (here.0 - 1) tick ts here.1 rise from_first to_last (placed ts tick here at) in (
      λ time.
          let same : here ≡ (time.0, time.1) = same_Some here (time.0, time.1) (sym at ∙ time.2) in
          let triple : here.1 ≡ time.1 = ap (λ (p : ℕ × TripleView). p.1) same in
          (here.0 - 1 - (first.0 - 1) + 1, here.1, new, time.3 ∙ ap (λ (x : TripleView). line_over t.per_count x.anchor x.rate tick) (sym triple)),
      λ time.
          let both = same_Some (here.0 - 1 - (first.0 - 1) + 1, here.1) (time.0, time.1) (sym new ∙ time.2) in
          let triple : here.1 ≡ time.1 = ap (λ (p : ℕ × TripleView). p.1) both in
          (here.0, here.1, at, time.3 ∙ ap (λ (x : TripleView). line_over t.per_count x.anchor x.rate tick) (sym triple)),
    )
