-- Where no join falls, times of ticks rise.
use Rattle.std.proofs.Common.{◌≡◌, ℕ, suc, ◌-◌, ◌<◌, List, get_or, Some, inl, inr, sym, subst, arith, ◌∙◌}
use Rattle.std.proofs.lemmas.Int.{ints, by_lt_z}
use Rattle.std.proofs.lemmas.Bool.{cases_lt}
use Rattle.std.proofs.lemmas.Option.{same_Some, slice_get_within, slice_get-get_or}
use Rattle.std.specs.Prelude.{ℤ, pos, ◌-ℤ◌, ◌*ℤ◌, ◌≤ℤ◌, ◌<ℤ◌, slice_get}
use Rattle.sk_decimal.proofs.Signed.{mul-le_right}
use Rattle.sk_line.specs.Triple.{TripleView}
use Rattle.sk_line.specs.Line.{line_over, fall_over, FallsOver}
use Rattle.sk_triples.specs.Kernel.{AreTriples, Rise}
use Rattle.sk_inverse.specs.Inverse.{ExactTickLaw}
use Rattle.sk_inverse.proofs.Lines.{line_up, line_from}
use Rattle.sk_inverse.proofs.Found.{kept_triple, later_times, Cover, cover_of, one_time}

module _ (total per_count : ℕ) (ts : List TripleView) (are : AreTriples total ts) (no_fall : (i : ℕ) → ¬ FallsOver per_count ts (pos 0) i) where
  join : (i : ℕ) (a b : TripleView) → slice_get ts i ≡ Some a → slice_get ts (suc i) ≡ Some b → line_over per_count a.anchor a.rate b.anchor.ticks ≤ℤ (b.anchor.time *ℤ pos per_count)
  join i a b at_a at_b = by_lt_z (pos 0 *ℤ pos per_count) (fall_over per_count a b) (λ less. absurd (no_fall (suc i) (falls less))) (λ most. level _ _ per_count most)
    where
      falls : (pos 0 *ℤ pos per_count) <ℤ fall_over per_count a b → FallsOver per_count ts (pos 0) (suc i)
      falls less = let same : i ≡ suc i - 1 = omega arith in record { before = a; after = b; counted = omega arith; is_before = subst (λ (j : ℕ). slice_get ts j ≡ Some a) same at_a; is_after = at_b; falls = less }

      level : (x y : ℤ) (n : ℕ) → (x -ℤ y) ≤ℤ (pos 0 *ℤ pos n) → x ≤ℤ y
      level x y n p = omega (arith, ints, p)

  pub times_rise : (x y : ℕ) (c : Cover ts x) (d : Cover ts y) → x < y
      → line_over per_count c.triple.anchor c.triple.rate x <ℤ line_over per_count d.triple.anchor d.triple.rate y
  times_rise x y c d up = elim (cases_lt c.place d.place) [
    | inl behind ↦ across behind (get_or ts (suc c.place) c.triple) (slice_get-get_or ts (suc c.place) c.triple (let within = slice_get_within ts d.place d.triple d.is.here in omega arith))
    | inr not_behind ↦ (elim (cases_lt d.place c.place) [
      | inl before ↦ absurd (let less = d.is.last c.place c.triple before c.is.here in let from = c.is.begun in omega arith)
      | inr not_before ↦ along (let same : d.place ≡ c.place = omega arith in same)
    ])
  ]
    where
      positive : pos 0 <ℤ c.triple.rate
      positive = (kept_triple total ts c.place c.triple are c.is.here).positive

      across : c.place < d.place → (next : TripleView) → slice_get ts (suc c.place) ≡ Some next
          → line_over per_count c.triple.anchor c.triple.rate x <ℤ line_over per_count d.triple.anchor d.triple.rate y
      across behind next at =
          let first = line_up per_count c.triple positive x next.anchor.ticks c.is.begun (c.is.last (suc c.place) next (omega arith) at) in
          let second = join c.place c.triple next c.is.here at in
          let third = mul-le_right next.anchor.time d.triple.anchor.time per_count (later_times ts (suc c.place) d.place next d.triple are.rise behind at d.is.here) in
          let fourth = line_from per_count d.triple (kept_triple total ts d.place d.triple are d.is.here).positive y in
          through _ _ _ _ _ first second third fourth
        where
          through : (a b c d e : ℤ) → a <ℤ b → b ≤ℤ c → c ≤ℤ d → d ≤ℤ e → a <ℤ e
          through a b c d e p q r s = omega (arith, ints)

      along : d.place ≡ c.place → line_over per_count c.triple.anchor c.triple.rate x <ℤ line_over per_count d.triple.anchor d.triple.rate y
      along e =
          let at : slice_get ts c.place ≡ Some d.triple = subst (λ (j : ℕ). slice_get ts j ≡ Some d.triple) e d.is.here in
          let same : c.triple ≡ d.triple = same_Some c.triple d.triple (sym c.is.here ∙ at) in
          subst (λ (t : TripleView). line_over per_count c.triple.anchor c.triple.rate x <ℤ line_over per_count t.anchor t.rate y) same
          (line_up per_count c.triple positive x y c.is.begun up)

pub exact_tick : ExactTickLaw
exact_tick k time tick other kept no_fall within at is = elim (cases_lt tick other) [
  | inl above ↦ absurd (not_above above)
  | inr not_above ↦ (elim (cases_lt other tick) [
    | inl below ↦ absurd (not_below below)
    | inr not_below ↦ (let same : other ≡ tick = omega arith in same)
  ])
]
  where
    rise : Rise k.triples
    rise = kept.triples.rise

    here : Cover k.triples tick
    here = cover_of k.per_count k.triples tick (time *ℤ pos k.per_count) rise at

    same_time : (time *ℤ pos k.per_count) ≡ line_over k.per_count here.triple.anchor here.triple.rate tick
    same_time = one_time k.per_count k.triples tick (time *ℤ pos k.per_count) rise here at

    not_above : tick < other → ⊥
    not_above up =
        let late = is.not_after in
        let there = cover_of k.per_count k.triples other late.0 rise late.1 in
        let own = one_time k.per_count k.triples other late.0 rise there late.1 in
        let more = times_rise k.total k.per_count k.triples kept.triples no_fall tick other here there up in
        against _ _ _ _ same_time own more late.2
      where
        against : (a b c d : ℤ) → a ≡ b → c ≡ d → b <ℤ d → c ≤ℤ a → ⊥
        against a b c d e f p q = omega (arith, ints, p, q, e, f)

    not_below : other < tick → ⊥
    not_below up =
        let late = is.greatest tick up within in
        let own = one_time k.per_count k.triples tick late.0 rise here late.1 in
        against _ _ _ same_time own late.2
      where
        against : (a b c : ℤ) → a ≡ b → c ≡ b → a <ℤ c → ⊥
        against a b c e f p = omega (arith, ints, p, e, f)
