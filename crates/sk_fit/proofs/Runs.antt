-- The rates of a run by its bounds, one observation after another.
use Rattle.std.proofs.Common.{◌≡◌, ℕ, ◌+◌, ◌↔◌, List, [], ◌∷◌, sym, subst, arith, drop}
use Rattle.std.proofs.lemmas.Int.{ints}
use Rattle.std.specs.Prelude.{ℤ, ◌≤ℤ◌, ◌<ℤ◌}
use Rattle.std.specs.List.{AllByRecursion}
use Rattle.sk_publishing.specs.Terms.{sights, sights_from, Sight, Gauge}
use Rattle.sk_line.specs.Triple.{Anchor}
use Rattle.sk_publishing.specs.Meets.{Meets}
use Rattle.sk_publishing.specs.Rates.{BandView, InBand, IsLeast, IsGreatest, on_grid, IsLeastRate, IsGreatestRate, MeetsAll}
use Rattle.sk_publishing.proofs.Bounds.{least_rate_le, le_least_rate, greatest_rate_ge, ge_greatest_rate, meets_not_small, meets_not_large, meets_between}
use Rattle.sk_publishing.specs.Row.{RowView}
use Rattle.sk_fit.specs.Given.{sight_at}

module _ (g : Gauge) (band : BandView) (anchor : Anchor) where
  abbrev pub AllMet : ℤ → List Sight → Type 0
  AllMet n run = AllByRecursion (Meets g anchor (on_grid g.rate_decimals n)) run

  -- Where a number of observations are read, a rate of the band meets all exactly where it is between these and meets the others.
  pub record Reads (observations : List RowView) (i : ℕ) (least greatest : ℤ) : Type 0 where
    pub low : band.least ≤ℤ least
    pub high : greatest ≤ℤ band.greatest
    pub law : (n : ℤ) → InBand band n
        → AllMet n (sights observations) ↔ ((least ≤ℤ n) × (n ≤ℤ greatest) × AllMet n (sights_from i (drop i observations)))

  pub reads_none : (observations : List RowView) → Reads observations 0 band.least band.greatest
  reads_none observations = record {
    low = omega (arith, ints);
    high = omega (arith, ints);
    law = λ n b. ((λ h. (b.low, b.high, h)), (λ h. h.2));
  }

  one_met : (i : ℕ) (o : RowView) (rest : List RowView) (bl bg n : ℤ) → InBand band n
      → IsLeastRate (InBand band) g anchor (sight_at 0 o) bl → IsGreatestRate (InBand band) g anchor (sight_at 0 o) bg
      → AllMet n (sights_from i (o ∷ rest)) ↔ ((bl ≤ℤ n) × (n ≤ℤ bg) × AllMet n (sights_from (i + 1) rest))
  one_met i o rest bl bg n b p q = (
    (λ h. (
      least_rate_le (InBand band) g anchor (sight_at 0 o) bl n p b (meets_not_small g anchor (on_grid g.rate_decimals n) (sight_at i o) h.0),
      greatest_rate_ge (InBand band) g anchor (sight_at 0 o) bg n q b (meets_not_large g anchor (on_grid g.rate_decimals n) (sight_at i o) h.0),
      h.1,
    )),
    (λ h. (
      meets_between g anchor (on_grid g.rate_decimals n) (sight_at i o) (le_least_rate (InBand band) g anchor (sight_at 0 o) bl n p b h.0)
          (ge_greatest_rate (InBand band) g anchor (sight_at 0 o) bg n q b h.1),
      h.2,
    )),
  )

  -- one more is read: the greater of the least rates and the lesser of the greatest ones
  pub reads_more : (observations : List RowView) (i : ℕ) (o : RowView) (least greatest bl bg least' greatest' : ℤ)
      → drop i observations ≡ o ∷ drop (i + 1) observations
      → IsLeastRate (InBand band) g anchor (sight_at 0 o) bl → IsGreatestRate (InBand band) g anchor (sight_at 0 o) bg
      → ((n : ℤ) → (least' ≤ℤ n) ↔ ((least ≤ℤ n) × (bl ≤ℤ n))) → ((n : ℤ) → (n ≤ℤ greatest') ↔ ((n ≤ℤ greatest) × (n ≤ℤ bg)))
      → Reads observations i least greatest → Reads observations (i + 1) least' greatest'
  reads_more observations i o least greatest bl bg least' greatest' here p q more fewer r = record {
    low = (let a = r.low in let b = ((more least').0 (omega (arith, ints))).0 in omega (arith, ints));
    high = (let a = r.high in let b = ((fewer greatest').0 (omega (arith, ints))).0 in omega (arith, ints));
    law = λ n b. (
      (λ h. (let w = (r.law n b).0 h in
          let m = (one_met i o (drop (i + 1) observations) bl bg n b p q).0 (subst (λ (x : List RowView). AllMet n (sights_from i x)) here w.2) in
          ((more n).1 (w.0, m.0), (fewer n).1 (w.1, m.1), m.2))),
      (λ h. (let l = (more n).0 h.0 in let k = (fewer n).0 h.1 in
          (r.law n b).1 (
            l.0,
            k.0,
            subst (λ (x : List RowView). AllMet n (sights_from i x)) (sym here)
                ((one_met i o (drop (i + 1) observations) bl bg n b p q).1 (l.1, k.1, h.2)),
          ))),
    );
  }

  -- all are read
  pub reads_some : (observations : List RowView) (i : ℕ) (least greatest : ℤ) → drop i observations ≡ [] → Reads observations i least greatest
      → least ≤ℤ greatest
      → IsLeast (MeetsAll (InBand band) g anchor (sights observations)) least × IsGreatest (MeetsAll (InBand band) g anchor (sights observations)) greatest
  reads_some observations i least greatest done r h =
      let low = r.low in let high = r.high in
      let at_least : InBand band least = record { low = low; high = omega (arith, ints) } in
      let at_greatest : InBand band greatest = record { low = omega (arith, ints); high = high } in
      let none : (n : ℤ) → AllMet n (sights_from i (drop i observations)) = λ n. subst (λ (x : List RowView). AllMet n (sights_from i x)) (sym done) tt in (
        record { has = (at_least, (r.law least at_least).1 (omega (arith, ints), h, none least)); least = λ m w. ((r.law m w.0).0 w.1).0 },
        record { has = (at_greatest, (r.law greatest at_greatest).1 (h, omega (arith, ints), none greatest)); greatest = λ m w. ((r.law m w.0).0 w.1).1 },
      )

  pub reads_no : (observations : List RowView) (i : ℕ) (least greatest : ℤ) → Reads observations i least greatest
      → greatest <ℤ least → (n : ℤ) → ¬ MeetsAll (InBand band) g anchor (sights observations) n
  reads_no observations i least greatest r h n w = let b = (r.law n w.0).0 w.1 in let p = b.0 in let q = b.1 in omega (arith, ints)
