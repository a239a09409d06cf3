-- The pair that blocks is among the observations, and what an end tells is one.
use Rattle.std.proofs.Common.{◌≡◌, ℕ, ◌<◌, ◌++◌, Bool, true, false, cond, List, [], ◌∷◌, length, refl, sym, ap, subst, ◌∙◌}
use Rattle.std.proofs.lemmas.Option.{same_Some, slice_get_within}
use Rattle.std.specs.Prelude.{ℤ, filter}
use Rattle.std.specs.List.{AllByRecursion}
use Rattle.sk_decimal.specs.declared.fixed.Fixed.{Fixed}
use Rattle.sk_publishing.specs.Row.{RowView}
use Rattle.sk_publishing.specs.Terms.{Sight, Gauge, Terms, sights}
use Rattle.sk_publishing.specs.Chain.{SegmentView, EndView, LastEnd, PartitionEnd, FixedEnd, BlockedEnd}
use Rattle.sk_line.proofs.Lists.{all_append, all_back}
use Rattle.sk_fit.specs.declared.open_segment.Running.{Running}
use Rattle.sk_fit.specs.declared.fault.Barrier.{Barrier}
use Rattle.sk_fit.specs.declared.fault.Barrier.TheVariants.{OldLine, Pair}
use Rattle.sk_fit.specs.declared.fault.Miss.{Miss}
use Rattle.sk_fit.specs.Barriers.{IsMiss, IsEndTold, IsBarrier, distance_of}
use Rattle.sk_fit.specs.State.{FittingView, IsAt, open_of}
use Rattle.sk_fit.specs.Pairs.{IsRunning}
use Rattle.sk_fit.proofs.Observed.{all_sights}

-- ---- places

abbrev IsPlaceOf : List RowView → Sight → Type 0
IsPlaceOf rows x = x.place < length rows

all_within : (rows : List RowView) → AllByRecursion (IsPlaceOf rows) (sights rows)
all_within rows = all_sights (IsPlaceOf rows) rows (λ k row here. slice_get_within rows k row here)

taken : (P : Sight → Type 0) (b : Bool) (x : Sight) (xs : List Sight) → P x → AllByRecursion P xs → AllByRecursion P (cond b (x ∷ xs) xs)
taken P true x xs h all = (h, all)
taken P false x xs h all = all

all_filtered : (P : Sight → Type 0) (p : Sight → Bool) (xs : List Sight) → AllByRecursion P xs → AllByRecursion P (filter p xs)
all_filtered P p [] h = tt
all_filtered P p (x ∷ xs) h = taken P (p x) x (filter p xs) h.0 (all_filtered P p xs h.1)

-- what the open segment covers and the next observation
all_run : (rows : List RowView) (n : ℕ) (f : FittingView) (o : Sight) → IsAt (sights rows) n o → AllByRecursion (IsPlaceOf rows) ((open_of (sights rows) f).covered ++ o ∷ [])
all_run rows n f o at =
    all_append (IsPlaceOf rows) (open_of (sights rows) f).covered (o ∷ []) (all_filtered (IsPlaceOf rows) _ (sights rows) (all_within rows))
    ((all_back (IsPlaceOf rows) at.before (o ∷ at.after) (subst (AllByRecursion (IsPlaceOf rows)) at.here (all_within rows))).0, tt)

one_of : (rows : List RowView) (run front back : List Sight) (x : Sight) → run ≡ front ++ x ∷ back → AllByRecursion (IsPlaceOf rows) run → IsPlaceOf rows x
one_of rows run front back x e h = (all_back (IsPlaceOf rows) front (x ∷ back) (subst (AllByRecursion (IsPlaceOf rows)) e h)).0

pub pair_within : (t : Terms) (rows : List RowView) (n : ℕ) (f : FittingView) (o : Sight) (r : Running) → IsAt (sights rows) n o → IsRunning t (sights rows) f o r
    → (r.least_place < length rows) × (r.greatest_place < length rows)
pair_within t rows n f o r at run =
    let all = all_run rows n f o at in (
      subst (λ (p : ℕ). p < length rows) (sym run.low_place) (one_of rows _ run.is_low.front run.is_low.back run.first run.is_low.joined all),
      subst (λ (p : ℕ). p < length rows) (sym run.high_place) (one_of rows _ run.is_high.front run.is_high.back run.second run.is_high.joined all),
    )

-- ---- one barrier

abbrev units_as : ℤ → Fixed 12
units_as units = record { units = units }

abbrev missed_by : ℕ → ℤ → Miss
missed_by number units = record { number = number; distance = units_as units }

module _ (g : Gauge) (rows : List RowView) where
  miss_same : (s : SegmentView) (place : ℕ) (a b : Miss) → IsMiss g s rows place a → IsMiss g s rows place b → a ≡ b
  miss_same s place a b p q =
      let seen : p.0 ≡ q.0 = same_Some p.0 q.0 (sym p.1 ∙ q.1) in
      let number : a.number ≡ b.number = p.2 ∙ ap (λ (row : RowView). row.number) seen ∙ sym q.2 in
      let units : a.distance.units ≡ b.distance.units = p.3 ∙ ap (λ (row : RowView). distance_of g s row.tick row.time) seen ∙ sym q.3 in
      ap (λ (n : ℕ). missed_by n a.distance.units) number ∙ ap (missed_by b.number) units

  told_same : (o : Sight) (s : SegmentView) (e : EndView) (b b' : Barrier) → IsEndTold g rows o s e b → IsEndTold g rows o s e b' → b ≡ b'
  told_same o s FixedEnd (OldLine d) (OldLine d') p q = ap (λ (units : ℤ). OldLine (units_as units)) (p ∙ sym q)
  told_same o s FixedEnd (OldLine d) (Pair low high) p q = absurd q
  told_same o s FixedEnd (Pair low high) b' p q = absurd p
  told_same o s (BlockedEnd x y) (OldLine d) b' p q = absurd p
  told_same o s (BlockedEnd x y) (Pair low high) (OldLine d) p q = absurd q
  told_same o s (BlockedEnd x y) (Pair low high) (Pair low' high') p q =
      ap (λ (m : Miss). Pair m high) (miss_same s x low low' p.0 q.0) ∙ ap (λ (m : Miss). Pair low' m) (miss_same s y high high' p.1 q.1)
  told_same o s LastEnd b b' p q = absurd p
  told_same o s PartitionEnd b b' p q = absurd p

  pub one_barrier : (o o' : Sight) (s s' : SegmentView) (b b' : Barrier) → o ≡ o' → s ≡ s' → IsBarrier g rows o s b → IsBarrier g rows o' s' b' → b ≡ b'
  one_barrier o o' s s' b b' here same p q =
      told_same o' s' s'.ended b b' (subst (λ (x : SegmentView). IsBarrier g rows o' x b) same (subst (λ (y : Sight). IsBarrier g rows y s b) here p)) q
