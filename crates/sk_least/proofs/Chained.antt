-- Longest runs, one after another, are a shortest cover.
use Rattle.std.proofs.Common.{◌≡◌, ℕ, zero, suc, ◌+◌, ◌-◌, ◌<◌, ◌≤◌, List, [], ◌∷◌, ◌++◌, length, map, take, drop, Some, refl, sym, ap, subst, arith, ◌∙◌, length-drop}
use Rattle.std.proofs.lemmas.List.{take-append-drop, drop-drop, drop_all}
use Rattle.std.proofs.lemmas.Option.{same_Some}
use Rattle.std.specs.Prelude.{pos, slice_get}
use Rattle.std.specs.List.{AllByRecursion}
use Rattle.sk_clock.specs.Clock.{lengths}
use Rattle.sk_publishing.specs.Terms.{Sight}
use Rattle.sk_line.proofs.Lists.{all_back}
use Rattle.sk_least.specs.Cover.{IsStretch, IsStraight, IsCover, partition_at}
use Rattle.sk_least.specs.Answer.{run_of, IsAt, IsStop, GoesOnInPartition, AreLeast}
use Rattle.sk_least.specs.Search.{SearchView, IsLongestFrom, AreLongestFrom}
use Rattle.sk_least.specs.declared.stretch.Stretch.{Stretch}
use Rattle.sk_least.specs.declared.stretch.Stop.{Stop}
use Rattle.sk_least.specs.declared.stretch.Stop.TheVariants.{Last, Partition, Bent}
use Rattle.sk_least.proofs.Covers.{joined, Longest, AreLongest, longest_is_shortest}

pub at_drop : (xs : List Sight) (n : ℕ) (o : Sight) (rest : List Sight) → drop n xs ≡ o ∷ rest → slice_get xs n ≡ Some o
at_drop [] zero o rest e = absurd (cc)
at_drop [] (suc n) o rest e = absurd (cc)
at_drop (x ∷ xs) zero o rest e = ap Some (head x o xs rest e)
  where
    head : (a b : Sight) (us vs : List Sight) → a ∷ us ≡ b ∷ vs → a ≡ b
    head a b us vs e = cc
at_drop (x ∷ xs) (suc n) o rest e = at_drop xs n o rest e

pub chain_more : (v : SearchView) (first : ℕ) (stretches : List Stretch) (past : ℕ) (s : Stretch) → AreLongestFrom v first stretches past → IsLongestFrom v past s
    → AreLongestFrom v first (stretches ++ s ∷ []) s.past
chain_more v first [] past s h k = (subst (λ (n : ℕ). IsLongestFrom v n s) (sym h) k, refl)
chain_more v first (x ∷ xs) past s h k = (h.0, chain_more v x.past xs past s h.1 k)

module _ (v : SearchView) where
  abbrev pub runs : List Stretch → List (List Sight)
  runs stretches = map (run_of v.all) stretches

  -- what a run that ends so is followed by
  pub followed : (s : Stretch) (stop : Stop) → s.first < s.past → s.past ≤ length v.all → IsStop (lengths v.clock) (pos v.tolerance) v.all s stop → (rest : List Sight) → drop s.past v.all ≡ rest
      → Longest (lengths v.clock) (pos v.tolerance) (run_of v.all s) rest
  followed s stop some within h [] e = tt
  followed s Last some within h (o ∷ rest) e = absurd (let l = ap length e in let d = length-drop s.past v.all in omega arith)
  followed s Partition some within h (o ∷ rest) e = λ stretch. h.2 (first_of (drop s.first v.all) refl (subst (λ (n : ℕ). 0 < n) (sym (length-drop s.first v.all)) (omega arith)) stretch)
    where
      same : o ≡ h.0
      same = same_Some o h.0 (sym (at_drop v.all s.past o rest e) ∙ h.1)

      first_of : (xs : List Sight) → drop s.first v.all ≡ xs → 0 < length (drop s.first v.all) → IsStretch (lengths v.clock) (pos v.tolerance) (run_of v.all s ++ o ∷ []) → GoesOnInPartition (lengths v.clock) v.all s h.0
      first_of [] e k stretch = absurd (let z = ap length e in omega arith)
      first_of (f ∷ fs) e k stretch =
          let begun : run_of v.all s ≡ f ∷ take (s.past - s.first - 1) fs = ap (λ (n : ℕ). take n (drop s.first v.all)) counts ∙ ap (take (suc (s.past - s.first - 1))) e in
          let parts = subst (λ (xs : List Sight). AllByRecursion (λ x. partition_at (lengths v.clock) x.tick ≡ stretch.partition.0) (xs ++ o ∷ [])) begun stretch.partition.1 in
          let last = (all_back (λ x. partition_at (lengths v.clock) x.tick ≡ stretch.partition.0) (take (s.past - s.first - 1) fs) (o ∷ []) parts.1).0 in
          (f, at_drop v.all s.first f fs e, ap (λ (x : Sight). partition_at (lengths v.clock) x.tick) (sym same) ∙ last ∙ sym parts.0)
        where
          counts : s.past - s.first ≡ suc (s.past - s.first - 1)
          counts = omega arith
  followed s (Bent a b c d) some within h (o ∷ rest) e = λ stretch. bends h stretch
    where
      same : (next : Sight) → IsAt v.all s.past next → o ≡ next
      same next at = same_Some o next (sym (at_drop v.all s.past o rest e) ∙ at)

      bends : IsStop (lengths v.clock) (pos v.tolerance) v.all s (Bent a b c d) → IsStretch (lengths v.clock) (pos v.tolerance) (run_of v.all s ++ o ∷ []) → ⊥
      bends w stretch = w.3.8.bent (subst (λ (x : Sight). IsStraight (pos v.tolerance) (run_of v.all s ++ x ∷ [])) (same w.0 w.1) stretch.straight)

  pub record Covers (first : ℕ) (stretches : List Stretch) : Type 0 where
    pub cover : IsCover (lengths v.clock) (pos v.tolerance) (drop first v.all) (runs stretches)
    pub longest : AreLongest (lengths v.clock) (pos v.tolerance) (runs stretches)
    pub stops : AllByRecursion (λ s. IsStop (lengths v.clock) (pos v.tolerance) v.all s s.stop) stretches

  covers : (first : ℕ) (stretches : List Stretch) → AreLongestFrom v first stretches (length v.all) → Covers first stretches
  covers first [] h = record { cover = record { joined = sym (drop_all first v.all (omega arith)); each = tt }; longest = tt; stops = tt }
  covers first (s ∷ stretches) h =
      let rest = covers s.past stretches h.1 in
      let all : run_of v.all s ++ joined (runs stretches) ≡ drop first v.all =
      ap (λ (xs : List Sight). run_of v.all s ++ xs) (rest.cover.joined ∙ after s h.0.begins (let a = h.0.some in omega arith))
      ∙ take-append-drop (s.past - s.first) (drop s.first v.all) ∙ ap (λ (n : ℕ). drop n v.all) h.0.begins in
      record {
        cover = record { joined = all; each = (h.0.stretch, rest.cover.each) };
        longest = (followed s s.stop (let a = h.0.some in let b = h.0.begins in omega arith) h.0.within h.0.stops (joined (runs stretches)) (sym rest.cover.joined), rest.longest);
        stops = (h.0.stops, rest.stops);
      }
    where
      after : (s : Stretch) → s.first ≡ first → first ≤ s.past → drop s.past v.all ≡ drop (s.past - s.first) (drop s.first v.all)
      after s e k = ap (λ (n : ℕ). drop n v.all) counts ∙ sym (drop-drop (s.past - s.first) s.first v.all)
        where
          counts : s.past ≡ s.first + (s.past - s.first)
          counts = omega arith

  pub are_least : (stretches : List Stretch) → AreLongestFrom v 0 stretches (length v.all) → AreLeast (lengths v.clock) (pos v.tolerance) v.all stretches
  are_least stretches h =
      let c = covers 0 stretches h in
      record {
        shortest = record {
          cover = c.cover;
          least = λ other k. longest_is_shortest (lengths v.clock) (pos v.tolerance) v.all (runs stretches) other c.cover c.longest k;
        };
        stops = c.stops;
      }
