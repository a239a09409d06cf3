-- Times of triples rise.
use Rattle.std.proofs.Common.{◌≡◌, ℕ, zero, suc, ◌<◌, ◌≤◌, true, false, List, [], ◌∷◌, length, get_or, refl, T, arith}
use Rattle.std.proofs.lemmas.Int.{ints}
use Rattle.std.proofs.lemmas.Float.{T_from_true}
use Rattle.std.specs.Prelude.{Bool, ℤ, ◌≤ℤ◌, ◌<ℤ◌, int_le}
use Rattle.std.specs.Int.Signed.{le_z_yes}
use Rattle.std.specs.List.Sorted.{IsPartitionedBy, IsPartitionPoint}
use Rattle.sk_line.specs.Triple.{TripleView}
use Rattle.sk_triples.specs.Kernel.{Rise}
use Rattle.sk_triples.proofs.Covering.{rise_tail, times_behind}
use Rattle.sk_inverse.specs.Search.{HaveBegun}

pub times_up : (ts : List TripleView) → Rise ts → (i j : ℕ) (d : TripleView) → i ≤ j → j < length ts → (get_or ts i d).anchor.time ≤ℤ (get_or ts j d).anchor.time
times_up [] rise i j d up within = absurd (omega arith)
times_up (a ∷ ts) rise zero zero d up within = same _
  where
    same : (x : ℤ) → x ≤ℤ x
    same x = omega (arith, ints)
times_up (a ∷ ts) rise zero (suc j) d up within = weaken _ _ (times_behind a ts rise j d (omega arith))
  where
    weaken : (x y : ℤ) → x <ℤ y → x ≤ℤ y
    weaken x y p = omega (arith, ints)
times_up (a ∷ ts) rise (suc i) zero d up within = absurd (omega arith)
times_up (a ∷ ts) rise (suc i) (suc j) d up within = times_up ts (rise_tail a ts rise) i j d (omega arith) (omega arith)

-- the triple begins at the time or before it
abbrev pub begins_by : ℤ → TripleView → Bool
begins_by time triple = int_le triple.anchor.time time

pub by_true : (a b : ℤ) → int_le a b ≡ true → a ≤ℤ b
by_true a b e = le_z_yes (T_from_true _ e)

pub by_false : (a b : ℤ) → int_le a b ≡ false → b <ℤ a
by_false a b e = omega (arith, ints, e)

pub true_by : (a b : ℤ) → a ≤ℤ b → int_le a b ≡ true
true_by a b p = passed (int_le a b) p.le
  where
    passed : (b : Bool) → T b → b ≡ true
    passed true t = refl
    passed false t = absurd t

pub parted : (ts : List TripleView) (time : ℤ) → Rise ts → IsPartitionedBy (begins_by time) ts
parted ts time rise i j d up within e =
    true_by _ _ (through _ _ _ (times_up ts rise i j d up within) (by_true _ _ e))
  where
    through : (x y z : ℤ) → x ≤ℤ y → y ≤ℤ z → x ≤ℤ z
    through x y z p q = omega (arith, ints)

pub have_begun : (ts : List TripleView) (time : ℤ) (number : ℕ) → number ≤ length ts
    → IsPartitionPoint (λ t. begins_by time t ≡ true) (λ t. begins_by time t ≡ false) ts number → HaveBegun ts time number
have_begun ts time number within point = record {
  within = within;
  begun = λ k d from to. by_true _ _ (point.0 k d from to);
  later = λ k d from to. by_false _ _ (point.1 k d from to);
}
