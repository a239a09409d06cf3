-- How high values are drawn.
use Rattle.std.proofs.Common.{◌≡◌, ℕ, ◌*◌, ◌≤◌, refl, sym, subst, arith}
use Rattle.std.proofs.lemmas.Int.{ints, by_lt_z}
use Rattle.std.proofs.lemmas.Grind.{common_steps}
use Rattle.std.specs.Prelude.{ℤ, pos, neg_ℤ, ◌+ℤ◌, ◌-ℤ◌, ◌*ℤ◌, ◌≤ℤ◌, ◌<ℤ◌, ◌↔◌, IsTrue}
use Rattle.std.specs.Int.{int_min, int_max}
use Rattle.sk_decimal.proofs.Quotients.{floor_below, floor_above, floor_greatest}
use Rattle.sk_decimal.proofs.Signed.{mul-le_right}
use Rattle.sk_plot.specs.Place.{scaled, band_top, band_bottom, is_inside, rise_of}

later : (a b d : ℤ) → a ≤ℤ b → b ≤ℤ d → a ≤ℤ d
later a b d h k = omega (arith, ints)

pub scaled_up : (reach : ℕ) (a b : ℤ) → 1 ≤ reach → a ≤ℤ b → scaled reach a ≤ℤ scaled reach b
scaled_up reach a b h k =
    floor_greatest (b *ℤ pos 20000) reach (scaled reach a) (omega (arith, h))
    (later _ _ _ (floor_below (a *ℤ pos 20000) reach (omega (arith, h))) (mul-le_right a b 20000 k))

-- the axis's ends
pub scaled_end : (reach : ℕ) (v : ℤ) → 1 ≤ reach → v ≤ℤ pos reach → scaled reach v ≤ℤ pos 20000
scaled_end reach v h k =
    let room : (v *ℤ pos 20000) ≤ℤ (pos reach *ℤ pos 20000) = mul-le_right v (pos reach) 20000 k in
    let low : (scaled reach v *ℤ pos reach) ≤ℤ (v *ℤ pos 20000) = floor_below (v *ℤ pos 20000) reach (omega (arith, h)) in
    by_lt_z (pos 20000) (scaled reach v)
    (λ less. let more : (pos 20001 *ℤ pos reach) ≤ℤ (scaled reach v *ℤ pos reach) = mul-le_right (pos 20001) (scaled reach v) reach (next (scaled reach v) less) in
    absurd (apart (scaled reach v *ℤ pos reach) (v *ℤ pos 20000) room low more))
    (λ le. le)
  where
    next : (s : ℤ) → pos 20000 <ℤ s → pos 20001 ≤ℤ s
    next s p = omega (arith, ints)

    apart : (x y : ℤ) → y ≤ℤ (pos reach *ℤ pos 20000) → x ≤ℤ y → (pos 20001 *ℤ pos reach) ≤ℤ x → ⊥
    apart x y p q r = omega (arith, ints, h)

pub scaled_begin : (reach : ℕ) (v : ℤ) → 1 ≤ reach → neg_ℤ (pos reach) ≤ℤ v → neg_ℤ (pos 20000) ≤ℤ scaled reach v
scaled_begin reach v h k =
    floor_greatest (v *ℤ pos 20000) reach (neg_ℤ (pos 20000)) (omega (arith, h))
    (later _ _ _ (same reach) (mul-le_right (neg_ℤ (pos reach)) v 20000 k))
  where
    same : (n : ℕ) → (neg_ℤ (pos 20000) *ℤ pos n) ≤ℤ (neg_ℤ (pos n) *ℤ pos 20000)
    same n = omega (arith, ints)

-- ---- the parts of an axis

over : (reach tolerance : ℕ) (v : ℤ) → pos tolerance <ℤ v → pos reach <ℤ v → rise_of reach tolerance v ≡ pos 20500
unfolding rise_of
over reach tolerance v h k = grind (arith, ints)

above : (reach tolerance : ℕ) (v : ℤ) → pos tolerance <ℤ v → v ≤ℤ pos reach → rise_of reach tolerance v ≡ int_max (scaled reach v) (band_top reach tolerance +ℤ pos 1)
unfolding rise_of
above reach tolerance v h k = grind (arith, ints)

within : (reach tolerance : ℕ) (v : ℤ) → neg_ℤ (pos tolerance) ≤ℤ v → v ≤ℤ pos tolerance → rise_of reach tolerance v ≡ scaled reach v
unfolding rise_of
within reach tolerance v h k = grind (arith, ints)

below : (reach tolerance : ℕ) (v : ℤ) → v <ℤ neg_ℤ (pos tolerance) → neg_ℤ (pos reach) ≤ℤ v → rise_of reach tolerance v ≡ int_min (scaled reach v) (band_bottom reach tolerance -ℤ pos 1)
unfolding rise_of
below reach tolerance v h k = grind (arith, ints)

under : (reach tolerance : ℕ) (v : ℤ) → v <ℤ neg_ℤ (pos tolerance) → v <ℤ neg_ℤ (pos reach) → rise_of reach tolerance v ≡ neg_ℤ (pos 20500)
unfolding rise_of
under reach tolerance v h k = grind (arith, ints)

-- the part in which a value is
pub data Part (reach tolerance : ℕ) (v : ℤ) : Type 0 where
  Over : pos tolerance <ℤ v → pos reach <ℤ v → Part reach tolerance v
  Above : pos tolerance <ℤ v → v ≤ℤ pos reach → Part reach tolerance v
  Within : neg_ℤ (pos tolerance) ≤ℤ v → v ≤ℤ pos tolerance → Part reach tolerance v
  Below : v <ℤ neg_ℤ (pos tolerance) → neg_ℤ (pos reach) ≤ℤ v → Part reach tolerance v
  Under : v <ℤ neg_ℤ (pos tolerance) → v <ℤ neg_ℤ (pos reach) → Part reach tolerance v

part_of : (reach tolerance : ℕ) (v : ℤ) → Part reach tolerance v
part_of reach tolerance v =
    by_lt_z (pos tolerance) v
    (λ h. by_lt_z (pos reach) v (λ k. Over h k) (λ k. Above h k))
    (λ h. by_lt_z v (neg_ℤ (pos tolerance)) (λ k. by_lt_z v (neg_ℤ (pos reach)) (λ l. Under k l) (λ l. Below k l)) (λ k. Within k h))

-- ---- the lesser and the greater of two

min_left : (x y : ℤ) → int_min x y ≤ℤ x
min_left x y = grind (arith, ints)

min_right : (x y : ℤ) → int_min x y ≤ℤ y
min_right x y = grind (arith, ints)

max_left : (x y : ℤ) → x ≤ℤ int_max x y
max_left x y = grind (arith, ints)

max_right : (x y : ℤ) → y ≤ℤ int_max x y
max_right x y = grind (arith, ints)

min_from : (l x y : ℤ) → l ≤ℤ x → l ≤ℤ y → l ≤ℤ int_min x y
min_from l x y h k = grind (arith, ints)

max_to : (u x y : ℤ) → x ≤ℤ u → y ≤ℤ u → int_max x y ≤ℤ u
max_to u x y h k = grind (arith, ints)

as_low : (x y z : ℤ) → x ≡ y → y ≤ℤ z → x ≤ℤ z
as_low x y z e h = subst (λ (a : ℤ). a ≤ℤ z) (sym e) h

as_high : (x y z : ℤ) → x ≡ y → z ≤ℤ y → z ≤ℤ x
as_high x y z e h = subst (λ (a : ℤ). z ≤ℤ a) (sym e) h

apart : (x y : ℤ) → x ≤ℤ y → (y +ℤ pos 1) ≤ℤ x → ⊥
apart x y h k = omega (arith, ints)

next_down : (x : ℤ) → (x -ℤ pos 1) ≤ℤ x
next_down x = omega (arith, ints)

next_up : (x : ℤ) → x ≤ℤ (x +ℤ pos 1)
next_up x = omega (arith, ints)

-- ---- heights

module _ (reach tolerance : ℕ) (h : 1 ≤ reach) (k : tolerance ≤ reach) where
  abbrev T : ℤ
  T = band_top reach tolerance

  abbrev B : ℤ
  B = band_bottom reach tolerance

  top_most : T ≤ℤ pos 20000
  top_most = scaled_end reach (pos tolerance) h (omega (arith, ints, k))

  bottom_least : neg_ℤ (pos 20000) ≤ℤ B
  bottom_least = scaled_begin reach (neg_ℤ (pos tolerance)) h (omega (arith, ints, k))

  bottom_top : B ≤ℤ T
  bottom_top = scaled_up reach (neg_ℤ (pos tolerance)) (pos tolerance) h (omega (arith, ints))

  over_top : T ≤ℤ pos 20500
  over_top = later _ _ _ top_most (omega (arith, ints))

  least : (v : ℤ) → neg_ℤ (pos 20500) ≤ℤ rise_of reach tolerance v
  least v = of (part_of reach tolerance v)
    where
      low : neg_ℤ (pos 20500) ≤ℤ neg_ℤ (pos 20000)
      low = omega (arith, ints)

      below_bottom : neg_ℤ (pos 20500) ≤ℤ (B -ℤ pos 1)
      below_bottom = omega (arith, ints, bottom_least)

      of : Part reach tolerance v → neg_ℤ (pos 20500) ≤ℤ rise_of reach tolerance v
      of (Over p q) = as_high _ _ _ (over reach tolerance v p q) (omega (arith, ints))
      of (Above p q) =
          as_high _ _ _ (above reach tolerance v p q)
          (later _ _ _ low (later _ _ _ bottom_least (later _ _ _ bottom_top (later _ _ _ (next_up T) (max_right _ _)))))
      of (Within p q) =
          as_high _ _ _ (within reach tolerance v p q)
          (later _ _ _ low (later _ _ _ bottom_least (scaled_up reach (neg_ℤ (pos tolerance)) v h p)))
      of (Below p q) =
          as_high _ _ _ (below reach tolerance v p q) (min_from _ _ _ (later _ _ _ low (scaled_begin reach v h q)) below_bottom)
      of (Under p q) = as_high _ _ _ (under reach tolerance v p q) (omega (arith, ints))

  most : (v : ℤ) → rise_of reach tolerance v ≤ℤ pos 20500
  most v = of (part_of reach tolerance v)
    where
      high : pos 20000 ≤ℤ pos 20500
      high = omega (arith, ints)

      above_top : (T +ℤ pos 1) ≤ℤ pos 20500
      above_top = omega (arith, ints, top_most)

      of : Part reach tolerance v → rise_of reach tolerance v ≤ℤ pos 20500
      of (Over p q) = as_low _ _ _ (over reach tolerance v p q) (omega (arith, ints))
      of (Above p q) = as_low _ _ _ (above reach tolerance v p q) (max_to _ _ _ (later _ _ _ (scaled_end reach v h q) high) above_top)
      of (Within p q) =
          as_low _ _ _ (within reach tolerance v p q) (later _ _ _ (scaled_up reach v (pos tolerance) h q) over_top)
      of (Below p q) =
          as_low _ _ _ (below reach tolerance v p q)
          (later _ _ _ (min_right _ _) (later _ _ _ (next_down B) (later _ _ _ bottom_top over_top)))
      of (Under p q) = as_low _ _ _ (under reach tolerance v p q) (omega (arith, ints))

  ordered : (a b : ℤ) → a ≤ℤ b → Part reach tolerance a → Part reach tolerance b → rise_of reach tolerance a ≤ℤ rise_of reach tolerance b
  ordered a b l (Under p q) _ = as_low _ _ _ (under reach tolerance a p q) (least b)
  ordered a b l _ (Over m n) = as_high _ _ _ (over reach tolerance b m n) (most a)
  ordered a b l (Below p q) (Below m n) =
      as_low _ _ _ (below reach tolerance a p q) (as_high _ _ _ (below reach tolerance b m n)
      (min_from _ _ _ (later _ _ _ (min_left _ _) (scaled_up reach a b h l)) (min_right _ _)))
  ordered a b l (Below p q) (Within m n) =
      as_low _ _ _ (below reach tolerance a p q) (as_high _ _ _ (within reach tolerance b m n)
      (later _ _ _ (min_right _ _) (later _ _ _ (next_down B) (scaled_up reach (neg_ℤ (pos tolerance)) b h m))))
  ordered a b l (Below p q) (Above m n) =
      as_low _ _ _ (below reach tolerance a p q) (as_high _ _ _ (above reach tolerance b m n)
      (later _ _ _ (min_right _ _) (later _ _ _ (next_down B) (later _ _ _ bottom_top (later _ _ _ (next_up T) (max_right _ _))))))
  ordered a b l (Within p q) (Within m n) =
      as_low _ _ _ (within reach tolerance a p q) (as_high _ _ _ (within reach tolerance b m n) (scaled_up reach a b h l))
  ordered a b l (Within p q) (Above m n) =
      as_low _ _ _ (within reach tolerance a p q) (as_high _ _ _ (above reach tolerance b m n) (later _ _ _ (scaled_up reach a b h l) (max_left (scaled reach b) (T +ℤ pos 1))))
  ordered a b l (Above p q) (Above m n) =
      as_low _ _ _ (above reach tolerance a p q) (as_high _ _ _ (above reach tolerance b m n)
      (max_to (int_max (scaled reach b) (T +ℤ pos 1)) (scaled reach a) (T +ℤ pos 1) (later _ _ _ (scaled_up reach a b h l) (max_left (scaled reach b) (T +ℤ pos 1))) (max_right (scaled reach b) (T +ℤ pos 1))))
  ordered a b l (Below p q) (Under m n) = absurd (omega (arith, ints, l, q, n))
  ordered a b l (Within p q) (Under m n) = absurd (omega (arith, ints, l, p, m))
  ordered a b l (Within p q) (Below m n) = absurd (omega (arith, ints, l, p, m))
  ordered a b l (Above p q) (Under m n) = absurd (omega (arith, ints, l, p, m))
  ordered a b l (Above p q) (Below m n) = absurd (omega (arith, ints, l, p, m))
  ordered a b l (Above p q) (Within m n) = absurd (omega (arith, ints, l, p, n))
  ordered a b l (Over p q) (Under m n) = absurd (omega (arith, ints, l, p, m))
  ordered a b l (Over p q) (Below m n) = absurd (omega (arith, ints, l, p, m))
  ordered a b l (Over p q) (Within m n) = absurd (omega (arith, ints, l, p, n))
  ordered a b l (Over p q) (Above m n) = absurd (omega (arith, ints, l, q, n))

  inside_parts : (v : ℤ) → IsTrue (is_inside tolerance v) → (neg_ℤ (pos tolerance) ≤ℤ v) × (v ≤ℤ pos tolerance)
  inside_parts v t = (grind (arith, ints, common_steps, t), grind (arith, ints, common_steps, t))

  inside_from : (v : ℤ) → neg_ℤ (pos tolerance) ≤ℤ v → v ≤ℤ pos tolerance → IsTrue (is_inside tolerance v)
  inside_from v p q = grind (arith, ints, common_steps)

  in_band : (v : ℤ) → IsTrue (is_inside tolerance v) → (B ≤ℤ rise_of reach tolerance v) × (rise_of reach tolerance v ≤ℤ T)
  in_band v t =
      let parts = inside_parts v t in
      let is = within reach tolerance v parts.0 parts.1 in (
        as_high _ _ _ is (scaled_up reach (neg_ℤ (pos tolerance)) v h parts.0),
        as_low _ _ _ is (scaled_up reach v (pos tolerance) h parts.1),
      )

  from_band : (v : ℤ) → (B ≤ℤ rise_of reach tolerance v) → (rise_of reach tolerance v ≤ℤ T) → Part reach tolerance v → IsTrue (is_inside tolerance v)
  from_band v low high (Within p q) = inside_from v p q
  from_band v low high (Over p q) = absurd (past (subst (λ (r : ℤ). r ≤ℤ T) (over reach tolerance v p q) high))
    where
      past : pos 20500 ≤ℤ T → ⊥
      past e = omega (arith, ints, e, top_most)
  from_band v low high (Above p q) = absurd (apart _ _ (subst (λ (r : ℤ). r ≤ℤ T) (above reach tolerance v p q) high) (max_right _ _))
  from_band v low high (Below p q) = absurd (past (later _ _ _ (subst (λ (r : ℤ). B ≤ℤ r) (below reach tolerance v p q) low) (min_right _ _)))
    where
      past : B ≤ℤ (B -ℤ pos 1) → ⊥
      past e = omega (arith, ints, e)
  from_band v low high (Under p q) = absurd (past (subst (λ (r : ℤ). B ≤ℤ r) (under reach tolerance v p q) low))
    where
      past : B ≤ℤ neg_ℤ (pos 20500) → ⊥
      past e = omega (arith, ints, e, bottom_least)

pub never_lower : (reach tolerance : ℕ) (a b : ℤ) → 1 ≤ reach → tolerance ≤ reach → a ≤ℤ b → rise_of reach tolerance a ≤ℤ rise_of reach tolerance b
never_lower reach tolerance a b h k l = ordered reach tolerance h k a b l (part_of reach tolerance a) (part_of reach tolerance b)

pub inside_band : (reach tolerance : ℕ) (v : ℤ) → 1 ≤ reach → tolerance ≤ reach
    → IsTrue (is_inside tolerance v) ↔ ((band_bottom reach tolerance ≤ℤ rise_of reach tolerance v) × (rise_of reach tolerance v ≤ℤ band_top reach tolerance))
inside_band reach tolerance v h k = (in_band reach tolerance h k v, λ p. from_band reach tolerance h k v p.0 p.1 (part_of reach tolerance v))
