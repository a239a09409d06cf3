-- Slopes of pairs, compared by cross products.
use Rattle.std.proofs.Common.{◌≡◌, ℕ, ◌+◌, ◌<◌, sym, ap, subst, arith, ◌∙◌}
use Rattle.std.proofs.lemmas.Int.{ints, by_lt_z}
use Rattle.std.proofs.Math.Nat.{mul_comm}
use Rattle.std.specs.Prelude.{ℤ, pos, ◌+ℤ◌, ◌-ℤ◌, ◌*ℤ◌, ◌≤ℤ◌, ◌<ℤ◌}
use Rattle.sk_decimal.proofs.Signed.{add-mul, sub-mul, mul-le_right}
use Rattle.sk_line.proofs.Products.{twice}

pub le_lt_no : (a b : ℤ) → a ≤ℤ b → b <ℤ a → ⊥
le_lt_no a b p q = omega (arith, ints)

pub weaken : (a b : ℤ) → a <ℤ b → a ≤ℤ b
weaken a b p = omega (arith, ints)

through : (a b c : ℤ) → a ≤ℤ b → b ≤ℤ c → a ≤ℤ c
through a b c p q = omega (arith, ints)

lt_through : (a b c : ℤ) → a <ℤ b → b ≤ℤ c → a <ℤ c
lt_through a b c p q = omega (arith, ints)

le_through : (a b c : ℤ) → a ≤ℤ b → b <ℤ c → a <ℤ c
le_through a b c p q = omega (arith, ints)

-- ---- products

swap : (z : ℤ) (m n : ℕ) → (z *ℤ pos m) *ℤ pos n ≡ (z *ℤ pos n) *ℤ pos m
swap z m n = twice z m n ∙ ap (λ (k : ℕ). z *ℤ pos k) (mul_comm m n) ∙ sym (twice z n m)

lt-mul : (a b : ℤ) (n : ℕ) → 0 < n → a <ℤ b → (a *ℤ pos n) <ℤ (b *ℤ pos n)
lt-mul a b n h p =
    let one : (a +ℤ pos 1) ≤ℤ b = omega (arith, ints) in
    let more : ((a +ℤ pos 1) *ℤ pos n) ≤ℤ (b *ℤ pos n) = mul-le_right (a +ℤ pos 1) b n one in
    let parts : (a +ℤ pos 1) *ℤ pos n ≡ (a *ℤ pos n) +ℤ (pos 1 *ℤ pos n) = add-mul a (pos 1) n in
    let unit : pos 1 *ℤ pos n ≡ pos n = by_one n in
    step (a *ℤ pos n) (b *ℤ pos n) n h (subst (λ (x : ℤ). x ≤ℤ (b *ℤ pos n)) (parts ∙ ap (λ (x : ℤ). (a *ℤ pos n) +ℤ x) unit) more)
  where
    by_one : (n : ℕ) → pos 1 *ℤ pos n ≡ pos n
    by_one n = omega (arith, ints)

    step : (x y : ℤ) (n : ℕ) → 0 < n → (x +ℤ pos n) ≤ℤ y → x <ℤ y
    step x y n h p = omega (arith, ints)

le-cancel : (a b : ℤ) (n : ℕ) → 0 < n → (a *ℤ pos n) ≤ℤ (b *ℤ pos n) → a ≤ℤ b
le-cancel a b n h p = by_lt_z b a (λ less. absurd (le_lt_no _ _ p (lt-mul b a n h less))) (λ le. le)

lt-cancel : (a b : ℤ) (n : ℕ) → (a *ℤ pos n) <ℤ (b *ℤ pos n) → a <ℤ b
lt-cancel a b n p = by_lt_z a b (λ less. less) (λ le. absurd (le_lt_no _ _ (mul-le_right b a n le) p))

-- ---- a / m, b / n and c / k in order

pub le-le : (a b c : ℤ) (m n k : ℕ) → 0 < n → (a *ℤ pos n) ≤ℤ (b *ℤ pos m) → (b *ℤ pos k) ≤ℤ (c *ℤ pos n) → (a *ℤ pos k) ≤ℤ (c *ℤ pos m)
le-le a b c m n k h p q = le-cancel _ _ n h
    (subst (λ (x : ℤ). x ≤ℤ ((c *ℤ pos m) *ℤ pos n)) (swap a n k)
    (through _ _ _ (mul-le_right _ _ k p) (subst (λ (x : ℤ). x ≤ℤ ((c *ℤ pos m) *ℤ pos n)) (swap b k m)
    (subst (λ (x : ℤ). ((b *ℤ pos k) *ℤ pos m) ≤ℤ x) (swap c n m) (mul-le_right _ _ m q)))))

pub lt-le : (a b c : ℤ) (m n k : ℕ) → 0 < k → (a *ℤ pos n) <ℤ (b *ℤ pos m) → (b *ℤ pos k) ≤ℤ (c *ℤ pos n) → (a *ℤ pos k) <ℤ (c *ℤ pos m)
lt-le a b c m n k h p q = lt-cancel _ _ n
    (subst (λ (x : ℤ). x <ℤ ((c *ℤ pos m) *ℤ pos n)) (swap a n k)
    (lt_through _ _ _ (lt-mul _ _ k h p) (subst (λ (x : ℤ). x ≤ℤ ((c *ℤ pos m) *ℤ pos n)) (swap b k m)
    (subst (λ (x : ℤ). ((b *ℤ pos k) *ℤ pos m) ≤ℤ x) (swap c n m) (mul-le_right _ _ m q)))))

pub le-lt : (a b c : ℤ) (m n k : ℕ) → 0 < m → (a *ℤ pos n) ≤ℤ (b *ℤ pos m) → (b *ℤ pos k) <ℤ (c *ℤ pos n) → (a *ℤ pos k) <ℤ (c *ℤ pos m)
le-lt a b c m n k h p q = lt-cancel _ _ n
    (subst (λ (x : ℤ). x <ℤ ((c *ℤ pos m) *ℤ pos n)) (swap a n k)
    (le_through _ _ _ (mul-le_right _ _ k p) (subst (λ (x : ℤ). x <ℤ ((c *ℤ pos m) *ℤ pos n)) (swap b k m)
    (subst (λ (x : ℤ). ((b *ℤ pos k) *ℤ pos m) <ℤ x) (swap c n m) (lt-mul _ _ m h q)))))

-- ---- three observations: far rises to the third from the first, near from the second, edge from the first to the second

pub record Parts (far near edge : ℤ) (m n d : ℕ) : Type 0 where
  pub near_over_edge : near *ℤ pos d ≡ (near *ℤ pos m) -ℤ (near *ℤ pos n)
  pub edge_over_near : edge *ℤ pos n ≡ (far *ℤ pos n) -ℤ (near *ℤ pos n)
  pub far_over_edge : far *ℤ pos d ≡ (far *ℤ pos m) -ℤ (far *ℤ pos n)
  pub edge_over_far : edge *ℤ pos m ≡ (far *ℤ pos m) -ℤ (near *ℤ pos m)

pub less-mul : (z : ℤ) (m n d : ℕ) → m ≡ n + d → z *ℤ pos d ≡ (z *ℤ pos m) -ℤ (z *ℤ pos n)
less-mul z m n d e = subst (λ (k : ℕ). z *ℤ pos d ≡ (z *ℤ pos k) -ℤ (z *ℤ pos n)) (sym e) (split z n d)
  where
    split : (z : ℤ) (n d : ℕ) → z *ℤ pos d ≡ (z *ℤ pos (n + d)) -ℤ (z *ℤ pos n)
    split z n d = omega (arith, ints)

pub parts : (far near edge : ℤ) (m n d : ℕ) → m ≡ n + d → edge ≡ far -ℤ near → Parts far near edge m n d
parts far near edge m n d e f = record {
  near_over_edge = less-mul near m n d e;
  edge_over_near = ap (λ (x : ℤ). x *ℤ pos n) f ∙ sub-mul far near n;
  far_over_edge = less-mul far m n d e;
  edge_over_far = ap (λ (x : ℤ). x *ℤ pos m) f ∙ sub-mul far near m;
}

-- x of the third from the near one, y from the far one
module _ (far near edge : ℤ) (m n d : ℕ) (w : Parts far near edge m n d) where
  pub near_to_edge : (near *ℤ pos m) ≤ℤ (far *ℤ pos n) → (near *ℤ pos d) ≤ℤ (edge *ℤ pos n)
  near_to_edge h = let a = w.near_over_edge in let b = w.edge_over_near in omega (arith, ints)

  pub edge_to_near : (near *ℤ pos d) ≤ℤ (edge *ℤ pos n) → (near *ℤ pos m) ≤ℤ (far *ℤ pos n)
  edge_to_near h = let a = w.near_over_edge in let b = w.edge_over_near in omega (arith, ints)

  -- the third lies above the edge
  pub edge_below_far : (far *ℤ pos n) <ℤ (near *ℤ pos m) → (edge *ℤ pos m) <ℤ (far *ℤ pos d)
  edge_below_far h = let a = w.far_over_edge in let b = w.edge_over_far in omega (arith, ints)

  pub far_above_edge : (edge *ℤ pos m) <ℤ (far *ℤ pos d) → (far *ℤ pos n) <ℤ (near *ℤ pos m)
  far_above_edge h = let a = w.far_over_edge in let b = w.edge_over_far in omega (arith, ints)

  -- the third lies below the edge
  pub far_below_edge : (far *ℤ pos d) <ℤ (edge *ℤ pos m) → (near *ℤ pos m) <ℤ (far *ℤ pos n)
  far_below_edge h = let a = w.far_over_edge in let b = w.edge_over_far in omega (arith, ints)
