-- Three observations: which of the first two is steeper as seen from a later one.
use Rattle.std.proofs.Common.{◌≡◌, ◌⊎◌, ℕ, ◌-◌, ◌<◌, List, [], ◌∷◌, ◌++◌, inl, inr, arith}
use Rattle.std.proofs.lemmas.Int.{ints, by_lt_z}
use Rattle.std.specs.Prelude.{ℤ, pos, ◌-ℤ◌, ◌*ℤ◌, ◌≤ℤ◌, ◌<ℤ◌}
use Rattle.std.specs.List.{AllByRecursion}
use Rattle.sk_publishing.specs.Terms.{Sight}
use Rattle.sk_least.specs.Hull.{IsEarlier, EachPair, rise, IsLessSteep, IsNoSteeper, GivesWay, HasOver, IsConvex}
use Rattle.sk_least.proofs.Slopes.{weaken, le-le, lt-le, le-lt, Parts, parts, near_to_edge, edge_to_near, edge_below_far, far_above_edge, far_below_edge}

-- ---- slopes of pairs in order

pub no_steeper_through : (w : ℕ) (a b c d e f : Sight) → c.tick < d.tick → IsNoSteeper w a b c d → IsNoSteeper w c d e f → IsNoSteeper w a b e f
no_steeper_through w a b c d e f h p q = le-le _ (rise w c d) _ _ (d.tick - c.tick) (f.tick - e.tick) (omega arith) p q

pub less_steep_through : (w : ℕ) (a b c d e f : Sight) → e.tick < f.tick → IsLessSteep w a b c d → IsNoSteeper w c d e f → IsLessSteep w a b e f
less_steep_through w a b c d e f h p q = lt-le _ (rise w c d) _ _ (d.tick - c.tick) (f.tick - e.tick) (omega arith) p q

pub no_steeper_less : (w : ℕ) (a b c d e f : Sight) → a.tick < b.tick → IsNoSteeper w a b c d → IsLessSteep w c d e f → IsLessSteep w a b e f
no_steeper_less w a b c d e f h p q = le-lt _ (rise w c d) _ (b.tick - a.tick) (d.tick - c.tick) (f.tick - e.tick) (omega arith) p q

pub less_is_no_steeper : (w : ℕ) (a b c d : Sight) → IsLessSteep w a b c d → IsNoSteeper w a b c d
less_is_no_steeper w a b c d h = weaken _ _ h

pub same_steep : (w : ℕ) (a b : Sight) → IsNoSteeper w a b a b
same_steep w a b = same _
  where
    same : (z : ℤ) → z ≤ℤ z
    same z = omega (arith, ints)

-- ---- giving way

pub way_no_steeper : (w : ℕ) (p a b : Sight) → GivesWay w p a b → IsNoSteeper w a p b p
way_no_steeper w p a b (inl h) = weaken _ _ h
way_no_steeper w p a b (inr h) = h.0

pub way_same : (w : ℕ) (p a : Sight) → GivesWay w p a a
way_same w p a = inr (same_steep w a p, omega arith)

pub way_through : (w : ℕ) (p a b c : Sight) → a.tick < p.tick → b.tick < p.tick → c.tick < p.tick → GivesWay w p a b → GivesWay w p b c → GivesWay w p a c
way_through w p a b c i j k (inl h) g = inl (less_steep_through w a p b p c p k h (way_no_steeper w p b c g))
way_through w p a b c i j k (inr h) (inl g) = inl (no_steeper_less w a p b p c p i h.0 g)
way_through w p a b c i j k (inr h) (inr g) = inr (no_steeper_through w a p b p c p j h.0 g.0, (let u = h.1 in let v = g.1 in omega arith))

-- ---- the edge from a to b, and p

edge_parts : (w : ℕ) (a b p : Sight) → a.tick < b.tick → b.tick < p.tick
    → Parts (rise w a p) (rise w b p) (rise 0 a b) (p.tick - a.tick) (p.tick - b.tick) (b.tick - a.tick)
edge_parts w a b p h k = parts _ _ _ _ _ _ (omega arith) (rises a.time b.time p.time w)
  where
    rises : (x y z : ℤ) (w : ℕ) → (y -ℤ x) -ℤ pos 0 ≡ ((z -ℤ x) -ℤ pos w) -ℤ ((z -ℤ y) -ℤ pos w)
    rises x y z w = omega (arith, ints)

-- b is steeper as seen from next: as seen from later, a gives way or is no steeper than b and next
pub climb : (w : ℕ) (a b next p : Sight) → a.tick < b.tick → b.tick < next.tick → next.tick < p.tick → IsLessSteep w a next b next
    → IsNoSteeper w a p b next ⊎ GivesWay w p a b
climb w a b next p i j k h = by_lt_z (rise w b next *ℤ pos (p.tick - a.tick)) (rise w a p *ℤ pos (next.tick - b.tick))
    (λ less. inr (inl (above less)))
    (λ le. inl le)
  where
    above : (rise w b next *ℤ pos (p.tick - a.tick)) <ℤ (rise w a p *ℤ pos (next.tick - b.tick)) → IsLessSteep w a p b p
    above less =
        let here = edge_below_far _ _ _ _ _ _ (edge_parts w a b next i j) h in
        let steeper = lt-le (rise 0 a b) (rise w a next) (rise w b next) (b.tick - a.tick) (next.tick - a.tick) (next.tick - b.tick) (omega arith) here (weaken _ _ h) in
        let there = lt-le (rise 0 a b) (rise w b next) (rise w a p) (b.tick - a.tick) (next.tick - b.tick) (p.tick - a.tick) (omega arith) steeper (weaken _ _ less) in
        far_above_edge _ _ _ _ _ _ (edge_parts w a b p i (omega arith)) there

-- past a strict turn: where b is no steeper than a, c is less steep than b
pub past_turn : (w : ℕ) (a b c p : Sight) → a.tick < b.tick → b.tick < c.tick → c.tick < p.tick → IsLessSteep 0 a b b c
    → IsNoSteeper w b p a p → IsLessSteep w c p b p
past_turn w a b c p i j k turn h =
    let edge = near_to_edge _ _ _ _ _ _ (edge_parts w a b p i (omega arith)) h in
    let next = le-lt (rise w b p) (rise 0 a b) (rise 0 b c) (p.tick - b.tick) (b.tick - a.tick) (c.tick - b.tick) (omega arith) edge turn in
    far_below_edge _ _ _ _ _ _ (edge_parts w b c p j k) next

-- without a strict turn b gives way to one of the others
pub hidden_by : (w : ℕ) (a b c p : Sight) → IsEarlier a b → b.tick < c.tick → c.tick < p.tick → IsNoSteeper 0 b c a b
    → GivesWay w p b a ⊎ GivesWay w p b c
hidden_by w a b c p i j k flat = by_lt_z (rise 0 a b *ℤ pos (p.tick - b.tick)) (rise w b p *ℤ pos (b.tick - a.tick))
    (λ less. inr (inl (above less)))
    (λ le. inl (inr (edge_to_near _ _ _ _ _ _ (edge_parts w a b p i.tick (omega arith)) le, (let u = i.place in omega arith))))
  where
    above : (rise 0 a b *ℤ pos (p.tick - b.tick)) <ℤ (rise w b p *ℤ pos (b.tick - a.tick)) → IsLessSteep w b p c p
    above less =
        let up = le-lt (rise 0 b c) (rise 0 a b) (rise w b p) (c.tick - b.tick) (b.tick - a.tick) (p.tick - b.tick) (omega arith) flat less in
        far_above_edge _ _ _ _ _ _ (edge_parts w b c p j k) up

-- ---- lists that one gives way to

pub over_left : (w : ℕ) (p a : Sight) (xs ys : List Sight) → HasOver w p a xs → HasOver w p a (xs ++ ys)
over_left w p a [] ys h = absurd h
over_left w p a (x ∷ xs) ys (inl h) = inl h
over_left w p a (x ∷ xs) ys (inr h) = inr (over_left w p a xs ys h)

pub over_right : (w : ℕ) (p a : Sight) (xs ys : List Sight) → HasOver w p a ys → HasOver w p a (xs ++ ys)
over_right w p a [] ys h = h
over_right w p a (x ∷ xs) ys h = inr (over_right w p a xs ys h)

-- what holds of each that it gives way to
pub over_elim : {Goal : Type 0} (w : ℕ) (p a : Sight) (Known : Sight → Type 0) (xs : List Sight) → AllByRecursion Known xs
    → ((b : Sight) → Known b → GivesWay w p a b → Goal) → HasOver w p a xs → Goal
over_elim w p a Known [] k f h = absurd h
over_elim w p a Known (x ∷ xs) k f (inl h) = f x k.0 h
over_elim w p a Known (x ∷ xs) k f (inr h) = over_elim w p a Known xs k.1 f h

-- one that gives way to b gives way to what b gives way to
pub over_through : (w : ℕ) (p a b : Sight) (xs : List Sight) → a.tick < p.tick → b.tick < p.tick → AllByRecursion (λ x. x.tick < p.tick) xs
    → GivesWay w p a b → HasOver w p b xs → HasOver w p a xs
over_through w p a b [] i j k g h = absurd h
over_through w p a b (x ∷ xs) i j k g (inl h) = inl (way_through w p a b x i j k.0 g h)
over_through w p a b (x ∷ xs) i j k g (inr h) = inr (over_through w p a b xs i j k.1 g h)

-- ---- convex lists

-- where the second is no steeper than the first, none of the others is
pub falls_from : (w : ℕ) (p a b : Sight) (rest : List Sight) → IsConvex (a ∷ b ∷ rest) → EachPair IsEarlier (a ∷ b ∷ rest)
    → AllByRecursion (λ x. x.tick < p.tick) (a ∷ b ∷ rest) → IsNoSteeper w b p a p → AllByRecursion (λ x. IsNoSteeper w x p a p) (b ∷ rest)
falls_from w p a b [] c e k h = (h, tt)
falls_from w p a b (x ∷ rest) c e k h =
    let less = past_turn w a b x p (e.0.0).tick (e.1.0.0).tick k.1.1.0 c.0 h in
    let further = falls_from w p b x rest c.1 e.1 k.1 (weaken _ _ less) in
    (h, lower (x ∷ rest) further)
  where
    lower : (xs : List Sight) → AllByRecursion (λ x. IsNoSteeper w x p b p) xs → AllByRecursion (λ x. IsNoSteeper w x p a p) xs
    lower [] f = tt
    lower (y ∷ ys) f = (no_steeper_through w y p b p a p k.1.0 f.0 h, lower ys f.1)

-- the last turn, where there is one
abbrev pub TurnsLast : List Sight → Sight → Type 0
TurnsLast [] p = Unit {0}
TurnsLast (a ∷ []) p = Unit {0}
TurnsLast (a ∷ b ∷ []) p = IsLessSteep 0 a b b p
TurnsLast (a ∷ b ∷ c ∷ rest) p = TurnsLast (b ∷ c ∷ rest) p

pub convex_push : (xs : List Sight) (p : Sight) → IsConvex xs → TurnsLast xs p → IsConvex (xs ++ p ∷ [])
convex_push [] p c t = tt
convex_push (a ∷ []) p c t = tt
convex_push (a ∷ b ∷ []) p c t = (t, tt)
convex_push (a ∷ b ∷ x ∷ rest) p c t = (c.0, convex_push (b ∷ x ∷ rest) p c.1 t)

pub turns_last : (xs : List Sight) (a b p : Sight) → IsLessSteep 0 a b b p → TurnsLast (xs ++ a ∷ b ∷ []) p
turns_last [] a b p t = t
turns_last (x ∷ []) a b p t = t
turns_last (x ∷ y ∷ []) a b p t = t
turns_last (x ∷ y ∷ z ∷ xs) a b p t = turns_last (y ∷ z ∷ xs) a b p t

pub convex_front : (xs ys : List Sight) → IsConvex (xs ++ ys) → IsConvex xs
convex_front [] ys c = tt
convex_front (a ∷ []) ys c = tt
convex_front (a ∷ b ∷ []) ys c = tt
convex_front (a ∷ b ∷ x ∷ xs) ys c = (c.0, convex_front (b ∷ x ∷ xs) ys c.1)

pub convex_back : (xs ys : List Sight) → IsConvex (xs ++ ys) → IsConvex ys
convex_back [] ys c = c
convex_back (x ∷ xs) ys c = convex_back xs ys (convex_rest x (xs ++ ys) c)
  where
    convex_rest : (x : Sight) (xs : List Sight) → IsConvex (x ∷ xs) → IsConvex xs
    convex_rest x [] c = tt
    convex_rest x (a ∷ []) c = tt
    convex_rest x (a ∷ b ∷ rest) c = c.1

-- ---- each pair

pub pairs_front : (R : Sight → Sight → Type 0) (xs ys : List Sight) → EachPair R (xs ++ ys) → EachPair R xs
pairs_front R [] ys h = tt
pairs_front R (x ∷ xs) ys h = (front xs h.0, pairs_front R xs ys h.1)
  where
    front : (zs : List Sight) → AllByRecursion (R x) (zs ++ ys) → AllByRecursion (R x) zs
    front [] h = tt
    front (z ∷ zs) h = (h.0, front zs h.1)

pub pairs_back : (R : Sight → Sight → Type 0) (xs ys : List Sight) → EachPair R (xs ++ ys) → EachPair R ys
pairs_back R [] ys h = h
pairs_back R (x ∷ xs) ys h = pairs_back R xs ys h.1

pub pairs_push : (R : Sight → Sight → Type 0) (xs : List Sight) (p : Sight) → EachPair R xs → AllByRecursion (λ x. R x p) xs → EachPair R (xs ++ p ∷ [])
pairs_push R [] p h k = (tt, tt)
pairs_push R (x ∷ xs) p h k = (push xs h.0, pairs_push R xs p h.1 k.1)
  where
    push : (zs : List Sight) → AllByRecursion (R x) zs → AllByRecursion (R x) (zs ++ p ∷ [])
    push [] h = (k.0, tt)
    push (z ∷ zs) h = (h.0, push zs h.1)

pub pairs_map : (R S : Sight → Sight → Type 0) → ((x y : Sight) → R x y → S x y) → (xs : List Sight) → EachPair R xs → EachPair S xs
pairs_map R S f [] h = tt
pairs_map R S f (x ∷ xs) h = (each xs h.0, pairs_map R S f xs h.1)
  where
    each : (zs : List Sight) → AllByRecursion (R x) zs → AllByRecursion (S x) zs
    each [] h = tt
    each (z ∷ zs) h = (f x z h.0, each zs h.1)

pub pairs_both : (R S : Sight → Sight → Type 0) (xs : List Sight) → EachPair R xs → EachPair S xs → EachPair (λ x y. R x y × S x y) xs
pairs_both R S [] h k = tt
pairs_both R S (x ∷ xs) h k = (each xs h.0 k.0, pairs_both R S xs h.1 k.1)
  where
    each : (zs : List Sight) → AllByRecursion (R x) zs → AllByRecursion (S x) zs → AllByRecursion (λ y. R x y × S x y) zs
    each [] h k = tt
    each (z ∷ zs) h k = ((h.0, k.0), each zs h.1 k.1)
