-- What is asked for by one call after another.
use Rattle.std.proofs.Common.{ℕ, List, [], ◌∷◌, ◌++◌, Option, Some, None, refl, sym, ap, ◌∙◌, append_assoc, append-nil, inl, inr}
use Rattle.sk_edge.specs.Asked.{Asks, IsPart, AsksAmong}

pub Asks-none : (a : Option (List (List ℕ))) → Asks a a []
Asks-none None = tt
Asks-none (Some x) = sym (append-nil x)

pub Asks-then : (a b c : Option (List (List ℕ))) (xs ys : List (List ℕ)) → Asks a b xs → Asks b c ys → Asks a c (xs ++ ys)
Asks-then (Some x) (Some y) (Some z) xs ys p q = q ∙ ap (λ l. l ++ ys) p ∙ append_assoc x xs ys
Asks-then (Some x) None (Some z) xs ys p q = absurd q
Asks-then None (Some y) (Some z) xs ys p q = absurd p
Asks-then None None (Some z) xs ys p q = absurd q
Asks-then a b None xs ys p q = tt

-- the last call asks for nothing
pub Asks-kept : (a b c : Option (List (List ℕ))) (xs : List (List ℕ)) → Asks a b xs → Asks b c [] → Asks a c xs
Asks-kept (Some x) (Some y) (Some z) xs p q = q ∙ append-nil y ∙ p
Asks-kept (Some x) None (Some z) xs p q = absurd q
Asks-kept None (Some y) (Some z) xs p q = absurd p
Asks-kept None None (Some z) xs p q = absurd q
Asks-kept a b None xs p q = tt

-- ---- parts of lists

pub part_all : {A : Type 0} (xs : List A) → IsPart xs xs
part_all [] = tt
part_all (x ∷ xs) = inl (refl, part_all xs)

pub part_behind : {A : Type 0} (front xs ys : List A) → IsPart xs ys → IsPart xs (front ++ ys)
part_behind [] xs ys p = p
part_behind (z ∷ zs) [] ys p = tt
part_behind (z ∷ zs) (x ∷ xs) ys p = inr (part_behind zs (x ∷ xs) ys p)

pub part_front : {A : Type 0} (xs ys more : List A) → IsPart xs ys → IsPart xs (ys ++ more)
part_front [] ys more p = tt
part_front (x ∷ xs) [] more p = absurd p
part_front (x ∷ xs) (y ∷ ys) more (inl p) = inl (p.0, part_front xs ys more p.1)
part_front (x ∷ xs) (y ∷ ys) more (inr p) = inr (part_front (x ∷ xs) ys more p)

pub part_append : {A : Type 0} (xs ys us vs : List A) → IsPart xs ys → IsPart us vs → IsPart (xs ++ us) (ys ++ vs)
part_append [] ys us vs p q = part_behind ys us vs q
part_append (x ∷ xs) [] us vs p q = absurd p
part_append (x ∷ xs) (y ∷ ys) us vs (inl p) q = inl (p.0, part_append xs ys us vs p.1 q)
part_append (x ∷ xs) (y ∷ ys) us vs (inr p) q = inr (part_append (x ∷ xs) ys us vs p q)

pub part_trans : {A : Type 0} (xs ys zs : List A) → IsPart xs ys → IsPart ys zs → IsPart xs zs
part_trans [] ys zs p q = tt
part_trans (x ∷ xs) [] zs p q = absurd p
part_trans (x ∷ xs) (y ∷ ys) [] p q = absurd q
part_trans (x ∷ xs) (y ∷ ys) (z ∷ zs) (inl p) (inl q) = inl (p.0 ∙ q.0, part_trans xs ys zs p.1 q.1)
part_trans (x ∷ xs) (y ∷ ys) (z ∷ zs) (inr p) (inl q) = inr (part_trans (x ∷ xs) ys zs p q.1)
part_trans (x ∷ xs) (y ∷ ys) (z ∷ zs) p (inr q) = inr (part_trans (x ∷ xs) (y ∷ ys) zs p q)

-- ---- what is asked for among some names

pub among_all : (a b : Option (List (List ℕ))) (names : List (List ℕ)) → Asks a b names → AsksAmong a b names
among_all a b names p = (names, p, part_all names)

pub among_then : (a b c : Option (List (List ℕ))) (first next : List (List ℕ)) → AsksAmong a b first → AsksAmong b c next → AsksAmong a c (first ++ next)
among_then a b c first next p q = (p.0 ++ q.0, Asks-then a b c p.0 q.0 p.1 q.1, part_append p.0 first q.0 next p.2 q.2)

pub among_front : (a b : Option (List (List ℕ))) (names more : List (List ℕ)) → AsksAmong a b names → AsksAmong a b (names ++ more)
among_front a b names more p = (p.0, p.1, part_front p.0 names more p.2)

pub among_part : (a b : Option (List (List ℕ))) (names all : List (List ℕ)) → AsksAmong a b names → IsPart names all → AsksAmong a b all
among_part a b names all p q = (p.0, p.1, part_trans p.0 names all p.2 q)
