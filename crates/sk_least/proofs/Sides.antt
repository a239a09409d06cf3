-- The hull from its front and from its back.
use Rattle.std.proofs.Common.{◌≡◌, ◌⊎◌, ℕ, zero, suc, ◌+◌, ◌-◌, ◌<◌, ◌≤◌, List, [], ◌∷◌, ◌++◌, length, take, drop, get_or, refl, sym, ap, subst, inl, inr, arith, ◌∙◌, append_assoc}
use Rattle.std.proofs.lemmas.List.{drop_more, take_more, take-append-drop, drop_all, length-drop}
use Rattle.std.specs.List.{AllByRecursion}
use Rattle.sk_publishing.specs.Terms.{Sight}
use Rattle.sk_line.proofs.Lists.{all_front, all_back, all_append, all_map, all_both, heads, tails}
use Rattle.sk_least.specs.Hull.{IsEarlier, EachPair, IsLessSteep, IsNoSteeper, GivesWay, HasOver, IsConvex, AreClimbed, IsSteepestAt, AreHidden}
use Rattle.sk_least.proofs.Turns.{no_steeper_through, less_is_no_steeper, way_no_steeper, way_through, climb, hidden_by, over_left, over_right, over_through, falls_from, convex_push, convex_front, convex_back, TurnsLast, turns_last, pairs_back}

abbrev Before : ℕ → Sight → Type 0
Before tick x = x.tick < tick

-- ---- from the front

-- those before this place give way to the one in it
pub record IsClimbedTo (w : ℕ) (hull : List Sight) (next : Sight) (place : ℕ) : Type 0 where
  pub top : Sight
  pub rest : List Sight
  pub here : drop place hull ≡ top ∷ rest
  pub climbed : AreClimbed w next (take place hull) top rest

climb_more : (w : ℕ) (next : Sight) (gone : List Sight) (a b : Sight) (rest : List Sight) → a.tick < b.tick → b.tick < next.tick → AllByRecursion (Before next.tick) gone
    → IsLessSteep w a next b next → AreClimbed w next gone a (b ∷ rest) → AreClimbed w next (gone ++ a ∷ []) b rest
climb_more w next gone a b rest i j k h c = record {
  first = all_append _ gone (a ∷ []) (all_map _ _ (λ x t. way_through w next x a b t.0 (omega arith) j t.1 (inl h)) gone (all_both _ _ gone k c.first)) (inl h, tt);
  later = all_append _ gone (a ∷ []) (all_map _ _ (λ x t p after. still x p t.0 after (t.1 p after)) gone (all_both _ _ gone k c.later)) ((λ p after. own p after), tt);
}
  where
    own : (p : Sight) → next.tick < p.tick → IsNoSteeper w a p b next ⊎ HasOver w p a (b ∷ rest)
    own p after = elim (climb w a b next p i j after h) [ inl le ↦ inl le | inr way ↦ inr (inl way) ]

    still : (x p : Sight) → x.tick < next.tick → next.tick < p.tick → IsNoSteeper w x p a next ⊎ HasOver w p x (a ∷ b ∷ rest) → IsNoSteeper w x p b next ⊎ HasOver w p x (b ∷ rest)
    still x p before after (inl le) = inl (no_steeper_through w x p a next b next (omega arith) le (less_is_no_steeper w a next b next h))
    still x p before after (inr (inl way)) = elim (climb w a b next p i j after h) [
      | inl le ↦ inl (no_steeper_through w x p a p b next (omega arith) (way_no_steeper w p x a way) le)
      | inr on ↦ inr (inl (way_through w p x a b (omega arith) (omega arith) (omega arith) way on))
    ]
    still x p before after (inr (inr over)) = inr over

pub climb_begun : (w : ℕ) (hull : List Sight) (next : Sight) → 0 < length hull → IsClimbedTo w hull next 0
climb_begun w [] next h = absurd (omega arith)
climb_begun w (x ∷ xs) next h = record { top = x; rest = xs; here = refl; climbed = record { first = tt; later = tt } }

-- the list from a place on
from_place : (hull : List Sight) (place : ℕ) (a : Sight) → place < length hull → a ≡ get_or hull place a → drop place hull ≡ a ∷ drop (place + 1) hull
from_place hull place a h e = drop_more hull place a h ∙ ap (λ (x : Sight). x ∷ drop (place + 1) hull) (sym e)

up_to_place : (hull : List Sight) (place : ℕ) (a : Sight) → place < length hull → a ≡ get_or hull place a → take (place + 1) hull ≡ take place hull ++ a ∷ []
up_to_place hull place a h e = take_more hull place a h ∙ ap (λ (x : Sight). take place hull ++ x ∷ []) (sym e)

pub all_after : (P : Sight → Type 0) (n : ℕ) (xs : List Sight) → AllByRecursion P xs → AllByRecursion P (drop n xs)
all_after P n xs h = all_back P (take n xs) (drop n xs) (subst (AllByRecursion P) (sym (take-append-drop n xs)) h)

all_until : (P : Sight → Type 0) (n : ℕ) (xs : List Sight) → AllByRecursion P xs → AllByRecursion P (take n xs)
all_until P n xs h = all_front P (take n xs) (drop n xs) (subst (AllByRecursion P) (sym (take-append-drop n xs)) h)

pub pairs_after : (R : Sight → Sight → Type 0) (n : ℕ) (xs : List Sight) → EachPair R xs → EachPair R (drop n xs)
pairs_after R n xs h = pairs_back R (take n xs) (drop n xs) (subst (EachPair R) (sym (take-append-drop n xs)) h)

pub climb_on : (w : ℕ) (hull : List Sight) (next : Sight) (place : ℕ) (a b : Sight) → place + 1 < length hull → a ≡ get_or hull place a → b ≡ get_or hull (place + 1) b
    → EachPair IsEarlier hull → AllByRecursion (λ x. x.tick < next.tick) hull → IsLessSteep w a next b next
    → IsClimbedTo w hull next place → IsClimbedTo w hull next (place + 1)
climb_on w hull next place a b h e f rising before less c =
    let two : drop place hull ≡ a ∷ b ∷ drop (place + 1 + 1) hull = from_place hull place a (omega arith) e ∙ ap (λ (xs : List Sight). a ∷ xs) (from_place hull (place + 1) b h f) in
    let ordered = subst (EachPair IsEarlier) two (pairs_after IsEarlier place hull rising) in
    let early = subst (AllByRecursion (λ x. x.tick < next.tick)) two (all_after (λ x. x.tick < next.tick) place hull before) in
    let same : c.top ∷ c.rest ≡ a ∷ b ∷ drop (place + 1 + 1) hull = sym c.here ∙ two in
    let now : AreClimbed w next (take place hull) a (b ∷ drop (place + 1 + 1) hull) =
    subst (λ (x : Sight). AreClimbed w next (take place hull) x (b ∷ drop (place + 1 + 1) hull)) (heads _ _ _ _ same)
    (subst (λ (xs : List Sight). AreClimbed w next (take place hull) c.top xs) (tails _ _ _ _ same) c.climbed) in
    record {
      top = b;
      rest = drop (place + 1 + 1) hull;
      here = from_place hull (place + 1) b h f;
      climbed = subst (λ (xs : List Sight). AreClimbed w next xs b (drop (place + 1 + 1) hull)) (sym (up_to_place hull place a (omega arith) e))
          (climb_more w next (take place hull) a b (drop (place + 1 + 1) hull) (ordered.0.0).tick early.1.0
          (all_until (λ x. x.tick < next.tick) place hull before) less now);
    }

pub climbed_all : (w : ℕ) (hull : List Sight) (next : Sight) (place : ℕ) → length hull ≤ place + 1 → IsClimbedTo w hull next place → IsSteepestAt w hull next place
climbed_all w hull next place h c = record {
  top = c.top;
  rest = c.rest;
  here = c.here;
  climbed = c.climbed;
  others = none c.rest (shorter c.rest (ap length c.here));
}
  where
    shorter : (xs : List Sight) → length (drop place hull) ≡ suc (length xs) → length xs ≡ 0
    shorter xs e = omega (arith, length-drop place hull)

    none : (xs : List Sight) → length xs ≡ 0 → AllByRecursion (λ x. GivesWay w next x c.top) xs
    none [] e = tt
    none (x ∷ xs) e = absurd (omega arith)

pub climbed_to_top : (w : ℕ) (hull : List Sight) (next : Sight) (place : ℕ) (a b : Sight) → place + 1 < length hull → a ≡ get_or hull place a → b ≡ get_or hull (place + 1) b
    → EachPair IsEarlier hull → IsConvex hull → AllByRecursion (λ x. x.tick < next.tick) hull → IsNoSteeper w b next a next
    → IsClimbedTo w hull next place → IsSteepestAt w hull next place
climbed_to_top w hull next place a b h e f rising convex before never c =
    let two : drop place hull ≡ a ∷ b ∷ drop (place + 1 + 1) hull = from_place hull place a (omega arith) e ∙ ap (λ (xs : List Sight). a ∷ xs) (from_place hull (place + 1) b h f) in
    let ordered = subst (EachPair IsEarlier) two (pairs_after IsEarlier place hull rising) in
    let early = subst (AllByRecursion (λ x. x.tick < next.tick)) two (all_after (λ x. x.tick < next.tick) place hull before) in
    let bent = subst IsConvex two (convex_back (take place hull) (drop place hull) (subst IsConvex (sym (take-append-drop place hull)) convex)) in
    let same : c.top ∷ c.rest ≡ a ∷ b ∷ drop (place + 1 + 1) hull = sym c.here ∙ two in
    let falls = falls_from w next a b (drop (place + 1 + 1) hull) bent ordered early never in
    let ways : AllByRecursion (λ x. GivesWay w next x a) (b ∷ drop (place + 1 + 1) hull) =
    all_map (λ x. IsNoSteeper w x next a next × IsEarlier a x) _ (λ x t. inr (t.0, (let u = t.1.place in omega arith))) (b ∷ drop (place + 1 + 1) hull) (all_both _ _ (b ∷ drop (place + 1 + 1) hull) falls ordered.0) in
    record {
      top = c.top;
      rest = c.rest;
      here = c.here;
      climbed = c.climbed;
      others = subst (λ (x : Sight). AllByRecursion (λ y. GivesWay w next y x) c.rest) (sym (heads _ _ _ _ same))
          (subst (AllByRecursion (λ y. GivesWay w next y a)) (sym (tails _ _ _ _ same)) ways);
    }

-- ---- from the back

pub over_split : (w : ℕ) (p a : Sight) (xs ys : List Sight) → HasOver w p a (xs ++ ys) → HasOver w p a xs ⊎ HasOver w p a ys
over_split w p a [] ys h = inr h
over_split w p a (x ∷ xs) ys (inl h) = inl (inl h)
over_split w p a (x ∷ xs) ys (inr h) = elim (over_split w p a xs ys h) [ inl u ↦ inl (inr u) | inr v ↦ inr v ]

-- seen from later ones it gives way to one of these or to the next
abbrev Hidden : Sight → List Sight → ℕ → Sight → Type 0
Hidden next xs w x = (p : Sight) → next.tick < p.tick → HasOver w p x (xs ++ next ∷ [])

pub hidden_begun : (hull : List Sight) (next : Sight) → 0 < length hull → AreHidden hull next (length hull)
hidden_begun hull next h = record {
  some = h;
  within = omega arith;
  hidden = λ w. subst (AllByRecursion (λ x. (p : Sight) → next.tick < p.tick → HasOver w p x (take (length hull) hull ++ next ∷ []))) (sym (drop_all (length hull) hull (omega arith))) tt;
}

pub hidden_on : (hull : List Sight) (next : Sight) (count : ℕ) (a b : Sight) → count + 2 ≤ length hull → a ≡ get_or hull count a → b ≡ get_or hull (count + 1) b
    → EachPair IsEarlier hull → AllByRecursion (λ x. x.tick < next.tick) hull → IsNoSteeper 0 b next a b
    → AreHidden hull next (count + 2) → AreHidden hull next (count + 1)
hidden_on hull next count a b h e f rising before flat c =
    let two : drop count hull ≡ a ∷ b ∷ drop (count + 1 + 1) hull = from_place hull count a (omega arith) e ∙ ap (λ (xs : List Sight). a ∷ xs) (from_place hull (count + 1) b (omega arith) f) in
    let ordered = subst (EachPair IsEarlier) two (pairs_after IsEarlier count hull rising) in
    let early = subst (AllByRecursion (λ x. x.tick < next.tick)) two (all_after (λ x. x.tick < next.tick) count hull before) in
    let kept = all_until (λ x. x.tick < next.tick) (count + 1) hull before in
    let taken : take (count + 1) hull ≡ take count hull ++ a ∷ [] = up_to_place hull count a (omega arith) e in
    let more : take (count + 1 + 1) hull ≡ take (count + 1) hull ++ b ∷ [] = up_to_place hull (count + 1) b (omega arith) f in
    let same : count + 2 ≡ count + 1 + 1 = omega arith in
    record {
      some = omega arith;
      within = omega arith;
      hidden = λ w. subst (AllByRecursion (Hidden next (take (count + 1) hull) w)) (sym (from_place hull (count + 1) b (omega arith) f)) (
        own w taken early.1.0 (ordered.0.0),
        all_map (λ x. x.tick < next.tick × ((p : Sight) → next.tick < p.tick → HasOver w p x (take (count + 1 + 1) hull ++ next ∷ []))) (Hidden next (take (count + 1) hull) w)
            (λ x t p after. moved w x p more (own w taken early.1.0 (ordered.0.0) p after) (let u = t.0 in omega arith) (let u = early.1.0 in omega arith) after kept (t.1 p after)) (drop (count + 1 + 1) hull)
            (all_both _ _ (drop (count + 1 + 1) hull) early.1.1 (subst (λ (n : ℕ). AllByRecursion (λ x. (p : Sight) → next.tick < p.tick → HasOver w p x (take n hull ++ next ∷ [])) (drop n hull)) same (c.hidden w))),
      );
    }
  where
    own : (w : ℕ) → take (count + 1) hull ≡ take count hull ++ a ∷ [] → b.tick < next.tick → IsEarlier a b → Hidden next (take (count + 1) hull) w b
    own w taken early earlier p after = elim (hidden_by w a b next p earlier early after flat) [
      | inl way ↦ over_left w p b (take (count + 1) hull) (next ∷ []) (subst (HasOver w p b) (sym taken) (over_right w p b (take count hull) (a ∷ []) (inl way)))
      | inr way ↦ over_right w p b (take (count + 1) hull) (next ∷ []) (inl way)
    ]

    moved : (w : ℕ) (x p : Sight) → take (count + 1 + 1) hull ≡ take (count + 1) hull ++ b ∷ [] → HasOver w p b (take (count + 1) hull ++ next ∷ []) → x.tick < p.tick → b.tick < p.tick → next.tick < p.tick
        → AllByRecursion (λ x. x.tick < next.tick) (take (count + 1) hull) → HasOver w p x (take (count + 1 + 1) hull ++ next ∷ []) → HasOver w p x (take (count + 1) hull ++ next ∷ [])
    moved w x p more over i j after kept h = elim (over_split w p x (take (count + 1 + 1) hull) (next ∷ []) h) [
      | inr last ↦ over_right w p x (take (count + 1) hull) (next ∷ []) last
      | inl front ↦ elim (over_split w p x (take (count + 1) hull) (b ∷ []) (subst (HasOver w p x) more front)) [
        | inl left ↦ over_left w p x (take (count + 1) hull) (next ∷ []) left
        | inr (inl way) ↦ over_through w p x b (take (count + 1) hull ++ next ∷ []) i j
            (all_append (λ y. y.tick < p.tick) (take (count + 1) hull) (next ∷ []) (all_map (λ y. y.tick < next.tick) (λ y. y.tick < p.tick) (λ y u. (let v = u in omega arith)) (take (count + 1) hull) kept) (after, tt)) way over
        | inr (inr none) ↦ absurd none
      ]
    ]

pub convex_one : (hull : List Sight) (next : Sight) (count : ℕ) → count ≤ 1 → IsConvex hull → IsConvex (take count hull ++ next ∷ [])
convex_one hull next zero h c = tt
convex_one [] next (suc n) h c = tt
convex_one (x ∷ xs) next (suc zero) h c = tt
convex_one (x ∷ xs) next (suc (suc n)) h c = absurd (omega arith)

pub convex_turned : (hull : List Sight) (next : Sight) (count : ℕ) (a b : Sight) → count + 2 ≤ length hull → a ≡ get_or hull count a → b ≡ get_or hull (count + 1) b
    → IsConvex hull → IsLessSteep 0 a b b next → IsConvex (take (count + 2) hull ++ next ∷ [])
convex_turned hull next count a b h e f c turn =
    let taken : take (count + 1) hull ≡ take count hull ++ a ∷ [] = up_to_place hull count a (omega arith) e in
    let more : take (count + 1 + 1) hull ≡ take (count + 1) hull ++ b ∷ [] = up_to_place hull (count + 1) b (omega arith) f in
    let same : count + 1 + 1 ≡ count + 2 = omega arith in
    let all : take (count + 2) hull ≡ take count hull ++ a ∷ b ∷ [] =
    ap (λ (n : ℕ). take n hull) (sym same) ∙ more ∙ ap (λ (xs : List Sight). xs ++ b ∷ []) taken ∙ append_assoc (take count hull) (a ∷ []) (b ∷ []) in
    convex_push (take (count + 2) hull) next (front (count + 2)) (subst (λ (xs : List Sight). TurnsLast xs next) (sym all) (turns_last (take count hull) a b next turn))
  where
    front : (n : ℕ) → IsConvex (take n hull)
    front n = convex_front (take n hull) (drop n hull) (subst IsConvex (sym (take-append-drop n hull)) c)

-- the same, counted down
pub hidden_down : (hull : List Sight) (next : Sight) (count : ℕ) (a b : Sight) → 2 ≤ count → a ≡ get_or hull (count - 2) a → b ≡ get_or hull (count - 1) b
    → EachPair IsEarlier hull → AllByRecursion (λ x. x.tick < next.tick) hull → IsNoSteeper 0 b next a b → AreHidden hull next count → AreHidden hull next (count - 1)
hidden_down hull next count a b h e f rising before flat c =
    let two : count ≡ count - 2 + 2 = omega arith in
    let one : count - 1 ≡ count - 2 + 1 = omega arith in
    subst (AreHidden hull next) (sym one) (hidden_on hull next (count - 2) a b (let w = c.within in omega arith) e (subst (λ (n : ℕ). b ≡ get_or hull n b) one f) rising before flat
    (subst (AreHidden hull next) two c))

pub convex_kept : (hull : List Sight) (next : Sight) (count : ℕ) (a b : Sight) → 2 ≤ count → count ≤ length hull → a ≡ get_or hull (count - 2) a → b ≡ get_or hull (count - 1) b
    → IsConvex hull → IsLessSteep 0 a b b next → IsConvex (take count hull ++ next ∷ [])
convex_kept hull next count a b h w e f convex turn =
    let two : count ≡ count - 2 + 2 = omega arith in
    let one : count - 1 ≡ count - 2 + 1 = omega arith in
    subst (λ (n : ℕ). IsConvex (take n hull ++ next ∷ [])) (sym two) (convex_turned hull next (count - 2) a b (omega arith) e (subst (λ (n : ℕ). b ≡ get_or hull n b) one f) convex turn)

pub convex_after : (n : ℕ) (xs : List Sight) → IsConvex xs → IsConvex (drop n xs)
convex_after n xs c = convex_back (take n xs) (drop n xs) (subst IsConvex (sym (take-append-drop n xs)) c)

pub edge_rises : (hull : List Sight) (count : ℕ) (a b : Sight) → 2 ≤ count → count ≤ length hull → a ≡ get_or hull (count - 2) a → b ≡ get_or hull (count - 1) b
    → EachPair IsEarlier hull → a.tick < b.tick
edge_rises hull count a b h w e f rising =
    let one : count - 1 ≡ count - 2 + 1 = omega arith in
    let two : drop (count - 2) hull ≡ a ∷ b ∷ drop (count - 2 + 1 + 1) hull =
    from_place hull (count - 2) a (omega arith) e ∙ ap (λ (xs : List Sight). a ∷ xs) (from_place hull (count - 2 + 1) b (omega arith) (subst (λ (n : ℕ). b ≡ get_or hull n b) one f)) in
    ((subst (EachPair IsEarlier) two (pairs_after IsEarlier (count - 2) hull rising)).0.0).tick
