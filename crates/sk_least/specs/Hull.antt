-- The lower hull of a run: the observations from which a later one can need the greatest slope.
use Rattle.std.specs.Prelude.{◌≡◌, ◌⊎◌, ℕ, ◌-◌, ◌<◌, ◌≤◌, ℤ, pos, ◌-ℤ◌, ◌*ℤ◌, ◌≤ℤ◌, ◌<ℤ◌, List, [], ◌∷◌, ◌++◌, length, take, drop, Option, Some, None}
use Rattle.std.specs.List.{AllByRecursion}
use Rattle.sk_publishing.specs.Terms.{Sight}
use Rattle.sk_least.specs.Cover.{StandsBefore, ComesFirst}
use Rattle.sk_least.specs.declared.pair.Pair.{Pair}

-- by tick and by place
pub record IsEarlier (i j : Sight) : Type 0 where
  pub tick : i.tick < j.tick
  pub place : i.place < j.place

-- R holds of each and each later one
abbrev pub EachPair : (Sight → Sight → Type 0) → List Sight → Type 0
EachPair R [] = Unit {0}
EachPair R (x ∷ xs) = AllByRecursion (R x) xs × EachPair R xs

-- the rise of a pair, less a slack
abbrev pub rise : ℕ → Sight → Sight → ℤ
rise slack i j = (j.time -ℤ i.time) -ℤ pos slack

-- slopes of pairs, each the rise over the ticks between
abbrev pub IsLessSteep : ℕ → Sight → Sight → Sight → Sight → Type 0
IsLessSteep slack i j x y = (rise slack i j *ℤ pos (y.tick - x.tick)) <ℤ (rise slack x y *ℤ pos (j.tick - i.tick))

abbrev pub IsNoSteeper : ℕ → Sight → Sight → Sight → Sight → Type 0
IsNoSteeper slack i j x y = (rise slack i j *ℤ pos (y.tick - x.tick)) ≤ℤ (rise slack x y *ℤ pos (j.tick - i.tick))

-- b is steeper than a as seen from p, or as steep and not later
abbrev pub GivesWay : ℕ → Sight → Sight → Sight → Type 0
GivesWay slack p a b = IsLessSteep slack a p b p ⊎ (IsNoSteeper slack a p b p × (b.place ≤ a.place))

-- it gives way to one of these
abbrev pub HasOver : ℕ → Sight → Sight → List Sight → Type 0
HasOver slack p a [] = ⊥
HasOver slack p a (b ∷ bs) = GivesWay slack p a b ⊎ HasOver slack p a bs

-- slopes from each to the next rise strictly
abbrev pub IsConvex : List Sight → Type 0
IsConvex [] = Unit {0}
IsConvex (a ∷ []) = Unit {0}
IsConvex (a ∷ b ∷ []) = Unit {0}
IsConvex (a ∷ b ∷ c ∷ rest) = IsLessSteep 0 a b b c × IsConvex (b ∷ c ∷ rest)

-- ---- from the front: which is the steepest as seen from the next observation

-- Those that are gone give way as seen from the next; as seen from a later one they give way, or are no steeper than the pair that was found.
pub record AreClimbed (slack : ℕ) (next : Sight) (gone : List Sight) (top : Sight) (rest : List Sight) : Type 0 where
  pub first : AllByRecursion (λ x. GivesWay slack next x top) gone
  pub later : AllByRecursion (λ x. (p : Sight) → next.tick < p.tick → IsNoSteeper slack x p top next ⊎ HasOver slack p x (top ∷ rest)) gone

-- the steepest stands in this place
pub record IsSteepestAt (slack : ℕ) (hull : List Sight) (next : Sight) (place : ℕ) : Type 0 where
  pub top : Sight
  pub rest : List Sight
  pub here : drop place hull ≡ top ∷ rest
  pub climbed : AreClimbed slack next (take place hull) top rest
  pub others : AllByRecursion (λ x. GivesWay slack next x top) rest

-- ---- from the back: which are hidden by the next observation

-- Those after count give way to one before it or to the next, as seen from any later one.
pub record AreHidden (hull : List Sight) (next : Sight) (count : ℕ) : Type 0 where
  pub some : 0 < count
  pub within : count ≤ length hull
  pub hidden : (slack : ℕ) → AllByRecursion (λ x. (p : Sight) → next.tick < p.tick → HasOver slack p x (take count hull ++ next ∷ [])) (drop count hull)

-- ---- the hull of a run

abbrev pub IsIn : List Sight → Sight → Type 0
IsIn [] o = ⊥
IsIn (x ∷ xs) o = (o ≡ x) ⊎ IsIn xs o

-- no steeper than the pair that was found
abbrev pub IsBeaten : ℕ → Option Pair → Sight → Sight → Type 0
IsBeaten slack None x p = ⊥
IsBeaten slack (Some best) x p = IsNoSteeper slack x p best.from best.to

-- the first of the steepest pairs, with its places
abbrev pub Loses : ℕ → Pair → Sight → Sight → Type 0
Loses slack best x y = IsLessSteep slack x y best.from best.to
    ⊎ (IsNoSteeper slack x y best.from best.to × ComesFirst best.from best.to x y)

abbrev pub IsBest : ℕ → List Sight → Option Pair → Type 0
IsBest slack run None = length run ≤ 1
IsBest slack run (Some best) = StandsBefore run best.from best.to × EachPair (Loses slack best) run

-- The hull holds what later observations can need, and the steepest pair is known.
pub record IsHullOf (slack : ℕ) (run hull : List Sight) (best : Option Pair) : Type 0 where
  pub rising : EachPair IsEarlier hull
  pub convex : IsConvex hull
  pub some : 0 < length hull
  pub from_run : AllByRecursion (IsIn run) hull
  pub holds : AllByRecursion (λ x. (p : Sight) → AllByRecursion (λ o. IsEarlier o p) run → IsBeaten slack best x p ⊎ HasOver slack p x hull) run
  pub is_best : IsBest slack run best

-- the one that is steeper; the earlier one of two that are as steep
abbrev pub IsSteeperOf : ℕ → Option Pair → Pair → Pair → Type 0
IsSteeperOf slack None pair steeper = steeper ≡ pair
IsSteeperOf slack (Some best) pair steeper = ((steeper ≡ pair) × IsLessSteep slack best.from best.to pair.from pair.to)
    ⊎ ((steeper ≡ best) × IsNoSteeper slack pair.from pair.to best.from best.to)

-- a hull: its points, and the steepest pair
pub record HullView : Type 0 where
  pub points : List Sight
  pub best : Option Pair
