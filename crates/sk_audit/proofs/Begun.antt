-- From the start to a publication of all observations.
use Rattle.std.proofs.Common.{◌≡◌, ℕ, suc, ◌+◌, ◌≤◌, List, [], ◌∷◌, ◌++◌, length, true, refl, sym, ap, subst, inl, inr, arith, ◌∙◌}
use Rattle.std.proofs.lemmas.List.{take_all}
use Rattle.std.proofs.lemmas.Bool.Decides.{leb_tells}
use Rattle.std.specs.List.{AllByRecursion}
use Rattle.sk_publishing.specs.Row.{RowView, AreRows}
use Rattle.sk_clock.specs.Clock.{total}
use Rattle.sk_publishing.specs.Terms.{Sight, Terms, sights, sights_from, hold_of}
use Rattle.sk_line.specs.Triple.{TripleView}
use Rattle.sk_publishing.specs.Kept.{is_new, Sorts}
use Rattle.sk_triples.specs.Kernel.{TriplesView}
use Rattle.sk_audit.specs.declared.told.End.TheVariants.{Last}
use Rattle.sk_audit.specs.declared.told.Told.{Told}
use Rattle.sk_audit.specs.declared.walking.Account.{Account}
use Rattle.sk_audit.specs.Given.{band_view}
use Rattle.sk_audit.specs.Scene.{SceneView, terms}
use Rattle.sk_audit.specs.Walking.{WalkView, IsWalk, fresh, closed_as, open_of, Tell}
use Rattle.sk_audit.specs.Walked.{IsStart, IsWalked, IsAccount, AreOldTicks, IsNewTick}
use Rattle.sk_audit.specs.Evaluated.{IsEvaluated}
use Rattle.sk_audit.proofs.Evaluating.{so_far_first}
use Rattle.sk_audit.proofs.Moves.{tell_more, tells_closed}
use Rattle.sk_audit.proofs.Observed.{news_from, sorts_olds}
use Rattle.sk_audit.proofs.News.{olds_of, news_of}
use Rattle.sk_audit.proofs.Starting.{starts}

-- all that is known before the first new observation
pub record HasBegun (triples : TriplesView) (scene : SceneView) (n : ℕ) : Type 0 where
  pub start : IsStart triples scene.clock scene.settings scene.start.old (band_view scene.start.band) scene.start.seam
  pub given : AreRows (total scene.clock) scene.rows
  pub olds : AreOldTicks scene.clock scene.start.old.anchor.ticks scene.start.seam scene.rows n
  pub new : IsNewTick scene.clock scene.start.old.anchor.ticks scene.start.seam scene.rows n
  pub within : n ≤ length scene.rows

module _ (triples : TriplesView) (scene : SceneView) (n : ℕ) (h : HasBegun triples scene n) where
  abbrev t : Terms
  t = terms scene

  abbrev rows : List RowView
  rows = scene.rows

  abbrev old : TripleView
  old = scene.start.old

  pub news : AllByRecursion (λ o. n ≤ o.place → is_new t o ≡ true) (sights rows)
  news = news_from t (total scene.clock) rows n h.given (news_of scene.settings scene.clock old scene.start.seam rows n h.start.seam h.new)

  hold_within : hold_of t ≤ total scene.clock
  hold_within = elim (leb_tells (hold_of t) (total scene.clock)) [
    | inl w ↦ w.1
    | inr w ↦ absurd ((h.start.begins rows).hold (inr (inl w.1)))
  ]

  -- nothing is built before the first new observation
  pub begun : IsWalked t rows n (fresh old scene.start.seam)
  begun = record {
    kept = [];
    dropped = [];
    sorts = sorts_olds t rows n (olds_of scene.settings scene.clock old scene.start.seam rows n h.start.seam h.olds);
    walk = subst (λ (s : ℕ). IsWalk t (sights rows) n (fresh old s) [] []) (sym h.start.seam)
        (starts scene.settings scene.clock old (sights rows) n h.start.small h.start.triple hold_within news);
  }

-- ---- all observations

length-sights : (place : ℕ) (xs : List RowView) → length (sights_from place xs) ≡ length xs
length-sights place [] = refl
length-sights place (row ∷ xs) = ap suc (length-sights (place + 1) xs)

-- what is told of all segments is told of a publication
pub told_all : (t : Terms) (rows : List RowView) (w : WalkView) (a : Account) → IsWalked t rows (length rows) w
    → a.segments.items ≡ w.closed ++ closed_as w Last ∷ [] → a.dropped.items ≡ w.dropped → IsAccount t (sights rows) a
told_all t rows w a h segments dropped = record {
  dropped = h.dropped;
  chain = h.walk.front ++ open_of w h.walk.covered ∷ [];
  publication = record {
    kept = h.kept;
    sorts = subst (λ (z : List Sight). Sorts t z h.kept h.dropped) (take_all (length rows) (sights rows) (let k = length-sights 0 rows in omega arith)) h.sorts;
    is_chain = h.walk.built.chain;
  };
  tells = subst (λ (z : List Told). Tell z (h.walk.front ++ open_of w h.walk.covered ∷ [])) (sym segments)
      (tell_more w.closed h.walk.front (closed_as w Last) (open_of w h.walk.covered) h.walk.tells (tells_closed t w h.walk.covered Last h.walk.last));
  places = dropped ∙ h.walk.places;
}

-- nothing is evaluated before the first new observation
pub evaluates : (triples : TriplesView) (scene : SceneView) (n : ℕ) → HasBegun triples scene n → IsEvaluated scene n (fresh scene.start.old scene.start.seam)
evaluates triples scene n h = record {
  walked = subst (IsWalked (terms scene) scene.rows n) (sym (so_far_first (terms scene) (fresh scene.start.old scene.start.seam) refl)) (begun triples scene n h);
  held = λ some. absurd (omega (arith, some));
  good = record { positive = h.start.triple.positive; slow = h.start.triple.slow };
  left = scene.claims;
  claimed = refl;
}
