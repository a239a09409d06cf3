-- From the start to a publication of all observations.
use Rattle.std.proofs.Common.{◌≡◌, ◌⊎◌, ℕ, suc, ◌+◌, ◌-◌, ◌<◌, ◌≤◌, List, [], ◌∷◌, length, true, refl, sym, ap, subst, inl, inr, arith, ◌++◌}
use Rattle.std.proofs.lemmas.List.{take_all}
use Rattle.std.proofs.lemmas.Bool.Decides.{leb_tells}
use Rattle.std.specs.List.{AllByRecursion}
use Rattle.sk_publishing.specs.Row.{RowView, AreRows}
use Rattle.sk_clock.specs.Clock.{total}
use Rattle.sk_publishing.specs.Terms.{Sight, Terms, sights, sights_from, hold_of}
use Rattle.sk_line.specs.Triple.{TripleView}
use Rattle.sk_publishing.specs.Chain.{new_triples}
use Rattle.sk_publishing.specs.Kept.{is_new, Sorts}
use Rattle.sk_triples.specs.Kernel.{TriplesView}
use Rattle.sk_publishing.specs.Input.{Input}
use Rattle.sk_fit.specs.declared.chain.Chain.{Chain}
use Rattle.sk_fit.specs.declared.fault.FitFault.{FitFault}
use Rattle.sk_fit.specs.declared.fault.FitFault.TheVariants.{TooMany, NoMemory}
use Rattle.sk_fit.specs.Given.{band_view, segments_of, ArePlaced}
use Rattle.sk_fit.specs.Context.{FitView, terms}
use Rattle.sk_fit.specs.State.{FittingView, IsFitting, fresh, old_number}
use Rattle.sk_fit.specs.Fitted.{IsStart, IsFitted, IsChainOf, StopsAt, AreOldTicks, IsNewTick}
use Rattle.sk_fit.specs.Causes.{Gives, Refuses, input}
use Rattle.sk_fit.proofs.Observed.{news_from, sorts_olds, count_news}
use Rattle.sk_fit.proofs.News.{olds_of, news_of}
use Rattle.sk_fit.proofs.Starting.{starts}
use Rattle.sk_fit.proofs.Refused.{stopped}
use Rattle.sk_fit.proofs.Finished.{finished, gives, built_publication, new_triples_number}

-- all that is known before the first new observation
pub record HasBegun (triples : TriplesView) (fit : FitView) (n : ℕ) : Type 0 where
  pub start : IsStart triples fit.clock fit.settings fit.start.old (band_view fit.start.band) fit.start.seam
  pub given : AreRows (total fit.clock) fit.rows
  pub olds : AreOldTicks fit.clock fit.start.old.anchor.ticks fit.start.seam fit.rows n
  pub new : IsNewTick fit.clock fit.start.old.anchor.ticks fit.start.seam fit.rows n
  pub within : n ≤ length fit.rows

pub has_begun : (triples : TriplesView) (fit given : FitView) {n : ℕ} → fit ≡ given
    → IsStart triples given.clock given.settings given.start.old (band_view given.start.band) given.start.seam → AreRows (total given.clock) given.rows
    → AreOldTicks given.clock given.start.old.anchor.ticks given.start.seam given.rows n → IsNewTick given.clock given.start.old.anchor.ticks given.start.seam given.rows n
    → n ≤ length given.rows → HasBegun triples fit n
has_begun triples fit given {n} e start rows olds new within = subst (λ (v : FitView). HasBegun triples v n) (sym e) (record {
  start = start;
  given = rows;
  olds = olds;
  new = new;
  within = within;
})

module _ (triples : TriplesView) (fit : FitView) (n : ℕ) (h : HasBegun triples fit n) where
  abbrev t : Terms
  t = terms fit

  abbrev rows : List RowView
  rows = fit.rows

  abbrev old : TripleView
  old = fit.start.old

  abbrev x : Input
  x = input triples fit.clock fit.rows fit.settings

  pub news : AllByRecursion (λ o. n ≤ o.place → is_new t o ≡ true) (sights rows)
  news = news_from t (total fit.clock) rows n h.given (news_of fit.settings fit.clock old fit.start.seam rows n h.start.seam h.new)

  hold_within : hold_of t ≤ total fit.clock
  hold_within = elim (leb_tells (hold_of t) (total fit.clock)) [
    | inl w ↦ w.1
    | inr w ↦ absurd ((h.start.begins rows).hold (inr (inl w.1)))
  ]

  counted : n ≡ old_number t (sights rows)
  counted = count_news t (total fit.clock) rows n h.given (olds_of fit.settings fit.clock old fit.start.seam rows n h.start.seam h.olds)
      (news_of fit.settings fit.clock old fit.start.seam rows n h.start.seam h.new) h.within

  -- nothing is built before the first new observation
  pub begun : IsFitted t rows n (fresh old fit.start.seam n)
  begun = record {
    kept = [];
    dropped = [];
    sorts = sorts_olds t rows n (olds_of fit.settings fit.clock old fit.start.seam rows n h.start.seam h.olds);
    fitting = subst (λ (s : ℕ). IsFitting t (sights rows) n (fresh old s n) [] []) (sym h.start.seam)
        (starts fit.settings fit.clock old (sights rows) n h.start.small h.start.triple hold_within news counted);
  }

  module _ (chain : Chain) (is : IsChainOf fit n chain) where
    abbrev f : FittingView
    f = is.built

    abbrev b : IsFitted t rows (length rows) f
    b = is.fitted

    e : chain ≡ finished n f
    e = is.finished

    length-sights : (place : ℕ) (xs : List RowView) → length (sights_from place xs) ≡ length xs
    length-sights place [] = refl
    length-sights place (row ∷ xs) = ap suc (length-sights (place + 1) xs)

    sorted : Sorts t (sights rows) b.kept b.dropped
    sorted = subst (λ (z : List Sight). Sorts t z b.kept b.dropped)
        (take_all (length rows) (sights rows) (let k = length-sights 0 rows in omega arith)) b.sorts

    number : length triples.triples + length (new_triples (segments_of (sights rows) chain)) ≡ length triples.triples + (length chain.segments - 1)
    number = ap (λ (k : ℕ). length triples.triples + k) (new_triples_number (sights rows) chain)

    pub published : ¬ (50000 < length triples.triples + (length chain.segments - 1)) → Gives x chain
    published few = gives x old b.kept b.dropped (length rows) n f chain e (h.start.begins rows) sorted b.fitting counted
        (λ many. few (subst (λ (k : ℕ). 50000 < k) number many))

    pub in_places : ArePlaced chain.first_new (sights rows) chain.dropped chain.segments
    in_places = subst (λ (c : Chain). ArePlaced c.first_new (sights rows) c.dropped c.segments) (sym e)
        (subst (λ (k : ℕ). ArePlaced k (sights rows) f.dropped (f.closed ++ f.open_one ∷ [])) (sym counted) b.fitting.placed)

    pub too_many : 50000 < length triples.triples + (length chain.segments - 1) → Refuses x rows TooMany
    too_many many = (
      old,
      h.start.begins rows,
      (
        b.dropped,
        segments_of (sights rows) chain,
        built_publication t (sights rows) b.kept b.dropped (length rows) n f chain e sorted b.fitting,
        subst (λ (k : ℕ). 50000 < k) (sym number) many,
      ),
    )

  -- and what stops it is a cause to refuse it
  pub refused : (fault : FitFault) → StopsAt t rows fault → (fault ≡ NoMemory) ⊎ Refuses x rows fault
  refused fault s = stopped triples fit.clock rows fit.settings old fault (h.start.begins rows) s
