use Rattle.std.proofs.Common.{◌≡◌, ℕ, [], ◌∷◌, ◌++◌, subst, sym, ap, ◌∙◌}
use Rattle.sk_publishing.specs.Row.{RowView}
use Rattle.sk_publishing.specs.Terms.{Sight}
use Rattle.sk_publishing.specs.Meets.{Meets}
use Rattle.sk_publishing.specs.Built.{longer}
use Rattle.sk_fit.specs.declared.chain.Segment.{Segment}
use Rattle.sk_fit.specs.Given.{anchor_of, sight_at}
use Rattle.sk_fit.specs.State.{FittingView, open_of, gone_on}
use Rattle.sk_fit.specs.Context.{FitView, terms, all_of, Grows}
use Rattle.sk_fit.proofs.Moves.{moves_on_first}
use Rattle.sk_fit.proofs.Ranges.{due_near}
use Rattle.sk_fit.proofs.fitting.Fitting.goes_on_first.Goals as goal

pub returns-then-meets-clause-went : goal.returns-then-meets-clause-went
returns-then-meets-clause-went c went =
    let fit : FitView = c.args.fit.now in
    let o : Sight = sight_at c.args.place c.args.obs.now in
    let f : FittingView = c.args.self.now in
    let same : c.self.inside.open_one ≡ f.open_one = ap (λ (v : FittingView). v.open_one) c.self.view_is in
    let met : Meets (terms fit).gauge (anchor_of f.open_one.anchor) f.open_one.rate.units o =
    subst (λ (s : Segment). Meets (terms fit).gauge (anchor_of s.anchor) s.rate.units o) same
    (let m = c.if-meets.ensures.0 went in record { low = m.low; high = m.high }) in
    let due = due_near fit c.args.place c.args.obs.now c.requires.next (longer (open_of (all_of fit) f) o f.open_one.rate.units) (record { low = met.low; high = met.high }) in
    let new : gone_on f c.args.place o.tick f.open_one.rate ≡ c.go_on.new.self =
    sym (c.go_on.ensures ∙ ap (λ (k : ℕ). gone_on f c.args.place k c.self.inside.open_one.rate) (ap (λ (r : RowView). r.tick) c.obs.view_is) ∙ ap (λ (s : Segment). gone_on f c.args.place o.tick s.rate) same) in
    subst (Grows fit c.args.place c.args.obs.now f) new (λ kept dropped h.
    let m = moves_on_first (terms fit) (all_of fit) c.args.place f o kept dropped c.requires.next.at c.requires.next.rises c.requires.next.new h c.requires.first c.requires.here met due in
    (kept ++ o ∷ [], dropped, m.0, m.1))
