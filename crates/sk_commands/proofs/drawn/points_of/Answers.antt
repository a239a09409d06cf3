use Rattle.std.proofs.Common.{◌≡◌, ℕ, ◌+◌, ◌<◌, List, [], ◌∷◌, ◌++◌, length, take, drop, sym, ap, subst, ◌∙◌, inl, inr, ⊎_elim}
use Rattle.sk_checks.specs.Checks.{NoneRefuses, FirstRefuses}
use Rattle.sk_plot.specs.Point.{PointView}
use Rattle.sk_publishing.specs.Row.{RowView}
use Rattle.sk_publishing.specs.Table.{KernelView, kernel_view}
use Rattle.sk_triples.specs.Kernel.{TriplesView}
use Rattle.sk_report.specs.Report.{table_checks}
use Rattle.sk_report.proofs.RowLines.{checks_more, checks_refused, split_at, take_next}
use Rattle.sk_outcome.specs.Drawn.{point_by, points_of}
use Rattle.sk_outcome.proofs.Pictures.{points_more}
use Rattle.sk_commands.proofs.drawn.points_of.Goals as goal

pub returns-in-Err : goal.returns-in-Err
returns-in-Err c =
    let triples : TriplesView = c.args.triples.now in
    let rows : List RowView = c.args.observations.now in
    let i : ℕ = c.loop-observation.observation-index in
    let row : RowView = c.observation-item.result in
    let less : i < length rows = c.loop-observation-test.true in
    ⊎_elim inl (λ refused. inr (subst (λ (rs : List RowView). FirstRefuses (table_checks triples rs) c.in-Err.fault) (sym (split_at rows i row less c.observation-item.is))
    (checks_refused triples (take i rows) row (drop (i + 1) rows) c.in-Err.fault c.loop-observation.invariant.none refused))) c.in-Err.ensures

pub loop-observation-preserved : goal.loop-observation-preserved
loop-observation-preserved c =
    let triples : TriplesView = c.args.triples.now in
    let rows : List RowView = c.args.observations.now in
    let i : ℕ = c.loop-observation.observation-index in
    let row : RowView = c.observation-item.result in
    let less : i < length rows = c.loop-observation-test.true in
    let k : KernelView = kernel_view 12 c.args.clock.now triples.triples in
    record {
      none = subst (λ (rs : List RowView). NoneRefuses (table_checks triples rs)) (sym (take_next rows i row less c.observation-item.is))
          (checks_more triples (take i rows) row c.loop-observation.invariant.none c.in-Ok-point_of.ensures.0);
      points = c.in-Ok-push.ensures.items ∙ ap (λ (ps : List PointView). ps ++ c.in-Ok-point_of.point ∷ []) c.loop-observation.invariant.points
          ∙ ap (λ (p : PointView). points_of k (take i rows) ++ p ∷ []) c.in-Ok-point_of.ensures.1
          ∙ sym (points_more k rows i row less c.observation-item.is);
    }
