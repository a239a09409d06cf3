use Rattle.std.proofs.lemmas.Result.{err_from_is_err_and}
use Rattle.sk_publishing.specs.Row.{RowView}
use Rattle.sk_fit.specs.Context.{FitView, terms}
use Rattle.sk_fit.proofs.Looping.{goes_on, stops}
use Rattle.sk_fit.proofs.fitting.Fitting.take.Goals as goal

pub returns-in_err-take_next-clause-fault : goal.returns-in_err-take_next-clause-fault
returns-in_err-take_next-clause-fault c =
    let fit : FitView = c.args.fit.now in
    let row : RowView = c.at-obs.result.now in
    let p = err_from_is_err_and c.from_residual.result c.from_residual.ensures.1 in
    rw (p.1, p.2) (stops (terms fit) fit.rows c.args.place row c.args.self.now c.in_err-take_next.field-0.0 c.at-obs.ensures.here
    (c.requires.new row c.at-obs.ensures.here) c.requires.fitted c.in_err-take_next.ensures.stopped)

pub returns-clause-ok : goal.returns-clause-ok
returns-clause-ok c =
    let fit : FitView = c.args.fit.now in
    goes_on (terms fit) fit.rows c.args.place c.at-obs.result.now c.args.self.now c.take_next.new.self c.at-obs.ensures.here c.in_ok-take_next.ensures.moved c.requires.fitted
