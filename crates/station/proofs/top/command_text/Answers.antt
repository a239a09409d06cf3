use Rattle.std.proofs.Common.{ℕ, Vec, Global, subst}
use Rattle.sk_words.specs.declared.tables.Command.{Command}
use Rattle.sk_words.specs.Asked.{options_in}
use Rattle.sk_words.specs.Request.{Options}
use Rattle.sk_outcome.specs.Stage.{MayAnswer}
use Rattle.sk_outcome.specs.Seen.{Source, seen_by}
use Rattle.sk_outcome.specs.Files.{opened_read, inputs_read, audit_read}
use Rattle.sk_outcome.specs.Drawn.{plot_read}
use Rattle.sk_outcome.specs.Outcome.{outcome_of, publish_of, residuals_of, convert_of, sample_of, invert_of, audit_of, least_of, excerpt_of, plot_of}
use Rattle.sk_outcome.specs.Sample.{made_inputs}
use Rattle.sk_outcome.specs.Joined.{joined_kernel}
use Rattle.sk_outcome.proofs.Moves.{may_then, may_end_as, handed_on}
use Rattle.station.proofs.top.command_text.Goals as goal

pub returns-in_ok-read_inputs-in-Publish-clause-stage : goal.returns-in_ok-read_inputs-in-Publish-clause-stage
returns-in_ok-read_inputs-in-Publish-clause-stage g c =
    let depot = g.D.Depot in
    let options : Options = options_in c.args.request.now in
    let source : Source = seen_by depot.holds depot.given depot.faults c.args.depot.now c.read_inputs.new.depot in
    subst (λ (command : Command). MayAnswer (λ (v : Vec ℕ Global). v.items) (outcome_of command source options) c.publish.result) c.in-Publish.ensures
    (may_then (λ (v : Vec ℕ Global). v.items) (inputs_read source options) (publish_of options) c.in_ok-read_inputs-in-Publish.field-0 c.publish.result c.in_ok-read_inputs-in-Publish.ensures.stage c.publish.ensures)

pub returns-in_ok-read_inputs-in-Residuals-clause-stage : goal.returns-in_ok-read_inputs-in-Residuals-clause-stage
returns-in_ok-read_inputs-in-Residuals-clause-stage g c =
    let depot = g.D.Depot in
    let options : Options = options_in c.args.request.now in
    let source : Source = seen_by depot.holds depot.given depot.faults c.args.depot.now c.read_inputs-in-Residuals.new.depot in
    subst (λ (command : Command). MayAnswer (λ (v : Vec ℕ Global). v.items) (outcome_of command source options) c.residuals.result) c.in-Residuals.ensures
    (may_then (λ (v : Vec ℕ Global). v.items) (inputs_read source options) residuals_of c.in_ok-read_inputs-in-Residuals.field-0 c.residuals.result c.in_ok-read_inputs-in-Residuals.ensures.stage c.residuals.ensures)

pub returns-in_ok-read_opened-in-Convert-clause-stage : goal.returns-in_ok-read_opened-in-Convert-clause-stage
returns-in_ok-read_opened-in-Convert-clause-stage g c =
    let depot = g.D.Depot in
    let options : Options = options_in c.args.request.now in
    let source : Source = seen_by depot.holds depot.given depot.faults c.args.depot.now c.read_opened.new.depot in
    subst (λ (command : Command). MayAnswer (λ (v : Vec ℕ Global). v.items) (outcome_of command source options) c.convert.result) c.in-Convert.ensures
    (may_then (λ (v : Vec ℕ Global). v.items) (opened_read source options) (convert_of options) c.in_ok-read_opened-in-Convert.field-0 c.convert.result c.in_ok-read_opened-in-Convert.ensures.stage c.convert.ensures)

pub returns-in_ok-read_opened-in-Invert-clause-stage : goal.returns-in_ok-read_opened-in-Invert-clause-stage
returns-in_ok-read_opened-in-Invert-clause-stage g c =
    let depot = g.D.Depot in
    let options : Options = options_in c.args.request.now in
    let source : Source = seen_by depot.holds depot.given depot.faults c.args.depot.now c.read_opened-in-Invert.new.depot in
    subst (λ (command : Command). MayAnswer (λ (v : Vec ℕ Global). v.items) (outcome_of command source options) c.invert.result) c.in-Invert.ensures
    (may_then (λ (v : Vec ℕ Global). v.items) (opened_read source options) (invert_of options) c.in_ok-read_opened-in-Invert.field-0 c.invert.result c.in_ok-read_opened-in-Invert.ensures.stage c.invert.ensures)

pub returns-in_ok-made_inputs-in-Sample-clause-stage : goal.returns-in_ok-made_inputs-in-Sample-clause-stage
returns-in_ok-made_inputs-in-Sample-clause-stage g c =
    let depot = g.D.Depot in
    let options : Options = options_in c.args.request.now in
    let source : Source = seen_by depot.holds depot.given depot.faults c.args.depot.now c.args.depot.now in
    subst (λ (command : Command). MayAnswer (λ (v : Vec ℕ Global). v.items) (outcome_of command source options) c.sample.result) c.in-Sample.ensures
    (may_then (λ (v : Vec ℕ Global). v.items) (made_inputs options) (sample_of options) c.in_ok-made_inputs-in-Sample.field-0 c.sample.result c.in_ok-made_inputs-in-Sample.ensures c.sample.ensures)

pub returns-in_ok-read_inputs-in-Least-clause-stage : goal.returns-in_ok-read_inputs-in-Least-clause-stage
returns-in_ok-read_inputs-in-Least-clause-stage g c =
    let depot = g.D.Depot in
    let options : Options = options_in c.args.request.now in
    let source : Source = seen_by depot.holds depot.given depot.faults c.args.depot.now c.read_inputs-in-Least.new.depot in
    subst (λ (command : Command). MayAnswer (λ (v : Vec ℕ Global). v.items) (outcome_of command source options) c.least.result) c.in-Least.ensures
    (may_then (λ (v : Vec ℕ Global). v.items) (inputs_read source options) (least_of options) c.in_ok-read_inputs-in-Least.field-0 c.least.result c.in_ok-read_inputs-in-Least.ensures.stage c.least.ensures)

pub returns-in_ok-joined_kernel-in-Excerpt-clause-stage : goal.returns-in_ok-joined_kernel-in-Excerpt-clause-stage
returns-in_ok-joined_kernel-in-Excerpt-clause-stage g c =
    let depot = g.D.Depot in
    let options : Options = options_in c.args.request.now in
    let source : Source = seen_by depot.holds depot.given depot.faults c.args.depot.now c.joined_kernel.new.depot in
    subst (λ (command : Command). MayAnswer (λ (v : Vec ℕ Global). v.items) (outcome_of command source options) c.excerpt.result) c.in-Excerpt.ensures
    (may_then (λ (v : Vec ℕ Global). v.items) (joined_kernel source options) (excerpt_of options) c.in_ok-joined_kernel-in-Excerpt.field-0 c.excerpt.result c.in_ok-joined_kernel-in-Excerpt.ensures.stage c.excerpt.ensures)

pub returns-in_ok-read_audit-in-Audit-clause-stage : goal.returns-in_ok-read_audit-in-Audit-clause-stage
returns-in_ok-read_audit-in-Audit-clause-stage g c =
    let depot = g.D.Depot in
    let options : Options = options_in c.args.request.now in
    let source : Source = seen_by depot.holds depot.given depot.faults c.args.depot.now c.read_audit.new.depot in
    subst (λ (command : Command). MayAnswer (λ (v : Vec ℕ Global). v.items) (outcome_of command source options) c.audit.result) c.in-Audit.ensures
    (may_then (λ (v : Vec ℕ Global). v.items) (audit_read source options) (audit_of options) c.in_ok-read_audit-in-Audit.field-0 c.audit.result c.in_ok-read_audit-in-Audit.ensures.stage c.audit.ensures)

pub returns-in_err-read_audit-in-Audit-clause-stage : goal.returns-in_err-read_audit-in-Audit-clause-stage
returns-in_err-read_audit-in-Audit-clause-stage g c =
    let depot = g.D.Depot in
    let options : Options = options_in c.args.request.now in
    let source : Source = seen_by depot.holds depot.given depot.faults c.args.depot.now c.read_audit.new.depot in
    subst (λ (command : Command). MayAnswer (λ (v : Vec ℕ Global). v.items) (outcome_of command source options) c.from_residual-in_err-read_audit-in-Audit.result) c.in-Audit.ensures
    (may_end_as (λ a. a) (λ (v : Vec ℕ Global). v.items) (audit_read source options) (audit_of options) c.read_audit.result c.from_residual-in_err-read_audit-in-Audit.result
    c.in_err-read_audit-in-Audit.field-0.0 c.in_err-read_audit-in-Audit.was
    (handed_on c.from_residual-in_err-read_audit-in-Audit.result c.in_err-read_audit-in-Audit.field-0.0 c.from_residual-in_err-read_audit-in-Audit.ensures.1) c.read_audit.ensures.stage)

pub returns-in_ok-read_plot-in-Plot-clause-stage : goal.returns-in_ok-read_plot-in-Plot-clause-stage
returns-in_ok-read_plot-in-Plot-clause-stage g c =
    let depot = g.D.Depot in
    let options : Options = options_in c.args.request.now in
    let source : Source = seen_by depot.holds depot.given depot.faults c.args.depot.now c.read_plot.new.depot in
    subst (λ (command : Command). MayAnswer (λ (v : Vec ℕ Global). v.items) (outcome_of command source options) c.plot.result) c.in-Plot.ensures
    (may_then (λ (v : Vec ℕ Global). v.items) (plot_read source options) (plot_of options) c.in_ok-read_plot-in-Plot.field-0 c.plot.result c.in_ok-read_plot-in-Plot.ensures.stage c.plot.ensures)

pub returns-in_err-read_plot-in-Plot-clause-stage : goal.returns-in_err-read_plot-in-Plot-clause-stage
returns-in_err-read_plot-in-Plot-clause-stage g c =
    let depot = g.D.Depot in
    let options : Options = options_in c.args.request.now in
    let source : Source = seen_by depot.holds depot.given depot.faults c.args.depot.now c.read_plot.new.depot in
    subst (λ (command : Command). MayAnswer (λ (v : Vec ℕ Global). v.items) (outcome_of command source options) c.from_residual-in_err-read_plot-in-Plot.result) c.in-Plot.ensures
    (may_end_as (λ a. a) (λ (v : Vec ℕ Global). v.items) (plot_read source options) (plot_of options) c.read_plot.result c.from_residual-in_err-read_plot-in-Plot.result
    c.in_err-read_plot-in-Plot.field-0.0 c.in_err-read_plot-in-Plot.was
    (handed_on c.from_residual-in_err-read_plot-in-Plot.result c.in_err-read_plot-in-Plot.field-0.0 c.from_residual-in_err-read_plot-in-Plot.ensures.1) c.read_plot.ensures.stage)
