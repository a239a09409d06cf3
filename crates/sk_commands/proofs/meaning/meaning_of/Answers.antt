use Rattle.std.proofs.Common.{◌≡◌, ℕ, List, Err}
use Rattle.sk_grammar.specs.Document.{DocView}
use Rattle.sk_grammar.specs.Variables.{VariableView}
use Rattle.sk_clock.specs.Clock.{ClockView}
use Rattle.sk_triples.specs.Kernel.{TriplesView}
use Rattle.sk_status.specs.declared.status.Status.{Status}
use Rattle.sk_outcome.specs.Stage.{Stage, ◌>>=◌, gives}
use Rattle.sk_outcome.specs.Files.{KernelRead, kernel_pool, kernel_clock, kernel_triples}
use Rattle.sk_outcome.proofs.Moves.{may_then, may_end_as, handed_on}
use Rattle.sk_commands.specs.declared.meaning.Meaning.{Meaning}
use Rattle.sk_commands.proofs.meaning.meaning_of.Goals as goal

-- the kernel of what a document means
abbrev read_of : DocView → Meaning → KernelRead
read_of doc m = record { doc = doc; clock = m.clock; triples = m.triples }

after_triples : DocView → ClockView → TriplesView → Stage KernelRead
after_triples doc clock triples = gives (record { doc = doc; clock = clock; triples = triples })

after_clock : ℕ → DocView → List VariableView → ClockView → Stage KernelRead
after_clock sc doc variables clock = kernel_triples variables clock sc >>= (λ (triples : TriplesView). gives (record { doc = doc; clock = clock; triples = triples }))

after_pool : ℕ → DocView → List VariableView → Stage KernelRead
after_pool sc doc variables = kernel_clock variables sc >>= (λ (clock : ClockView). kernel_triples variables clock sc >>= (λ (triples : TriplesView). gives (record { doc = doc; clock = clock; triples = triples })))

pub returns-in_err-clock-clause-stage : goal.returns-in_err-clock-clause-stage
unfolding after_pool after_clock
returns-in_err-clock-clause-stage c =
    let doc : DocView = c.args.doc.now in
    let status : Status = c.in_err-clock.field-0.0 in
    let is : c.kernel_clock.result ≡ Err status = c.in_err-clock.was in
    let ends : c.from_residual-in_err-clock.result ≡ Err status = handed_on c.from_residual-in_err-clock.result status c.from_residual-in_err-clock.ensures.1 in
    may_then (read_of doc) (kernel_pool doc) (after_pool c.args.sc doc) c.in_ok-pool.pool c.from_residual-in_err-clock.result c.in_ok-pool.ensures.stage
    (may_end_as (λ k. k) (read_of doc) (kernel_clock c.in_ok-pool.pool c.args.sc) (after_clock c.args.sc doc c.in_ok-pool.pool) c.kernel_clock.result c.from_residual-in_err-clock.result status is ends c.kernel_clock.ensures)

pub returns-in_err-triples-clause-stage : goal.returns-in_err-triples-clause-stage
unfolding after_pool after_clock after_triples
returns-in_err-triples-clause-stage c =
    let doc : DocView = c.args.doc.now in
    let status : Status = c.in_err-triples.field-0.0 in
    let is : c.kernel_triples.result ≡ Err status = c.in_err-triples.was in
    let ends : c.from_residual-in_err-triples.result ≡ Err status = handed_on c.from_residual-in_err-triples.result status c.from_residual-in_err-triples.ensures.1 in
    may_then (read_of doc) (kernel_pool doc) (after_pool c.args.sc doc) c.in_ok-pool.pool c.from_residual-in_err-triples.result c.in_ok-pool.ensures.stage
    (may_then (read_of doc) (kernel_clock c.in_ok-pool.pool c.args.sc) (after_clock c.args.sc doc c.in_ok-pool.pool) c.in_ok-clock.clock c.from_residual-in_err-triples.result c.in_ok-clock.ensures
    (may_end_as (λ k. k) (read_of doc) (kernel_triples c.in_ok-pool.pool c.in_ok-clock.clock c.args.sc) (after_triples doc c.in_ok-clock.clock) c.kernel_triples.result c.from_residual-in_err-triples.result status is ends c.kernel_triples.ensures.stage))

pub returns-clause-pool : goal.returns-clause-pool
returns-clause-pool c = c.in_ok-pool.ensures.stage.1

pub returns-clause-triples : goal.returns-clause-triples
returns-clause-triples c = c.in_ok-triples.ensures.stage.1
