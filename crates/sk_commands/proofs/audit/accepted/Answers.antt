use Rattle.std.proofs.Common.{◌≡◌, ℕ, List, ap, subst, refl, ◌∙◌}
use Rattle.sk_grammar.specs.Document.{DocView}
use Rattle.sk_publishing.specs.Row.{RowView}
use Rattle.sk_audit.specs.declared.settings.AuditSettings.{AuditSettings}
use Rattle.sk_audit.specs.declared.verdict.Verdict.{Verdict}
use Rattle.sk_audit.specs.declared.verdict.Verdict.TheVariants.{Yes, No}
use Rattle.sk_audit.specs.Audit as aud
use Rattle.sk_words.specs.Asked.{options_in}
use Rattle.sk_words.specs.Request.{Options}
use Rattle.sk_outcome.specs.Files.{KernelRead, AuditRead, sc_of}
use Rattle.sk_outcome.specs.Output.{audit_settings_of}
use Rattle.sk_outcome.specs.Outcome.{audited}
use Rattle.sk_commands.proofs.audit.accepted.Goals as goal

-- what is decided of these parts
abbrev Decided : AuditRead → ℕ → List RowView → AuditSettings → Verdict → Type 0
Decided read sc rows settings v =
    aud.Decides (aud.audit_of read.inputs.kernel.doc read.candidate read.inputs.kernel.clock read.inputs.kernel.triples sc rows settings) v

-- is decided of what was read, by the options
decided : (options : Options) (read given : AuditRead) (sc : ℕ) (rows : List RowView) (settings : AuditSettings) (v w : Verdict) → sc ≡ sc_of options → rows ≡ read.inputs.observations
    → settings ≡ audit_settings_of options → v ≡ w → read ≡ given → Decided read sc rows settings v → aud.Decides (audited options given) w
decided options read given sc rows settings v w e f h k same d =
    subst (λ (r : AuditRead). aud.Decides (audited options r) w) same
    (subst (λ (n : ℕ). Decided read n read.inputs.observations (audit_settings_of options) w) e
    (subst (λ (os : List RowView). Decided read sc os (audit_settings_of options) w) f
    (subst (λ (s : AuditSettings). Decided read sc rows s w) h (subst (Decided read sc rows settings) k d))))

-- the parts that were opened are those of what was read
abbrev read_of : KernelRead → List RowView → DocView → AuditRead
read_of kernel rows candidate = record { inputs = record { kernel = kernel; observations = rows }; candidate = candidate }

pub returns-in-Yes : goal.returns-in-Yes
returns-in-Yes c =
    let options : Options = options_in c.args.request.now in
    let rows : List RowView = c.read-inside.inside.0.0.observations in
    let candidate : DocView = c.read-inside.inside.0.1.0 in
    let kernel : KernelRead = record { doc = c.kernel.inside.doc; clock = c.kernel.inside.clock; triples = c.kernel.inside.triples } in
    let same : read_of kernel rows candidate ≡ c.args.read.now =
    ap (λ (k : KernelRead). read_of k rows candidate) c.kernel.view_is
    ∙ (λ i. record { inputs = (c.read-inside.view_is i).inputs; candidate = (c.read-inside.view_is i).candidate }) ∙ c.read.view_is in
    decided options (read_of kernel rows candidate) c.args.read.now c.spacecraft.result c.as_slice.result.now c.settings_of.result c.in-Ok.verdict Yes
    c.spacecraft.ensures.number c.as_slice.ensures c.settings_of.ensures.settings c.in-Yes.is same c.in-Ok.ensures

pub returns-in-No : goal.returns-in-No
returns-in-No c =
    let options : Options = options_in c.args.request.now in
    let rows : List RowView = c.read-inside.inside.0.0.observations in
    let candidate : DocView = c.read-inside.inside.0.1.0 in
    let kernel : KernelRead = record { doc = c.kernel.inside.doc; clock = c.kernel.inside.clock; triples = c.kernel.inside.triples } in
    let same : read_of kernel rows candidate ≡ c.args.read.now =
    ap (λ (k : KernelRead). read_of k rows candidate) c.kernel.view_is
    ∙ (λ i. record { inputs = (c.read-inside.view_is i).inputs; candidate = (c.read-inside.view_is i).candidate }) ∙ c.read.view_is in (
      c.in-No.fault,
      decided options (read_of kernel rows candidate) c.args.read.now c.spacecraft.result c.as_slice.result.now c.settings_of.result c.in-Ok.verdict (No c.in-No.fault)
          c.spacecraft.ensures.number c.as_slice.ensures c.settings_of.ensures.settings c.in-No.is same c.in-Ok.ensures,
      refl,
    )
