use Rattle.std.proofs.Common.{◌≡◌, List, refl, sym, subst, ⊎_elim, rules}
use Rattle.sk_publishing.specs.Row.{RowView}
use Rattle.sk_fit.specs.Causes.{Refuses, input}
use Rattle.sk_fit.specs.declared.fault.FitFault.TheVariants.{NoMemory}
use Rattle.sk_fit.specs.declared.settings.Settings.{Settings}
use Rattle.sk_words.specs.Asked.{options_in}
use Rattle.sk_outcome.specs.Files.{KernelRead}
use Rattle.sk_outcome.specs.Output.{settings_of}
use Rattle.sk_commands.proofs.publish.chain_of.Goals as goal

pub returns-in-Err : goal.returns-in-Err
returns-in-Err c =
    let rows : List RowView = c.args.observations.now in
    let inside = c.kernel.inside in
    let fault = c.in-Err.fault in
    let Refused : Type 0 = Refuses (input inside.triples inside.clock rows c.settings_of-settings.result) rows fault in
    let refused : Refused = ⊎_elim (λ (none : fault ≡ NoMemory). absurd (search rules)) (λ (refuses : Refused). refuses) c.in-Err.ensures.fault in
    let asked = subst (λ (s : Settings). Refuses (input inside.triples inside.clock rows s) rows fault) c.settings_of-settings.ensures.settings refused in
    record {
      stage = (fault, subst (λ (k : KernelRead). Refuses (input k.triples k.clock rows (settings_of (options_in c.args.request.now))) rows fault) c.kernel.view_is asked, refl);
      over = tt;
      triples = tt;
    }
