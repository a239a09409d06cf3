use Rattle.std.proofs.Common.{◌≡◌, List, Ok, Some, subst}
use Rattle.sk_publishing.specs.Row.{RowView}
use Rattle.sk_words.specs.Asked.{options_in}
use Rattle.sk_outcome.specs.Files.{KernelRead}
use Rattle.sk_report.specs.Report.{table_of}
use Rattle.sk_outcome.specs.Outcome.{all_covered}
use Rattle.sk_outcome.specs.Publishing.{after_chain}
use Rattle.sk_outcome.proofs.Additions.{is_published}
use Rattle.sk_commands.proofs.publish.published_text.Goals as goal

pub returns : goal.returns
returns c =
    let kernel : KernelRead = record { doc = c.kernel.inside.doc; clock = c.kernel.inside.clock; triples = c.kernel.inside.triples } in
    let same : c.as_slice-rows.result.now ≡ c.args.observations = c.as_slice-rows.ensures in
    subst (λ (k : KernelRead). after_chain (options_in c.args.request.now) k c.args.observations c.args.chain.now (Ok c.in-Ok-text_with.text.items)) c.kernel.view_is
    (is_published (options_in c.args.request.now) kernel c.args.observations c.args.chain.now c.in-Ok.triples c.behind-added.result.now c.in_ok-table.table c.in-Ok-text_with.text.items
    c.in-Ok.ensures c.behind-added.ensures.added (subst (λ (rows : List RowView). all_covered c.in-Ok.triples rows (Ok tt)) same c.in_ok-table.ensures.covered)
    (subst (λ (rows : List RowView). c.in_ok-table.table ≡ table_of kernel.clock c.in-Ok.triples rows (Some c.args.chain.now)) same c.in_ok-table.ensures.table) c.in-Ok-text_with.ensures)
