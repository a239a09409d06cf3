-- What a publication adds to a kernel: its triples, and its kernel ID.
use Rattle.std.proofs.Common.{rules, Ok, Some, subst, ◌≡◌, ℕ, ◌≤◌, List, ◌++◌, length, drop, refl, sym, ap, ◌∙◌, arith, true, false, Bool, ◌&&◌, leb}
use Rattle.std.proofs.lemmas.Bool.Decides.{nat_tests}
use Rattle.std.specs.Prelude.{codes, IsTrue}
use Rattle.std.specs.List.{list_all}
use Rattle.sk_decimal.proofs.Forms.{list_all-weaker}
use Rattle.sk_grammar.specs.Document.{IsDate, is_run_byte, is_data_byte}
use Rattle.sk_grammar.proofs.Lists.{drop-length-append, differs}
use Rattle.sk_grammar.specs.Canonical.{canonical_text}
use Rattle.sk_publishing.specs.Row.{RowView}
use Rattle.sk_line.specs.Triple.{TripleView}
use Rattle.sk_triples.specs.Kernel.{TriplesView}
use Rattle.sk_publishing.specs.Published.{appended, published_block}
use Rattle.sk_fit.specs.declared.chain.Chain.{Chain}
use Rattle.sk_fit.specs.Given.{new_triples_of}
use Rattle.sk_report.specs.Report.{table_of}
use Rattle.sk_words.specs.declared.tables.OptionName.TheVariants as opt
use Rattle.sk_words.specs.Request.{Options, is_in_range}
use Rattle.sk_words.proofs.KernelId.{is_id_byte, id_bytes}
use Rattle.sk_outcome.specs.Files.{KernelRead, sc_of}
use Rattle.sk_outcome.specs.Output.{dated, new_kernel}
use Rattle.sk_outcome.specs.Outcome.{all_covered}
use Rattle.sk_outcome.specs.Publishing.{after_chain}

-- ---- triples

-- the triples that stand behind the old ones
pub behind_old : (all old more added : List TripleView) → all ≡ old ++ more → added ≡ drop (length old) all → added ≡ more
behind_old all old more added e d = d ∙ ap (drop (length old)) e ∙ drop-length-append old more

-- what stands behind the same triples is the same
pub same_behind : (old a b : List TripleView) → old ++ a ≡ old ++ b → a ≡ b
same_behind old a b e = sym (drop-length-append old a) ∙ ap (drop (length old)) e ∙ drop-length-append old b

-- the text with the triples behind the old ones, and the table by all, is that of the publication
pub is_published : (options : Options) (kernel : KernelRead) (rows : List RowView) (chain : Chain) (triples : TriplesView) (added : List TripleView) (table : List (List ℕ)) (text : List ℕ)
    → triples ≡ new_kernel kernel chain → triples.triples ≡ kernel.triples.triples ++ added → all_covered triples rows (Ok tt)
    → table ≡ table_of kernel.clock triples rows (Some chain) → text ≡ canonical_text (appended kernel.doc (published_block (dated options) (sc_of options) added table))
    → after_chain options kernel rows chain (Ok text)
is_published options kernel rows chain triples added table text is behind covered of_table of_text =
    let new : added ≡ new_triples_of chain =
    same_behind kernel.triples.triples added (new_triples_of chain) (sym behind ∙ ap (λ (t : TriplesView). t.triples) is) in
    let lines : table ≡ table_of kernel.clock (new_kernel kernel chain) rows (Some chain) = of_table ∙ ap (λ (t : TriplesView). table_of kernel.clock t rows (Some chain)) is in (
      tt,
      subst (λ (t : TriplesView). all_covered t rows (Ok tt)) is covered,
      ap Ok
          (of_text ∙ ap (λ (ts : List TripleView). canonical_text (appended kernel.doc (published_block (dated options) (sc_of options) ts table))) new
          ∙ ap (λ (ls : List (List ℕ)). canonical_text (appended kernel.doc (published_block (dated options) (sc_of options) (new_triples_of chain) ls))) lines),
    )

-- ---- the kernel ID

id_runs : (byte : ℕ) → is_id_byte byte ≡ true → is_run_byte byte ≡ true
id_runs byte h =
    rw (
      differs is_id_byte byte 32 h refl,
      differs is_id_byte byte 9 h refl,
      differs is_id_byte byte 10 h refl,
      differs is_id_byte byte 44 h refl,
      differs is_id_byte byte 40 h refl,
      differs is_id_byte byte 41 h refl,
      differs is_id_byte byte 39 h refl,
    ) refl

id_data : (byte : ℕ) → is_id_byte byte ≡ true → is_data_byte byte ≡ true
id_data byte h = grind (arith, nat_tests)

-- the text of the option is a date behind `@`
pub id_date : (text : List ℕ) → IsTrue (is_in_range opt.Id text) → IsDate (codes "@" ++ text)
id_date text h =
    let p = id_bytes text h in
    record {
      rest = text;
      at_sign = refl;
      not_bare = omega (arith, p.0);
      short = omega (arith, p.1);
      run = list_all-weaker is_id_byte is_run_byte id_runs text p.2;
      bytes = list_all-weaker is_id_byte is_data_byte id_data text p.2;
    }
