use Rattle.std.proofs.Common.{◌≡◌, ℕ, List, Vec, Global, Ok, Err, Result, subst}
use Rattle.sk_grammar.specs.Document.{DocView}
use Rattle.sk_words.specs.declared.tables.OptionName.TheVariants as opt
use Rattle.sk_words.specs.Asked.{options_in}
use Rattle.sk_words.specs.Request.{Options, number_or}
use Rattle.sk_status.specs.declared.status.Status.{Status}
use Rattle.sk_commands.specs.declared.meaning.Meaning.{Meaning}
use Rattle.sk_outcome.specs.Stage.{Stage, ◌>>=◌, MayAnswer}
use Rattle.sk_outcome.specs.Files.{KernelRead, kernel_meaning, sc_of}
use Rattle.sk_outcome.specs.Outcome.{normal_of, cut_out}
use Rattle.sk_outcome.proofs.Moves.{may_then, may_end_as, handed_on}
use Rattle.sk_commands.proofs.excerpt.excerpt.Goals as goal

-- the kernel of what a document means
abbrev read_of : DocView → Meaning → KernelRead
read_of doc m = record { doc = doc; clock = m.clock; triples = m.triples }

-- the part that the options ask for, and then its text
abbrev part_of : Options → KernelRead → Stage DocView
part_of options kernel = cut_out (sc_of options) (number_or 0 opt.From options) (number_or 0 opt.To options) kernel

abbrev rest : Options → KernelRead → Stage (List ℕ)
rest options kernel = part_of options kernel >>= normal_of

abbrev Cuts : KernelRead → Result DocView Status → ℕ → ℕ → ℕ → Type 0
Cuts kernel r sc from to = MayAnswer {X = DocView} (λ (d : DocView). d) (cut_out sc from to kernel) r

ranged : (kernel : KernelRead) (r : Result DocView Status) (sc from to sc' from' to' : ℕ) → sc ≡ sc' → from ≡ from' → to ≡ to' → Cuts kernel r sc from to → Cuts kernel r sc' from' to'
ranged kernel r sc from to sc' from' to' e f h k =
    subst (λ (n : ℕ). Cuts kernel r n from' to') e (subst (λ (n : ℕ). Cuts kernel r sc n to') f (subst (λ (n : ℕ). Cuts kernel r sc from n) h k))

pub returns-in_err-meaning : goal.returns-in_err-meaning
returns-in_err-meaning c =
    let options : Options = options_in c.args.request.now in
    let doc : DocView = c.args.doc in
    let status : Status = c.in_err-meaning.field-0.0 in
    may_end_as (read_of doc) (λ (v : Vec ℕ Global). v.items) (kernel_meaning (sc_of options) doc) (rest options) c.meaning_of.result c.from_residual.result status
    c.in_err-meaning.was (handed_on c.from_residual.result status c.from_residual.ensures.1)
    (subst (λ (n : ℕ). MayAnswer (read_of doc) (kernel_meaning n doc) c.meaning_of.result) c.spacecraft-sc.ensures.number c.meaning_of.ensures.stage)

pub returns-in_err-part : goal.returns-in_err-part
returns-in_err-part c =
    let options : Options = options_in c.args.request.now in
    let doc : DocView = c.args.doc in
    let kernel : KernelRead = read_of doc c.in_ok-meaning.meaning in
    let status : Status = c.in_err-part.field-0.0 in
    may_then (λ (v : Vec ℕ Global). v.items) (kernel_meaning (sc_of options) doc) (rest options) kernel c.from_residual-in_err-part.result
    (subst (λ (n : ℕ). kernel_meaning n doc (Ok kernel)) c.spacecraft-sc.ensures.number c.in_ok-meaning.ensures.stage)
    (may_end_as (λ (d : DocView). d) (λ (v : Vec ℕ Global). v.items) (part_of options kernel) normal_of c.cut_out.result c.from_residual-in_err-part.result status
    c.in_err-part.was (handed_on c.from_residual-in_err-part.result status c.from_residual-in_err-part.ensures.1)
    (ranged kernel c.cut_out.result c.spacecraft-sc.result c.first_tick.result c.last_tick.result (sc_of options) (number_or 0 opt.From options) (number_or 0 opt.To options)
    c.spacecraft-sc.ensures.number c.first_tick.ensures.number c.last_tick.ensures.number c.cut_out.ensures))

pub returns : goal.returns
returns c =
    let options : Options = options_in c.args.request.now in
    let doc : DocView = c.args.doc in
    let kernel : KernelRead = read_of doc c.in_ok-meaning.meaning in
    may_then (λ (v : Vec ℕ Global). v.items) (kernel_meaning (sc_of options) doc) (rest options) kernel c.normal.result
    (subst (λ (n : ℕ). kernel_meaning n doc (Ok kernel)) c.spacecraft-sc.ensures.number c.in_ok-meaning.ensures.stage)
    (may_then (λ (v : Vec ℕ Global). v.items) (part_of options kernel) normal_of c.in_ok-part.part c.normal.result
    (ranged kernel (Ok c.in_ok-part.part) c.spacecraft-sc.result c.first_tick.result c.last_tick.result (sc_of options) (number_or 0 opt.From options) (number_or 0 opt.To options)
    c.spacecraft-sc.ensures.number c.first_tick.ensures.number c.last_tick.ensures.number c.in_ok-part.ensures)
    c.normal.ensures)
