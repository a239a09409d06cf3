-- The excerpt of a kernel is a kernel by which its range has the same times.
use Rattle.std.proofs.Common.{◌≡◌, ℕ, ◌-◌, List, [], ◌∷◌, ◌++◌, map, sym, subst, ap, refl, ◌∙◌, append_assoc}
use Rattle.std.specs.List.{flat_map}
use Rattle.std.proofs.lemmas.List.Concat.{flat_map-append}
use Rattle.sk_grammar.specs.Document.{BlockView, DocView}
use Rattle.sk_grammar.specs.Variables.{VariableView, items_of, variables_of, values_at}
use Rattle.sk_clock.specs.declared.fault.ClockName.{ClockName}
use Rattle.sk_clock.specs.declared.fault.ClockName.TheVariants.{DataType, Fields, Moduli, Offsets, Delim, Start, End}
use Rattle.sk_clock.specs.Clock.{ClockView}
use Rattle.sk_clock.specs.Kernel.{name_of, time_system}
use Rattle.sk_triples.specs.Kernel.{TriplesView, AreKept}
use Rattle.sk_excerpt.specs.Excerpt.{excerpt_doc}
use Rattle.sk_excerpt.specs.Law.{IsKernel, between, ExcerptLaw, JoinLaw}
use Rattle.sk_excerpt.proofs.Variables.{left_of, variables_left, held_other, held_coefficients}
use Rattle.sk_excerpt.proofs.SameClock.{clock_stands}
use Rattle.sk_excerpt.proofs.Rows.{accepted_between}
use Rattle.sk_excerpt.proofs.Times.{same_times}

named : (sc first last : ℕ) (us : List VariableView) (name : ClockName) → values_at (name_of name sc) (map (left_of sc first last) us) ≡ values_at (name_of name sc) us
named sc first last us DataType = held_other sc first last (name_of DataType sc) us refl
named sc first last us Fields = held_other sc first last (name_of Fields sc) us refl
named sc first last us Moduli = held_other sc first last (name_of Moduli sc) us refl
named sc first last us Offsets = held_other sc first last (name_of Offsets sc) us refl
named sc first last us Delim = held_other sc first last (name_of Delim sc) us refl
named sc first last us Start = held_other sc first last (name_of Start sc) us refl
named sc first last us End = held_other sc first last (name_of End sc) us refl

kernel_left : (doc : DocView) (sc first last : ℕ) (clock : ClockView) (t : TriplesView) → IsKernel doc sc clock t → AreKept t → IsKernel (excerpt_doc doc sc first last) sc clock (between first last t)
kernel_left doc sc first last clock t is kept =
    let us : List VariableView = variables_of (items_of doc) in
    let new : List VariableView = variables_of (items_of (excerpt_doc doc sc first last)) in
    let variables = variables_left doc sc first last in
    let same : (name : List ℕ) → values_at name new ≡ values_at name (map (left_of sc first last) us) = λ name. ap (values_at name) (sym variables.1) in
    record {
      is_pool = variables.0;
      has_clock = clock_stands sc us new (λ name. same (name_of name sc) ∙ named sc first last us name) (same (time_system sc) ∙ held_other sc first last (time_system sc) us refl) clock is.has_clock;
      has_triples = accepted_between us new clock sc first last t kept is.has_triples (same _ ∙ held_coefficients sc first last us);
    }

pub excerpt_law : ExcerptLaw
excerpt_law doc result sc from to clock t kernel kept up is = (
  subst (λ (d : DocView). IsKernel d sc clock (between (is.first.0 - 1) (is.last.0 - 1) t)) (sym is.result_is) (kernel_left doc sc (is.first.0 - 1) (is.last.0 - 1) clock t kernel kept),
  same_times from to t is.first is.last kept.triples.rise is.covers_from is.covers_to,
)

pub join_law : JoinLaw
join_law doc later docs =
    let behind : List BlockView = flat_map (λ (d : DocView). d.blocks) docs in
    let last : List BlockView = flat_map (λ (d : DocView). d.blocks) (later ∷ []) in
    ap (λ (blocks : List BlockView). record { head = doc.head; blocks = blocks })
    (append_assoc doc.blocks behind last ∙ ap (λ (blocks : List BlockView). doc.blocks ++ blocks) (sym (flat_map-append (λ (d : DocView). d.blocks) docs (later ∷ []))))
