use Rattle.std.proofs.Common.{◌≡◌, ◌-◌, ◌++◌, ℕ, List, codes, decimal, ap, refl, ◌∙◌, append_assoc, lit<, slice_index}
use Rattle.std.specs.String.{string_bytes}
use Rattle.sk_clock.specs.Clock.{ClockView, text_in as text_in_of}
use Rattle.sk_clock.specs.Kept.{all_text}
use Rattle.sk_clock.proofs.FieldLemmas.{all_text-joined}
use Rattle.sk_clock.proofs.clock.Clock.push_parts.Goals as goal

pieces : (text number joined a b c : List ℕ) → a ≡ text ++ number → b ≡ a ++ codes "/" → c ≡ b ++ joined → c ≡ text ++ (number ++ codes "/" ++ joined)
pieces text number joined a b c e f g =
    g ∙ ap (λ (xs : List ℕ). xs ++ joined) (f ∙ ap (λ (xs : List ℕ). xs ++ codes "/") e) ∙ simp append_assoc refl

pub returns : goal.returns
returns c =
    let inside = c.self.inside in
    let joined = all_text-joined (slice_index (codes ".:-, ") (inside.delimiter - 1)) inside.fields.items c.args.count c.self.invariant.units in
    let fields = ap (λ xs. all_text (slice_index (codes ".:-, ") (inside.delimiter - 1)) xs c.args.count) c.as_slice.ensures.value in
    let view = ap (λ (v : ClockView). text_in_of v c.args.partition c.args.count) c.self.view_is in
    let number : string_bytes c.push_str.new.self ≡ string_bytes c.args.text.now ++ decimal c.args.partition =
    c.in_ok-push_str.ensures.bytes ∙ ap (λ (xs : List ℕ). string_bytes c.args.text.now ++ xs) c.format.ensures.text in
    let slash : string_bytes c.push.new.self ≡ string_bytes c.push_str.new.self ++ codes "/" = c.in_ok-push.ensures.bytes ∙ ap (λ (xs : List ℕ). string_bytes c.push_str.new.self ++ xs) (c.in_ok-push.ensures.ascii (lit< tt)) in
    pieces (string_bytes c.args.text.now) (decimal c.args.partition) _ _ _ _ number slash (c.in_ok-push_fields.ensures ∙ ap (λ (xs : List ℕ). string_bytes c.push.new.self ++ xs) (fields ∙ joined))
    ∙ ap (λ (xs : List ℕ). string_bytes c.args.text.now ++ xs) view
