use Rattle.std.proofs.Common.{◌≡◌, ◌∙◌, ap, refl, arith, ℕ, List, Option, Some}
use Rattle.std.specs.Option.{option_map}
use Rattle.sk_words.specs.declared.tables.OptionName.TheVariants as opt
use Rattle.sk_words.specs.Request.{number_or}
use Rattle.sk_words.specs.Asked.{options_in}
use Rattle.sk_words.proofs.request.Request.hold.Goals as goal

pub returns-in-Some-clause-number : goal.returns-in-Some-clause-number
returns-in-Some-clause-number c =
    let given : Some c.in-Some.field-0.now ≡ options_in c.args.self.now opt.Hold = c.in-Some.ensures.text in
    ap Some (c.number.ensures.number 0 9007199254740991 (λ text. refl))
    ∙ ap (λ (o : Option (List ℕ)). option_map (λ text. number_or 0 opt.Hold (options_in c.args.self.now)) o) given

pub returns-in-Some-clause-range : goal.returns-in-Some-clause-range
returns-in-Some-clause-range c = (c.number.ensures.range 0 9007199254740991 (λ text. refl) (omega arith, omega arith)).1
