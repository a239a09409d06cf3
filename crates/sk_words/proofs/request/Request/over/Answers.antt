use Rattle.std.proofs.Common.{rules, arith, ◌≡◌, ℕ, ◌≤◌, Bool, true, false, ◌&&◌, List, [], length, map, ap, subst, Vec, Global, Bor, Option, Some, Result, Ok, Err}
use Rattle.std.specs.Prelude.{IfOk, IsTrue}
use Rattle.std.specs.List.{list_all}
use Rattle.std.specs.Option.{option_map_or}
use Rattle.std.proofs.lemmas.Bool.{false≢true}
use Rattle.std.proofs.lemmas.List.{length-map}
use Rattle.sk_words.specs.declared.tables.OptionName.TheVariants as opt
use Rattle.sk_words.specs.Request.{over_names, is_in_range, is_file_name}
use Rattle.sk_words.proofs.request.Request.over.Goals as goal

second : (a b : Bool) → (a && b) ≡ true → b ≡ true
second true b h = h
second false b h = absurd (false≢true h)

sixteen : (text : List ℕ) → IsTrue (is_in_range opt.Over text) → length (over_names text) ≤ 16
sixteen text h = let few = second (list_all is_file_name (over_names text)) _ h in search rules

few_if : {E : Type 0} (r : Result (Vec (Bor (List ℕ)) Global) E) (text : List ℕ) → IsTrue (is_in_range opt.Over text)
    → IfOk r (λ names. map (λ name. name.now) names.items ≡ over_names text) → IfOk r (λ names. length names.items ≤ 16)
few_if (Ok names) text h e = omega (arith, sixteen text h, ap length e, length-map names.items (λ (name : Bor (List ℕ)). name.now))
few_if (Err s) text h e = tt

pub returns-in-Some-clause-names : goal.returns-in-Some-clause-names
returns-in-Some-clause-names c =
    subst (λ (o : Option (List ℕ)). IfOk c.names_in.result (λ names. map (λ name. name.now) names.items ≡ option_map_or over_names o []))
    c.in-Some.ensures.text c.names_in.ensures

pub returns-in-Some-clause-few : goal.returns-in-Some-clause-few
returns-in-Some-clause-few c = few_if c.names_in.result c.in-Some.text.now c.in-Some.ensures.range c.names_in.ensures
