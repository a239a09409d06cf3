-- The files that a command reads are those that its options name, in their order.
use Rattle.std.proofs.Common.{◌≡◌, ◌<◌, ◌+◌, List, ℕ, zero, suc, [], ◌∷◌, ◌++◌, length, map, take, get_or, Option, Some, None, false, refl, sym, ap, subst, ◌∙◌, arith, inl, inr, Bor}
use Rattle.std.specs.Prelude.{is_none, unwrap_or}
use Rattle.std.specs.Option.{option_to_list, option_map_or}
use Rattle.std.proofs.lemmas.List.{length-map, get_or-map, take_more}
use Rattle.sk_edge.specs.Asked.{Asks, IsPart}
use Rattle.sk_edge.proofs.Asking.{Asks-then, part_all, part_behind, part_front, part_append}
use Rattle.sk_words.specs.declared.tables.Command.{Command}
use Rattle.sk_words.specs.declared.tables.Command.TheVariants.{Publish, Residuals, Normal, Convert, Sample, Invert, Audit, Excerpt, Least, Plot}
use Rattle.sk_words.specs.declared.tables.OptionName.TheVariants as opt
use Rattle.sk_words.specs.Request.{Options, files_of, over_names, text_or}
use Rattle.sk_words.proofs.Needed.{AreNamed}
use Rattle.sk_outcome.specs.Joined.{named_over}
use Rattle.station.specs.Asking.{opened_names, inputs_names, audit_names, plot_names, joined_names, names_read}

named_part : (name : Option (List ℕ)) → is_none name ≡ false → IsPart (unwrap_or name [] ∷ []) (option_to_list name)
named_part None given = cc
named_part (Some name) given = inl (refl, tt)

abbrev leap_in : Options → List (List ℕ)
leap_in options = option_to_list (options opt.Leap)

abbrev kernel_in : Options → List (List ℕ)
kernel_in options = option_to_list (options opt.Kernel)

abbrev observations_in : Options → List (List ℕ)
observations_in options = option_to_list (options opt.Obs)

abbrev new_in : Options → List (List ℕ)
new_in options = option_to_list (options opt.New)

abbrev over_in : Options → List (List ℕ)
over_in options = option_map_or over_names (options opt.Over) []

-- what is part of the names of kernels and observations is part of all names
among_three : (options : Options) (names : List (List ℕ)) → IsPart names (leap_in options ++ kernel_in options ++ observations_in options) → IsPart names (files_of options)
among_three options names p =
    let three = leap_in options ++ kernel_in options ++ observations_in options in
    part_front names (three ++ new_in options) (over_in options) (part_front names three (new_in options) p)

opened_part : (options : Options) → is_none (options opt.Kernel) ≡ false → IsPart (opened_names options) (leap_in options ++ kernel_in options)
opened_part options given =
    part_append (leap_in options) (leap_in options) (text_or opt.Kernel options ∷ []) (kernel_in options) (part_all (leap_in options)) (named_part (options opt.Kernel) given)

inputs_part : (options : Options) → is_none (options opt.Kernel) ≡ false → is_none (options opt.Obs) ≡ false → IsPart (inputs_names options) (files_of options)
inputs_part options kernel observations =
    among_three options (inputs_names options)
    (part_append (opened_names options) (leap_in options ++ kernel_in options) (text_or opt.Obs options ∷ []) (observations_in options)
    (opened_part options kernel) (named_part (options opt.Obs) observations))

audit_part : (options : Options) → is_none (options opt.Kernel) ≡ false → is_none (options opt.Obs) ≡ false → is_none (options opt.New) ≡ false
    → IsPart (audit_names options) (files_of options)
audit_part options kernel observations new =
    let three = leap_in options ++ kernel_in options ++ observations_in options in
    part_front (audit_names options) (three ++ new_in options) (over_in options)
    (part_append (inputs_names options) three (text_or opt.New options ∷ []) (new_in options)
    (part_append (opened_names options) (leap_in options ++ kernel_in options) (text_or opt.Obs options ∷ []) (observations_in options)
    (opened_part options kernel) (named_part (options opt.Obs) observations))
    (named_part (options opt.New) new))

plot_part : (options : Options) → is_none (options opt.Kernel) ≡ false → is_none (options opt.Obs) ≡ false → IsPart (plot_names options) (files_of options)
plot_part options kernel observations =
    let three = leap_in options ++ kernel_in options ++ observations_in options in
    part_front (plot_names options) (three ++ new_in options) (over_in options)
    (part_append (inputs_names options) three (new_in options) (new_in options)
    (part_append (opened_names options) (leap_in options ++ kernel_in options) (text_or opt.Obs options ∷ []) (observations_in options)
    (opened_part options kernel) (named_part (options opt.Obs) observations))
    (part_all (new_in options)))

two_part : (options : Options) → is_none (options opt.Kernel) ≡ false → IsPart (opened_names options) (files_of options)
two_part options given =
    among_three options (opened_names options)
    (part_front (opened_names options) (leap_in options ++ kernel_in options) (observations_in options) (opened_part options given))

one_part : (options : Options) → is_none (options opt.Kernel) ≡ false → IsPart (text_or opt.Kernel options ∷ []) (files_of options)
one_part options given =
    let name = text_or opt.Kernel options ∷ [] in
    among_three options name
    (part_front name (leap_in options ++ kernel_in options) (observations_in options)
    (part_behind (leap_in options) name (kernel_in options) (named_part (options opt.Kernel) given)))

joined_part : (options : Options) → is_none (options opt.Kernel) ≡ false → IsPart (joined_names options) (files_of options)
joined_part options given =
    let name = text_or opt.Kernel options ∷ [] in
    let three = leap_in options ++ kernel_in options ++ observations_in options in
    part_append name (three ++ new_in options) (named_over options) (over_in options)
    (part_front name three (new_in options)
    (part_front name (leap_in options ++ kernel_in options) (observations_in options)
    (part_behind (leap_in options) name (kernel_in options) (named_part (options opt.Kernel) given))))
    (part_all (named_over options))

pub names_part : (command : Command) (options : Options) → AreNamed command options → IsPart (names_read command options) (files_of options)
names_part Publish options named = inputs_part options named.0 named.1
names_part Residuals options named = inputs_part options named.0 named.1
names_part Normal options named = one_part options named
names_part Convert options named = two_part options named
names_part Sample options named = tt
names_part Invert options named = two_part options named
names_part Audit options named = audit_part options named.0 named.1 named.2
names_part Excerpt options named = joined_part options named
names_part Least options named = inputs_part options named.0 named.1
names_part Plot options named = plot_part options named.0 named.1

-- ---- files one after the other, by their places

pub part_take : {A : Type 0} (count : ℕ) (xs : List A) → IsPart (take count xs) xs
part_take zero xs = tt
part_take (suc count) [] = tt
part_take (suc count) (x ∷ xs) = inl (refl, part_take count xs)

pub asks_more : (a b z : Option (List (List ℕ))) (names : List (Bor (List ℕ))) (index : ℕ) (none : Bor (List ℕ)) → index < length names
    → Asks a b (take index (map (λ (n : Bor (List ℕ)). n.now) names)) → Asks b z ((get_or names index none).now ∷ [])
    → Asks a z (take (index + 1) (map (λ (n : Bor (List ℕ)). n.now) names))
asks_more a b z names index none low p q =
    let now : Bor (List ℕ) → List ℕ = λ n. n.now in
    let texts : List (List ℕ) = map now names in
    let name : List ℕ = (get_or names index none).now in
    let more : take (index + 1) texts ≡ take index texts ++ name ∷ [] =
    take_more texts index name (omega (arith, low, length-map names now))
    ∙ ap (λ (t : List ℕ). take index texts ++ t ∷ []) (get_or-map now names index none name low) in
    subst (λ (ns : List (List ℕ)). Asks a z ns) (sym more) (Asks-then a b z (take index texts) (name ∷ []) p q)
