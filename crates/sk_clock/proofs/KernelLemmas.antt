-- What a kernel's numbers are, and what they are not.
use Rattle.std.proofs.Common.{◌≡◌, ℕ, ◌+◌, ◌-◌, ◌^◌, ◌<◌, List, [], ◌∷◌, length, map, drop, get_or, min, Option, Some, None, All, refl, ap, sym, ◌∙◌, arith, subst, pos, inl, inr, ◌≢◌, ◌++◌, MatchOption, Result, Ok, Err}
use Rattle.std.specs.Int.{IsInRange}
use Rattle.std.proofs.lemmas.List.{get_or-map, length-map}
use Rattle.sk_decimal.specs.Number.{DecimalView}
use Rattle.sk_grammar.specs.Variables.{VariableView, whole, values_at}
use Rattle.sk_clock.specs.declared.partition.Partition.{Partition}
use Rattle.sk_checks.specs.Checks.{Check, NoneRefuses, FirstRefuses, JudgesUnless}
use Rattle.sk_checks.proofs.ChecksLemmas.{FirstRefuses-rest, NoneRefuses-append}
use Rattle.sk_clock.specs.declared.fault.ClockKernelFault.TheVariants.{Missing}
use Rattle.sk_clock.specs.declared.fault.ClockName.{ClockName}
use Rattle.sk_clock.specs.declared.fault.ClockName.TheVariants.{Fields, Moduli, Offsets, Delim, Start, End}
use Rattle.sk_clock.specs.Clock.{ClockView, product, ArePartitions}
use Rattle.sk_clock.specs.Kernel.{name_of, AreWhole, IsWhole, missing_checks, HasModuli, HasOffsets, HasPartitions, IsClockOf}
use Rattle.sk_clock.specs.Stages.{number_checks}
use Rattle.sk_clock.specs.Numbers.{AreNumbers}

whole_injective : (m n : ℕ) → whole m ≡ whole n → m ≡ n
whole_injective m n same =
    let a : DecimalView = record { coefficient = pos m; scale = 0 } in
    let b : DecimalView = record { coefficient = pos n; scale = 0 } in
    let decimals : a ≡ b = cc in
    let coefficients = ap (λ (d : DecimalView). d.coefficient) decimals in
    cc

map-whole_injective : (ms ns : List ℕ) → map whole ms ≡ map whole ns → ms ≡ ns
map-whole_injective [] [] same = refl
map-whole_injective [] (n ∷ ns) same = cc
map-whole_injective (m ∷ ms) [] same = cc
map-whole_injective (m ∷ ms) (n ∷ ns) same =
    let first : whole m ≡ whole n = cc in
    let rest : map whole ms ≡ map whole ns = cc in
    let head = whole_injective m n first in
    let tail = map-whole_injective ms ns rest in
    cc

-- a variable is one list of whole numbers
pub same_numbers : (pool : List VariableView) (name ms ns : List ℕ) → AreWhole pool name ms → AreWhole pool name ns → ms ≡ ns
same_numbers pool name ms ns a b = map-whole_injective ms ns (let both = sym a ∙ b in cc)

pub same_number : (pool : List VariableView) (name : List ℕ) (m n : ℕ) → IsWhole pool name m → IsWhole pool name n → m ≡ n
same_number pool name m n a b = let both = same_numbers pool name (m ∷ []) (n ∷ []) a b in cc

pub moduli_too_large : (pool : List VariableView) (sc : ℕ) (name ns : List ℕ) (most low high n : ℕ) → name ≡ name_of Moduli sc → AreNumbers pool name most low high ns
    → n ≡ min (product (drop 1 ns)) (2 ^ 32 + 1) → 2 ^ 32 < n
    → (moduli : List ℕ) → ¬ HasModuli pool sc moduli
moduli_too_large pool sc name ns most low high n named numbers is large moduli = λ has.
    let same = same_numbers pool (name_of Moduli sc) moduli ns has.are_whole (subst (λ (bytes : List ℕ). AreWhole pool bytes ns) named numbers.are_whole) in
    let few = has.are_moduli.2 in
    omega (arith, ap (λ (xs : List ℕ). product (drop 1 xs)) same)

pub no_offsets : (pool : List VariableView) (sc fields : ℕ) (name : List ℕ) → name ≡ name_of Offsets sc → IsWhole pool (name_of Fields sc) fields → IsInRange 1 10 fields
    → ((ns : List ℕ) → ¬ AreNumbers pool name 10 0 (2 ^ 32) ns)
    → (offsets : List ℕ) → ¬ HasOffsets pool sc offsets
no_offsets pool sc fields name named are_fields count none offsets = λ has.
    let same = same_number pool (name_of Fields sc) (length offsets) fields has.as_many are_fields in
    none offsets record {
      are_whole = subst (λ (bytes : List ℕ). AreWhole pool bytes offsets) (sym named) has.are_whole;
      some = omega arith;
      few = omega arith;
      each = λ k d h. (omega arith, has.small k d h);
    }

pub no_starts : (pool : List VariableView) (sc : ℕ) (name : List ℕ) → name ≡ name_of Start sc
    → ((ns : List ℕ) → ¬ AreNumbers pool name 9999 0 (2 ^ 53 - 1) ns)
    → (partitions : List Partition) → ¬ HasPartitions pool sc partitions
no_starts pool sc name named none partitions = λ has.
    let count = length-map partitions (λ (p : Partition). p.start) in
    let some = has.are_partitions.some in
    none (map (λ (p : Partition). p.start) partitions) record {
      are_whole = subst (λ (bytes : List ℕ). AreWhole pool bytes (map (λ (p : Partition). p.start) partitions)) (sym named) has.starts;
      some = omega arith;
      few = omega arith;
      each = λ k d h.
          let e : Partition = record { start = 0; end = 0 } in
          let at = has.are_partitions.each k e (omega arith) in
          let read = get_or-map (λ (p : Partition). p.start) partitions k e d (omega arith) in
          (omega arith, omega (arith, at.0, at.1, read));
    }

pub no_ends : (pool : List VariableView) (sc : ℕ) (name : List ℕ) → name ≡ name_of End sc
    → ((ns : List ℕ) → ¬ AreNumbers pool name 9999 0 (2 ^ 53 - 1) ns)
    → (partitions : List Partition) → ¬ HasPartitions pool sc partitions
no_ends pool sc name named none partitions = λ has.
    let count = length-map partitions (λ (p : Partition). p.end) in
    let some = has.are_partitions.some in
    none (map (λ (p : Partition). p.end) partitions) record {
      are_whole = subst (λ (bytes : List ℕ). AreWhole pool bytes (map (λ (p : Partition). p.end) partitions)) (sym named) has.ends;
      some = omega arith;
      few = omega arith;
      each = λ k d h.
          let e : Partition = record { start = 0; end = 0 } in
          let at = has.are_partitions.each k e (omega arith) in
          let read = get_or-map (λ (p : Partition). p.end) partitions k e d (omega arith) in
          (omega arith, omega (arith, at.1, read));
    }

-- starts and ends are those of one list
pub paired_injective : (ps qs : List Partition) → map (λ (p : Partition). p.start) ps ≡ map (λ (p : Partition). p.start) qs → map (λ (p : Partition). p.end) ps ≡ map (λ (p : Partition). p.end) qs → ps ≡ qs
paired_injective [] [] starts ends = refl
paired_injective [] (q ∷ qs) starts ends = cc
paired_injective (p ∷ ps) [] starts ends = cc
paired_injective (p ∷ ps) (q ∷ qs) starts ends =
    let start : p.start ≡ q.start = cc in
    let end : p.end ≡ q.end = cc in
    let more_starts : map (λ (p : Partition). p.start) ps ≡ map (λ (p : Partition). p.start) qs = cc in
    let more_ends : map (λ (p : Partition). p.end) ps ≡ map (λ (p : Partition). p.end) qs = cc in
    let rest = paired_injective ps qs more_starts more_ends in
    let first : p ≡ q = ap (λ (s : ℕ). record { start = s; end = p.end }) start ∙ ap (λ (e : ℕ). record { start = q.start; end = e }) end in
    cc

-- the ends of partitions that have these ends
pub ends_below : (ps : List Partition) (ends : List ℕ) → map (λ (p : Partition). p.end) ps ≡ ends → All (IsInRange 0 (2 ^ 53 - 1)) ends → All (λ (p : Partition). p.end < 2 ^ 53) ps
ends_below ps ends same all k d h =
    let lt : k < length ends = omega (arith, ap length same, length-map ps (λ (p : Partition). p.end)) in
    let at = all k 0 lt in
    let read = sym (get_or-map (λ (p : Partition). p.end) ps k d 0 h) ∙ ap (λ (xs : List ℕ). get_or xs k 0) same in
    omega (arith, at.1, read)

pub no_partitions : (pool : List VariableView) (sc : ℕ) (start_name end_name starts ends : List ℕ) (ps : List Partition)
    → start_name ≡ name_of Start sc → end_name ≡ name_of End sc → AreWhole pool start_name starts → AreWhole pool end_name ends
    → map (λ (p : Partition). p.start) ps ≡ starts → map (λ (p : Partition). p.end) ps ≡ ends → ¬ ArePartitions ps
    → (partitions : List Partition) → ¬ HasPartitions pool sc partitions
no_partitions pool sc start_name end_name starts ends ps start_named end_named are_starts are_ends with_starts with_ends none partitions = λ has.
    let same_starts = same_numbers pool (name_of Start sc) _ starts has.starts (subst (λ (bytes : List ℕ). AreWhole pool bytes starts) start_named are_starts) in
    let same_ends = same_numbers pool (name_of End sc) _ ends has.ends (subst (λ (bytes : List ℕ). AreWhole pool bytes ends) end_named are_ends) in
    let same = paired_injective partitions ps (same_starts ∙ sym with_starts) (same_ends ∙ sym with_ends) in
    none (subst (λ (xs : List Partition). ArePartitions xs) same has.are_partitions)

-- what is found missing among these names
abbrev pub FindsMissing : List VariableView → ℕ → List ClockName → Option ClockName → Type 0
FindsMissing pool sc names found = MatchOption found (NoneRefuses (missing_checks pool sc names)) (λ name. FirstRefuses (missing_checks pool sc names) (Missing name))

-- a variable that is there changes nothing
pub FindsMissing-more : (pool : List VariableView) (sc : ℕ) (name : ClockName) (names : List ClockName) (found : Option ClockName)
    → values_at (name_of name sc) pool ≢ None → FindsMissing pool sc names found → FindsMissing pool sc (name ∷ names) found
FindsMissing-more pool sc name names None there finds = (there, finds)
FindsMissing-more pool sc name names (Some missing) there finds = inr (there, finds)

-- the numbers of a clock, where none is refused
pub numbers_kept : (pool : List VariableView) (sc fields delimiter : ℕ) (fields_name delimiter_name moduli offsets : List ℕ) (partitions : List Partition) (clock : ClockView)
    → fields_name ≡ name_of Fields sc → IsWhole pool fields_name fields × IsInRange 1 10 fields
    → HasModuli pool sc moduli → HasOffsets pool sc offsets
    → delimiter_name ≡ name_of Delim sc → IsWhole pool delimiter_name delimiter × IsInRange 1 5 delimiter
    → HasPartitions pool sc partitions
    → clock ≡ record { moduli = moduli; offsets = offsets; delimiter = delimiter; partitions = partitions }
    → NoneRefuses (number_checks pool sc) × IsClockOf pool sc clock
numbers_kept pool sc fields delimiter fields_name delimiter_name moduli offsets partitions clock fields_named are_fields has_moduli has_offsets delimiter_named is_delimiter has_partitions is =
    let one_fields = subst (λ (name : List ℕ). IsWhole pool name fields) fields_named are_fields.0 in
    let one_delimiter = subst (λ (name : List ℕ). IsWhole pool name delimiter) delimiter_named is_delimiter.0 in
    let whole : IsClockOf pool sc (record { moduli = moduli; offsets = offsets; delimiter = delimiter; partitions = partitions })
    = record { moduli = has_moduli; offsets = has_offsets; delimiter = one_delimiter; partitions = has_partitions } in (
      (
        λ not. not (fields, one_fields, are_fields.1),
        (λ none. none moduli has_moduli, (λ none. none offsets has_offsets, (λ not. not (delimiter, one_delimiter, is_delimiter.1), (λ none. none partitions has_partitions, tt)))),
      ),
      subst (λ (c : ClockView). IsClockOf pool sc c) (sym is) whole,
    )

-- checks that pass stand before others
pub judged_after : {T F : Type 0} (memory : F) (a b : List (Check F)) (P : T → Type 0) (r : Result T F) → NoneRefuses a → JudgesUnless memory b P r → JudgesUnless memory (a ++ b) P r
judged_after memory a b P (Ok value) none judged = (NoneRefuses-append a b none judged.0, judged.1)
judged_after memory a b P (Err fault) none judged = elim judged [ inl is ↦ inl is | inr first ↦ inr (FirstRefuses-rest a b fault none first) ]
