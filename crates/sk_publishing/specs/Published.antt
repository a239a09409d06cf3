-- The block that a publication appends to a kernel.
use Rattle.std.specs.Prelude.{ℕ, suc, zero, ◌%◌, ℤ, pos, nat_abs, ◌==◌, List, [], ◌∷◌, ◌++◌, codes, decimal, flat_map, Option, Some, None, if◌then◌else◌}
use Rattle.std.specs.Int.RustNames.{int_div}
use Rattle.sk_decimal.specs.Number.{DecimalView}
use Rattle.sk_grammar.specs.declared.value.Value.{Value}
use Rattle.sk_grammar.specs.declared.value.Value.TheVariants.{Number, Date}
use Rattle.sk_grammar.specs.declared.value.Op.TheVariants.{Set, Append}
use Rattle.sk_grammar.specs.Document.{ItemView, BlockView, DocView}
use Rattle.sk_line.specs.Triple.{TripleView, coefficients_name}

-- units / 10 ^ places, with no digit after the point that is there for nothing
abbrev pub reduced : ℕ → ℤ → DecimalView
reduced zero units = record { coefficient = units; scale = 0 }
reduced (suc places) units =
    if nat_abs units % 10 == 0 then reduced places (int_div units (pos 10)) else record { coefficient = units; scale = suc places }

-- ticks, time and rate
abbrev pub triple_values : TripleView → List Value
triple_values t = Number (reduced 0 (pos t.anchor.ticks)) ∷ Number (reduced 18 t.anchor.time) ∷ Number (reduced 18 t.rate) ∷ []

-- the kernel ID, where one is given: `@` and the text
abbrev pub id_items : Option (List ℕ) → List ItemView
id_items None = []
id_items (Some date) = record { name = codes "SCLK_KERNEL_ID"; op = Set; values = Date date ∷ [] } ∷ []

-- the numbers of the new triples, where there are any
abbrev pub coefficient_items : ℕ → List Value → List ItemView
coefficient_items sc [] = []
coefficient_items sc (value ∷ values) = record { name = coefficients_name sc; op = Append; values = value ∷ values } ∷ []

abbrev pub published_block : Option (List ℕ) → ℕ → List TripleView → List (List ℕ) → BlockView
published_block date sc triples table =
    record { items = id_items date ++ coefficient_items sc (flat_map triple_values triples); text = table }

abbrev pub appended : DocView → BlockView → DocView
appended doc block = record { head = doc.head; blocks = doc.blocks ++ block ∷ [] }
