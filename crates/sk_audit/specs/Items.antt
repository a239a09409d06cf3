-- The items of a block that a publication may have.
use Rattle.std.specs.Prelude.{◌≡◌, ℕ, ◌<◌, ◌%◌, List, [], ◌∷◌, ◌++◌, length, codes, Option, true}
use Rattle.std.specs.List.{list_all}
use Rattle.sk_grammar.specs.declared.value.Value.{Value}
use Rattle.sk_grammar.specs.declared.value.Value.TheVariants.{Date}
use Rattle.sk_grammar.specs.declared.value.Op.TheVariants.{Set, Append}
use Rattle.sk_grammar.specs.Document.{ItemView}
use Rattle.sk_grammar.specs.Canonical.{is_number}
use Rattle.sk_line.specs.Triple.{coefficients_name}
use Rattle.sk_publishing.specs.Published.{id_items, coefficient_items}

-- a kernel ID, which is one date
pub record IsKernelId (item : ItemView) : Type 0 where
  pub date : List ℕ
  pub name : item.name ≡ codes "SCLK_KERNEL_ID"
  pub op : item.op ≡ Set
  pub values : item.values ≡ Date date ∷ []

-- numbers, three by three
abbrev pub AreThrees : List Value → Type 0
AreThrees values = (list_all is_number values ≡ true) × (length values % 3 ≡ 0)

-- further triples of the spacecraft
pub record IsClaim (sc : ℕ) (item : ItemView) : Type 0 where
  pub name : item.name ≡ coefficients_name sc
  pub op : item.op ≡ Append
  pub some : 0 < length item.values
  pub threes : AreThrees item.values

-- the numbers of triples, which may be left out
pub record AreClaims (sc : ℕ) (items : List ItemView) (values : List Value) : Type 0 where
  pub are : items ≡ coefficient_items sc values
  pub threes : AreThrees values

-- behind a kernel ID, which may be left out
pub record AreItems (sc : ℕ) (items : List ItemView) (values : List Value) : Type 0 where
  pub date : Option (List ℕ)
  pub are : items ≡ id_items date ++ coefficient_items sc values
  pub threes : AreThrees values
