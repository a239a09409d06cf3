-- The items that a block may have, one after the other.
use Rattle.std.specs.Prelude.{IfSome}
use Rattle.std.proofs.Common.{◌≡◌, ℕ, ◌<◌, ◌≤◌, List, [], ◌∷◌, ◌++◌, length, get_or, drop, codes, refl, sym, ap, subst, ◌∙◌, arith, Option, None, Some}
use Rattle.sk_grammar.specs.declared.value.Value.{Value}
use Rattle.sk_grammar.specs.declared.value.Value.TheVariants.{Date}
use Rattle.sk_grammar.specs.declared.value.Op.{Op}
use Rattle.sk_grammar.specs.declared.value.Op.TheVariants.{Set, Append}
use Rattle.sk_grammar.specs.Document.{ItemView}
use Rattle.sk_line.specs.Triple.{coefficients_name}
use Rattle.sk_publishing.specs.Published.{id_items, coefficient_items}
use Rattle.sk_audit.specs.Items.{AreClaims, AreItems, AreThrees, IsClaim, IsKernelId}

abbrev made : List ℕ → Op → List Value → ItemView
made name op values = record { name = name; op = op; values = values }

made_same : (name name' : List ℕ) (op op' : Op) (values values' : List Value) → name ≡ name' → op ≡ op' → values ≡ values' → made name op values ≡ made name' op' values'
made_same name name' op op' values values' p q r = ap (λ (x : List ℕ). made x op values) p ∙ ap (λ (x : Op). made name' x values) q ∙ ap (made name' op') r

heads : (a b : ItemView) (xs ys : List ItemView) → a ∷ xs ≡ b ∷ ys → a ≡ b
heads a b xs ys e = cc

tails : (a b : ItemView) (xs ys : List ItemView) → a ∷ xs ≡ b ∷ ys → xs ≡ ys
tails a b xs ys e = cc

-- ---- the claim alone

pub no_claims : (sc : ℕ) → AreClaims sc [] []
no_claims sc = record { are = refl; threes = (refl, refl) }

claim_items : (sc : ℕ) (name : List ℕ) (op : Op) (values : List Value) → name ≡ coefficients_name sc → op ≡ Append → 0 < length values
    → made name op values ∷ [] ≡ coefficient_items sc values
claim_items sc name op [] p q some = absurd (omega arith)
claim_items sc name op (v ∷ values) p q some = ap (λ (x : ItemView). x ∷ []) (made_same name (coefficients_name sc) op Append (v ∷ values) (v ∷ values) p q refl)

pub one_claim : (sc : ℕ) (item : ItemView) → IsClaim sc item → AreClaims sc (item ∷ []) item.values
one_claim sc item h = record { are = claim_items sc item.name item.op item.values h.name h.op h.some; threes = h.threes }

is_claim_of : (sc : ℕ) (item : ItemView) (values : List Value) → item ∷ [] ≡ coefficient_items sc values → AreThrees values → IsClaim sc item
is_claim_of sc item [] e threes = absurd (let l = ap length e in omega arith)
is_claim_of sc item (v ∷ values) e threes =
    let one : item ≡ made (coefficients_name sc) Append (v ∷ values) = heads item (made (coefficients_name sc) Append (v ∷ values)) [] [] e in
    subst (IsClaim sc) (sym one) (record { name = refl; op = refl; some = omega arith; threes = threes })

pub claim_of : (sc : ℕ) (item : ItemView) (values : List Value) → AreClaims sc (item ∷ []) values → IsClaim sc item
claim_of sc item values h = is_claim_of sc item values h.are h.threes

two_items : (sc : ℕ) (a b : ItemView) (more : List ItemView) (values : List Value) → a ∷ b ∷ more ≡ coefficient_items sc values → ⊥
two_items sc a b more [] e = let l = ap length e in omega arith
two_items sc a b more (v ∷ values) e = let l = ap length e in omega arith

pub no_two : (sc : ℕ) (a b : ItemView) (more : List ItemView) (values : List Value) → ¬ AreClaims sc (a ∷ b ∷ more) values
no_two sc a b more values h = two_items sc a b more values h.are

-- ---- behind a kernel ID

pub no_items : (sc : ℕ) → AreItems sc [] []
no_items sc = record { date = None; are = refl; threes = (refl, refl) }

pub with_id : (sc : ℕ) (first : ItemView) (rest : List ItemView) (values : List Value) → IsKernelId first → AreClaims sc rest values → AreItems sc (first ∷ rest) values
with_id sc first rest values id h = record {
  date = Some id.date;
  are = ap (λ (x : ItemView). x ∷ rest) (made_same first.name (codes "SCLK_KERNEL_ID") first.op Set first.values (Date id.date ∷ []) id.name id.op id.values)
      ∙ ap (λ (z : List ItemView). made (codes "SCLK_KERNEL_ID") Set (Date id.date ∷ []) ∷ z) h.are;
  threes = h.threes;
}

set_is_append : Set ≡ Append → ⊥
set_is_append e = cc

behind : (sc : ℕ) (first : ItemView) (rest : List ItemView) (values : List Value) (date : Option (List ℕ)) → IsKernelId first
    → first ∷ rest ≡ id_items date ++ coefficient_items sc values → AreThrees values → AreClaims sc rest values
behind sc first rest values (Some date) id e threes = record { are = tails first _ rest (coefficient_items sc values) e; threes = threes }
behind sc first rest [] None id e threes = absurd (let l = ap length e in omega arith)
behind sc first rest (v ∷ values) None id e threes =
    let one : first ≡ made (coefficients_name sc) Append (v ∷ values) = heads first (made (coefficients_name sc) Append (v ∷ values)) rest [] e in
    absurd (set_is_append (sym id.op ∙ ap (λ (x : ItemView). x.op) one))

pub claims_behind : (sc : ℕ) (first : ItemView) (rest : List ItemView) (values : List Value) → IsKernelId first → AreItems sc (first ∷ rest) values → AreClaims sc rest values
claims_behind sc first rest values id h = behind sc first rest values h.date id h.are h.threes

pub without_id : (sc : ℕ) (items : List ItemView) (values : List Value) → AreClaims sc items values → AreItems sc items values
without_id sc items values h = record { date = None; are = h.are; threes = h.threes }

alone : (sc : ℕ) (first : ItemView) (rest : List ItemView) (values : List Value) (date : Option (List ℕ)) → ¬ IsKernelId first
    → first ∷ rest ≡ id_items date ++ coefficient_items sc values → AreThrees values → AreClaims sc (first ∷ rest) values
alone sc first rest values (Some date) other e threes =
    absurd (other (subst IsKernelId (sym (heads first _ rest (coefficient_items sc values) e)) (record { date = date; name = refl; op = refl; values = refl })))
alone sc first rest values None other e threes = record { are = e; threes = threes }

pub claims_alone : (sc : ℕ) (first : ItemView) (rest : List ItemView) (values : List Value) → ¬ IsKernelId first → AreItems sc (first ∷ rest) values → AreClaims sc (first ∷ rest) values
claims_alone sc first rest values other h = alone sc first rest values h.date other h.are h.threes

pub map_some : {T : Type 0} (o : Option T) (P Q : T → Type 0) → ((x : T) → P x → Q x) → IfSome o P → IfSome o Q
map_some None P Q f h = tt
map_some (Some x) P Q f h = f x h

pub split_first : (items : List ItemView) (first : ItemView) → 1 ≤ length items → first ≡ get_or items 0 first → items ≡ first ∷ drop 1 items
split_first [] first some at = absurd (omega arith)
split_first (x ∷ items) first some at = ap (λ (y : ItemView). y ∷ items) (sym at)
