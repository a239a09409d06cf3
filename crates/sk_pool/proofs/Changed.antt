-- A table behind one more item.
use Rattle.std.proofs.Common.{◌≡◌, ℕ, false, cond, List, [], ◌∷◌, ◌++◌, length, get_or, Option, Some, None, Err, refl, ap, sym, ◌∙◌, Bor}
use Rattle.std.specs.Option.{unwrap_or}
use Rattle.std.specs.Str.{bytes_eq}
use Rattle.std.specs.Ordering.{nat_cmp}
use Rattle.std.specs.Cmp.Lexicographic.{slice_cmp}
use Rattle.std.specs.BTreeMap.{BTreeMap, get_by, UpdatesBy}
use Rattle.std.proofs.lemmas.Map.Text.{btree_map_updates_str}
use Rattle.sk_grammar.specs.declared.value.Value.{Value}
use Rattle.sk_grammar.specs.declared.value.Op.{Op}
use Rattle.sk_grammar.specs.declared.value.Op.TheVariants.{Set, Append}
use Rattle.sk_grammar.specs.Document.{ItemView}
use Rattle.sk_grammar.specs.Variables.{VariableView, joined}
use Rattle.sk_pool.specs.Assigning.{adds_mixed, is_mixing, place_in, all_assigned, IsMixing, IsMixedOf}
use Rattle.sk_pool.specs.declared.pool.PoolFault.{PoolFault}
use Rattle.sk_pool.specs.declared.pool.PoolFault.TheVariants.{AppendMixed, NoMemory}
use Rattle.sk_pool.proofs.Finding.{Found, Absent, place_in-push}

-- the place of each name
abbrev pub places_are : BTreeMap (Bor (List ℕ)) ℕ → List (List ℕ) → Type 0
places_are places names = (name : List ℕ) → get_by (λ k. slice_cmp nat_cmp name k.now) places ≡ place_in names name

pub is_mixing-found : (names : List (List ℕ)) (values : List (List Value)) (item : ItemView) (p : ℕ) (d : List Value) → Found names values item p → is_mixing (joined names values) item ≡ adds_mixed (get_or values p d) item
is_mixing-found names values item p d f = ap (λ (o : Option (List Value)). adds_mixed (unwrap_or o []) item) (f.held d)

pub places-push : (old new : BTreeMap (Bor (List ℕ)) ℕ) (names : List (List ℕ)) (name key : List ℕ) (n : ℕ) → key ≡ name → n ≡ length names → places_are old names → place_in names name ≡ None
    → UpdatesBy (λ x y. slice_cmp nat_cmp x.now y.now) (λ k. slice_cmp nat_cmp key k.now) old new (Some n) → places_are new (names ++ name ∷ [])
places-push old new names name key n key_is n_is here none updates = λ other.
    btree_map_updates_str key old new (Some n) updates other
    ∙ ap (λ (k : List ℕ). cond (bytes_eq k other) (Some n) (get_by (λ k. slice_cmp nat_cmp other k.now) old)) key_is
    ∙ ap (λ (m : ℕ). cond (bytes_eq name other) (Some m) (get_by (λ k. slice_cmp nat_cmp other k.now) old)) n_is
    ∙ ap (λ (o : Option ℕ). cond (bytes_eq name other) (Some (length names)) o) (here other)
    ∙ sym (place_in-push names name other none)

adds_mixed-none : (name : List ℕ) (op : Op) (values : List Value) → adds_mixed [] (record { name = name; op = op; values = values }) ≡ false
adds_mixed-none name Set values = refl
adds_mixed-none name Append values = refl

pub is_mixing-absent : (names : List (List ℕ)) (values : List (List Value)) (item : ItemView) → Absent names values item → is_mixing (joined names values) item ≡ false
is_mixing-absent names values item a = ap (λ (o : Option (List Value)). adds_mixed (unwrap_or o []) item) a.held ∙ adds_mixed-none item.name item.op item.values

-- the first item mixes kinds, if the fault names it
pub mixed_at : (variables : List VariableView) (n : ℕ) (item : ItemView) (items : List ItemView) (fault : PoolFault) → IsMixing n (is_mixing variables item) fault → IsMixedOf (all_assigned variables n (item ∷ items)) fault
mixed_at variables n item items (AppendMixed m) mixing = rw mixing.1 (ap Err (sym mixing.0))
mixed_at variables n item items NoMemory mixing = tt
