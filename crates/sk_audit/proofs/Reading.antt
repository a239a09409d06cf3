-- Three values after three values, a triple is read.
use Rattle.std.proofs.Common.{◌≡◌, ◌≢◌, ℕ, suc, ◌<◌, List, [], ◌∷◌, ◌++◌, length, length-append, refl, sym, ap, ◌∙◌, append_assoc, append-nil, arith, None, Some, Option, SomeIff}
use Rattle.std.specs.Prelude.{ℤ, pos, negsuc, nat_abs, ◌^◌}
use Rattle.sk_decimal.specs.Fixed.{FitsWide}
use Rattle.std.specs.List.{All, flat_map}
use Rattle.std.proofs.lemmas.List.Elements.{All-head, All-tail}
use Rattle.sk_line.specs.Triple.{TripleView}
use Rattle.sk_grammar.specs.declared.value.Value.{Value}
use Rattle.sk_publication.specs.Publication.{HasNumbers}
use Rattle.sk_publishing.specs.Published.{triple_values}
use Rattle.sk_audit.specs.Read.{AreOfNone, AreReadAs}
use Rattle.sk_audit.proofs.Numbers.{cancel, front_is}

-- where the values are those of triples, these begin with what is read, and the rest is of the others
abbrev pub Leaves : List Value → List TripleView → List Value → Type 0
Leaves values read rest = (triples : List TripleView) → All HasNumbers triples → values ≡ flat_map triple_values triples
    → (more : List TripleView) × (triples ≡ read ++ more) × (rest ≡ flat_map triple_values more) × All HasNumbers more

pub leaves_all : (values : List Value) → Leaves values [] values
leaves_all values triples numbers e = (triples, refl, e, numbers)

module _ (values rest three behind : List Value) (read : List TripleView) (so_far : Leaves values read rest) (long : length three ≡ 3) (whole : three ++ behind ≡ rest) where
  none_left : (more : List TripleView) → rest ≡ flat_map triple_values more → more ≡ [] → ⊥
  none_left more is none =
      let a = ap length (whole ∙ is ∙ ap (flat_map triple_values) none) in
      let b = length-append three behind in
      omega arith

  pub leaves_one : (t : TripleView) → ((u : TripleView) → HasNumbers u → three ≡ triple_values u → t ≡ u) → Leaves values (read ++ t ∷ []) behind
  leaves_one t reads triples numbers e = let l = so_far triples numbers e in by l.0 l.1 l.2 l.3
    where
      by : (more : List TripleView) → triples ≡ read ++ more → rest ≡ flat_map triple_values more → All HasNumbers more
          → (more : List TripleView) × (triples ≡ (read ++ t ∷ []) ++ more) × (behind ≡ flat_map triple_values more) × All HasNumbers more
      by [] is rest_is each = absurd (none_left [] rest_is refl)
      by (u ∷ more) is rest_is each =
          let front : three ≡ triple_values u = front_is three behind u (flat_map triple_values more) long (whole ∙ rest_is) in
          let same : t ≡ u = reads u (All-head HasNumbers u more each) front in
          let left : behind ≡ flat_map triple_values more =
          cancel (triple_values u) behind (flat_map triple_values more) (sym (ap (λ (l : List Value). l ++ behind) front) ∙ whole ∙ rest_is) in
          (more, is ∙ ap (λ (x : TripleView). read ++ x ∷ more) (sym same) ∙ sym (append_assoc read (t ∷ []) more), left, All-tail HasNumbers u more each)

  pub none_reads : ((u : TripleView) → HasNumbers u → three ≢ triple_values u) → AreOfNone values
  none_reads reads triples numbers e = let l = so_far triples numbers e in by l.0 l.2 l.3
    where
      by : (more : List TripleView) → rest ≡ flat_map triple_values more → All HasNumbers more → ⊥
      by [] rest_is each = none_left [] rest_is refl
      by (u ∷ more) rest_is each = reads u (All-head HasNumbers u more each) (front_is three behind u (flat_map triple_values more) long (whole ∙ rest_is))

pub ends : (values rest : List Value) (read : List TripleView) → Leaves values read rest → length rest < 3 → AreReadAs values read
ends values rest read so_far short triples numbers e = let l = so_far triples numbers e in by l.0 l.1 l.2
  where
    by : (more : List TripleView) → triples ≡ read ++ more → rest ≡ flat_map triple_values more → triples ≡ read
    by [] is rest_is = is ∙ append-nil read
    by (u ∷ more) is rest_is = absurd (let a = ap length rest_is in let b = length-append (triple_values u) (flat_map triple_values more) in omega arith)

pub not_none : {A : Type 0} (o : Option A) (a : A) → o ≡ None → o ≡ Some a → ⊥
not_none o a none some = absent (sym none ∙ some)
  where
    absent : None ≡ Some a → ⊥
    absent e = cc

-- what is there exactly where a fact holds is there where it does
pub some_iff : {A : Type 0} (o : Option A) (P : Type 0) (a : A) → SomeIff o P a → P → o ≡ Some a
some_iff None P a h p = absurd (h p)
some_iff (Some x) P a h p = ap Some h.1

-- ---- numbers, and a triple of them

pub fits_wide : (z : ℤ) → nat_abs z < 2 ^ 127 → FitsWide z
fits_wide (pos n) h = record { sfits = h }
fits_wide (negsuc n) h = record { sfits = smaller n (2 ^ 127) h }
  where
    smaller : (n m : ℕ) → suc n < m → n < m
    smaller n m h = omega arith

pub triple_same : (ticks : ℕ) (time rate : ℤ) (t : TripleView) → ticks ≡ t.anchor.ticks → time ≡ t.anchor.time → rate ≡ t.rate
    → record { anchor = record { ticks = ticks; time = time }; rate = rate } ≡ t
triple_same ticks time rate t p q r = λ i. record { anchor = record { ticks = p i; time = q i }; rate = r i }
