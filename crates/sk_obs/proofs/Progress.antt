-- What the observations so far keep.
use Rattle.std.proofs.Common.{◌≡◌, ℕ, ◌<◌, ◌≤◌, List, [], ◌∷◌, ◌++◌, Option, Some, None, MatchOption, All, refl, sym, subst, arith}
use Rattle.std.proofs.lemmas.List.Elements.{All-nil, All-push, All-weaker}
use Rattle.std.proofs.lemmas.List.Quantifiers.{all_pairs_push}
use Rattle.sk_publishing.specs.Row.{RowView, AreRows, IsObservedTime}

-- the tick of the last one, if there is one, is the greatest
abbrev pub IsGreatest : Option ℕ → List RowView → Type 0
IsGreatest None list = list ≡ []
IsGreatest (Some tick) list = All (λ row. row.tick ≤ tick) list

pub record HasRows (total : ℕ) (before : Option ℕ) (list : List RowView) : Type 0 where
  pub rows : AreRows total list
  pub greatest : IsGreatest before list

pub no_rows : (total : ℕ) → HasRows total None []
no_rows total = record { rows = record { rising = λ i j d less within. absurd (omega arith); within = λ k d less. absurd (omega arith); times = λ k d less. absurd (omega arith) }; greatest = refl }

-- the tick is above that of the last one
abbrev pub IsAbove : Option ℕ → ℕ → Type 0
IsAbove before tick = MatchOption before (Unit {0}) (λ earlier. earlier < tick)

all_below : (before : Option ℕ) (list : List RowView) (tick : ℕ) → IsGreatest before list → IsAbove before tick → All (λ row. row.tick < tick) list
all_below None list tick none above = subst (λ (rows : List RowView). All (λ row. row.tick < tick) rows) (sym none) (All-nil _)
all_below (Some earlier) list tick greatest above = All-weaker (λ (row : RowView). row.tick ≤ earlier) (λ (row : RowView). row.tick < tick) (λ row le. omega arith) list greatest

pub one_more : (total : ℕ) (before : Option ℕ) (list : List RowView) (o : RowView) → HasRows total before list → IsAbove before o.tick
    → o.tick ≤ total → IsObservedTime o.time → HasRows total (Some o.tick) (list ++ o ∷ [])
one_more total before list o h above within time =
    let below = all_below before list o.tick h.greatest above in
    record {
      rows = record {
        rising = all_pairs_push (λ (a b : RowView). a.tick < b.tick) list o h.rows.rising below;
        within = All-push (λ (row : RowView). row.tick ≤ total) list o h.rows.within within;
        times = All-push (λ (row : RowView). IsObservedTime row.time) list o h.rows.times time;
      };
      greatest = All-push (λ (row : RowView). row.tick ≤ o.tick) list o (All-weaker (λ (row : RowView). row.tick < o.tick) (λ (row : RowView). row.tick ≤ o.tick) (λ row less. omega arith) list below) (let same : o.tick ≤ o.tick = omega arith in same);
    }
