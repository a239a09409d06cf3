use Rattle.std.proofs.Common.{◌≡◌, ◌-◌, ◌∷◌, List, ℕ, length, take, drop, ap, sym, ◌∙◌}
use Rattle.sk_triples.proofs.RowTimes.{at_sign, whole_rest, date_read}
use Rattle.sk_triples.proofs.numbers.calendar_time.Goals as goal

pub returns-then-first-eq64 : goal.returns-then-first-eq64
returns-then-first-eq64 c =
    let date = c.args.date.now in
    let is : date ≡ 64 ∷ take (length date - 1) (drop 1 date) = at_sign date _ c.in-len1-up.len_at_least c.if-first-eq64.true ∙ ap (λ (xs : List ℕ). 64 ∷ xs) (sym (whole_rest date)) in
    date_read (λ time. time.units) date (take (length date - 1) (drop 1 date)) c.read_calendar_time.result is c.read_calendar_time.ensures
