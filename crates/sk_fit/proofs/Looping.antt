-- One observation after another: what is built goes on, or an observation stops it.
use Rattle.std.proofs.Common.{◌≡◌, ℕ, ◌+◌, ◌<◌, ◌^◌, List, sym, subst, take, drop, true}
use Rattle.std.specs.Prelude.{Some, slice_get}
use Rattle.sk_publishing.specs.Row.{RowView}
use Rattle.sk_clock.specs.Clock.{total}
use Rattle.sk_publishing.specs.Terms.{Sight, Terms, sights}
use Rattle.sk_publishing.specs.Kept.{Sorts, is_new}
use Rattle.sk_fit.specs.declared.fault.FitFault.{FitFault}
use Rattle.sk_fit.specs.declared.fault.FitFault.TheVariants.{BadHold, OldFalls, BandEmpty, NoRate, TimeFalls, TooMany, NoMemory}
use Rattle.sk_fit.specs.Given.{sight_at}
use Rattle.sk_fit.specs.State.{FittingView, Moves, StopsBy}
use Rattle.sk_fit.specs.Context.{FitView, IsFit, IsNext, terms}
use Rattle.sk_fit.specs.Fitted.{IsFitted, StopsAt}
use Rattle.sk_fit.proofs.Observed.{here_row, take_row, sorts_more, at_row, rises_row, in_range}

pub goes_on : (t : Terms) (rows : List RowView) (n : ℕ) (row : RowView) (f f' : FittingView) → slice_get rows n ≡ Some row
    → Moves t (sights rows) n (sight_at n row) f f' → IsFitted t rows n f → IsFitted t rows (n + 1) f'
goes_on t rows n row f f' here moves h =
    let m = moves h.kept h.dropped h.fitting in
    record {
      kept = m.0;
      dropped = m.1;
      sorts = subst (λ (z : List Sight). Sorts t z m.0 m.1) (sym (take_row rows n row here))
          (sorts_more t (take n (sights rows)) (sight_at n row) h.kept h.dropped m.0 m.1 h.sorts m.2);
      fitting = m.3;
    }

pub stops : (t : Terms) (rows : List RowView) (n : ℕ) (row : RowView) (f : FittingView) (fault : FitFault) → slice_get rows n ≡ Some row
    → is_new t (sight_at n row) ≡ true → IsFitted t rows n f → StopsBy t rows n (sight_at n row) f row.number fault → StopsAt t rows fault
stops t rows n row f (NoRate number barrier) here new h s =
    let why = s.1 h.kept h.dropped h.fitting in (
      sight_at n row,
      record {
        before = take n (sights rows);
        after = drop (n + 1) (sights rows);
        here = here_row rows n row here;
        is_new = new;
        kept = h.kept;
        dropped = h.dropped;
        sorts = h.sorts;
        used_up = why.2;
        no_rate = why.0;
      },
      (row, here, s.0),
      why.1,
    )
stops t rows n row f (TimeFalls number) here new h s =
    let why = s.1 h.kept h.dropped h.fitting in (
      sight_at n row,
      record {
        before = take n (sights rows);
        after = drop (n + 1) (sights rows);
        here = here_row rows n row here;
        is_new = new;
        kept = h.kept;
        dropped = h.dropped;
        sorts = h.sorts;
        falls = why;
      },
      (row, here, s.0),
    )
stops t rows n row f NoMemory here new h s = tt
stops t rows n row f BadHold here new h s = s
stops t rows n row f (OldFalls fall) here new h s = s
stops t rows n row f BandEmpty here new h s = s
stops t rows n row f TooMany here new h s = s

-- the next observation keeps to what a fit asks of it
pub next_one : (fit : FitView) (n : ℕ) (row : RowView) → IsFit fit → slice_get fit.rows n ≡ Some row → n + 1 < 2 ^ 64
    → is_new (terms fit) (sight_at n row) ≡ true → IsNext fit n row
next_one fit n row given here short new =
    let range = in_range (total fit.clock) fit.rows n row given.observed here in
    record {
      given = given;
      at = at_row fit.rows n row here;
      rises = rises_row (total fit.clock) fit.rows n row given.observed here;
      new = new;
      not_past = range.0;
      from = range.1;
      to = range.2;
      short = short;
    }
