-- One observation after another: what is built goes on, or an observation stops it.
use Rattle.std.proofs.Common.{◌≡◌, ℕ, ◌+◌, ◌<◌, ◌^◌, List, sym, subst, take, drop, true, inl, inr}
use Rattle.std.specs.Prelude.{Some, slice_get}
use Rattle.sk_publishing.specs.Row.{RowView}
use Rattle.sk_clock.specs.Clock.{total}
use Rattle.sk_publishing.specs.Terms.{Sight, Terms, sights}
use Rattle.sk_publishing.specs.Kept.{Sorts, is_new}
use Rattle.sk_audit.specs.Given.{sight_at}
use Rattle.sk_audit.specs.Walking.{WalkView, Moves, StopsWalk}
use Rattle.sk_audit.specs.Scene.{SceneView, IsScene, IsNext, terms}
use Rattle.sk_audit.specs.Walked.{IsWalked, IsStopped}
use Rattle.sk_audit.proofs.Observed.{here_row, take_row, sorts_more, at_row, rises_row, in_range}

pub goes_on : (t : Terms) (rows : List RowView) (n : ℕ) (row : RowView) (w w' : WalkView) → slice_get rows n ≡ Some row
    → Moves t (sights rows) n (sight_at n row) w w' → IsWalked t rows n w → IsWalked t rows (n + 1) w'
goes_on t rows n row w w' here moves h =
    let m = moves h.kept h.dropped h.walk in
    record {
      kept = m.0;
      dropped = m.1;
      sorts = subst (λ (z : List Sight). Sorts t z m.0 m.1) (sym (take_row rows n row here))
          (sorts_more t (take n (sights rows)) (sight_at n row) h.kept h.dropped m.0 m.1 h.sorts m.2);
      walk = m.3;
    }

pub stops : (t : Terms) (rows : List RowView) (n : ℕ) (row : RowView) (w : WalkView) → slice_get rows n ≡ Some row
    → is_new t (sight_at n row) ≡ true → IsWalked t rows n w → StopsWalk t (sights rows) n (sight_at n row) w → IsStopped t rows
stops t rows n row w here new h s = (
  sight_at n row,
  elim (s h.kept h.dropped h.walk) [
    | inl why ↦ inl (record {
      before = take n (sights rows);
      after = drop (n + 1) (sights rows);
      here = here_row rows n row here;
      is_new = new;
      kept = h.kept;
      dropped = h.dropped;
      sorts = h.sorts;
      used_up = why.1;
      no_rate = why.0;
    })
    | inr why ↦ inr (record {
      before = take n (sights rows);
      after = drop (n + 1) (sights rows);
      here = here_row rows n row here;
      is_new = new;
      kept = h.kept;
      dropped = h.dropped;
      sorts = h.sorts;
      falls = why;
    })
  ],
)

-- the next observation keeps to what a walk asks of it
pub next_one : (scene : SceneView) (n : ℕ) (row : RowView) → IsScene scene → slice_get scene.rows n ≡ Some row → n + 1 < 2 ^ 64
    → is_new (terms scene) (sight_at n row) ≡ true → IsNext scene n row
next_one scene n row given here short new =
    let range = in_range (total scene.clock) scene.rows n row given.observed here in
    record {
      given = given;
      at = at_row scene.rows n row here;
      rises = rises_row (total scene.clock) scene.rows n row given.observed here;
      new = new;
      not_past = range.0;
      from = range.1;
      to = range.2;
      short = short;
    }
