-- The demands of the latest jobs, and how they follow the state.
use Rattle.std.proofs.Common.{◌≡◌, ℕ, ◌<◌, length, get_or, get_or-set_other, refl, ap, ◌∙◌, sym}
use Rattle.std.specs.Prelude.{slice_set}
use Rattle.std.proofs.Math.ListN.{replicate}
use Rattle.sched_model.specs.declared.state.Row.{Row}
use Rattle.sched_model.specs.Plan.{count, offset, worst}
use Rattle.sched_model.specs.States.{StateView, no_row, row_at, row_wleft, opening, opening_row}
use Rattle.grid_fraction.proofs.Tables.{length-list_below, get-table, table-same, set-table, map-table}
use Rattle.sched_model.proofs.States.{left-opening}
use Rattle.agenda.proofs.StateQueues.{with_row, row-here, by-row}
use Rattle.event_kernel.specs.declared.progress.Setting.{Setting}
use Rattle.event_kernel.specs.Current.{latest_demands}
use Rattle.event_kernel.proofs.PlanBounds.{parts_of}

module _ (set : Setting) where
  open parts_of set use {p, dem}

  pub demands-long : (s : StateView) → length (latest_demands set s) ≡ count p
  demands-long s = length-list_below (count p) (λ i. dem i (row_at s i).job)

  pub demand-at : (s : StateView) (i : ℕ) → i < count p → (d : ℕ) → get_or (latest_demands set s) i d ≡ dem i (row_at s i).job
  demand-at s i lt d = get-table (count p) (λ k. dem k (row_at s k).job) i d lt

  -- before the first release the latest job is job 0, which needs nothing
  pub demands-opening : replicate (count p) 0 ≡ latest_demands set (opening p)
  demands-opening =
      left-opening p
      ∙ (map-table (count p) (λ i. opening_row (offset p i) (worst p i)) row_wleft
      ∙ table-same (count p) (λ i. 0) (λ i. dem i (row_at (opening p) i).job)
      (λ i lt. ap (λ (r : Row). dem i r.job) (sym (get-table (count p) (λ k. opening_row (offset p k) (worst p k)) i no_row lt))))

  module _ (s : StateView) (i : ℕ) (r : Row) (lt : i < length s.rows) where
    -- a row that keeps its job keeps all demands
    pub demands-kept : r.job ≡ (row_at s i).job → latest_demands set s ≡ latest_demands set (with_row s i r)
    demands-kept same =
        table-same (count p) (λ k. dem k (row_at s k).job) (λ k. dem k (row_at (with_row s i r) k).job)
        (λ k l. by-row s i r lt (λ j q. dem j (row_at s j).job ≡ dem j q.job) (ap (dem i) (sym same)) (λ j ne. refl) k)

    -- the demand of a row's new job is written
    pub demand-written : i < count p → (n : ℕ) → n ≡ dem i r.job → slice_set (latest_demands set s) i n ≡ latest_demands set (with_row s i r)
    demand-written below n is =
        set-table (count p) (λ k. dem k (row_at s k).job) (λ k. dem k (row_at (with_row s i r) k).job) i n below
        (ap (λ (q : Row). dem i q.job) (row-here s i r lt) ∙ sym is)
        (λ k l ne. ap (λ (q : Row). dem k q.job) (get_or-set_other s.rows i k r no_row ne))
