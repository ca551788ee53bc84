-- There is exactly one constrained schedule of each length at a machine's speed.
use Rattle.std.proofs.Common.{◌≡◌, ℕ, zero, suc, ◌<◌, List, [], ◌∷◌, length, refl, arith, ap, ◌∙◌, sym, ext_get_or}
use Rattle.std.proofs.Math.ListN.{get_or-eq_default}
use Rattle.grid_fraction.specs.Numbers.{list_below}
use Rattle.freq_table.specs.Tables.{Table, speed_at, IsTable}
use Rattle.freq_table.proofs.Chosen.{speeds_rise}
use Rattle.sched_model.specs.Plan.{Plan, count}
use Rattle.sched_model.specs.Jobs.{JobDemands}
use Rattle.sched_model.specs.Ticks.{Tick, units_left, share}
use Rattle.sched_model.specs.Priority.{allotment}
use Rattle.sched_model.proofs.Allotments.{allotment_of, allotment-shares, shares-same}
use Rattle.grid_fraction.proofs.Tables.{length-list_below, get-table}
use Rattle.edf_demand_laws.specs.Constrained.{key_at, IsNextAt, IsScheduleAt, constrained_tick, schedule_at}

-- an entry with the speed of an entry of the table is that entry
pub same-entry : (m : Table) → IsTable m → (e k : ℕ) → e < length m.points → speed_at m k ≡ speed_at m e → k ≡ e
same-entry m table e k lt same = grind (arith, speeds_rise, get_or-eq_default)

module _ (p : Plan) (relative : ℕ → ℕ) (dem : JobDemands) (e : ℕ) where
  abbrev f : ℕ
  f = speed_at p.machine e

  abbrev key : List Tick → ℕ → ℕ
  key past = key_at p relative (length past)

  abbrev given : List Tick → ℕ → ℕ
  given past = allotment (count p) (key past) f (units_left p dem past)

  next-may : (past : List Tick) → IsNextAt p relative dem f past (constrained_tick p relative dem e past)
  next-may past =
      let n = count p in
      record {
        one_share_each = length-list_below n (given past);
        speed = refl;
        legal = shares-same n (key past) f (units_left p dem past) (given past) (share (constrained_tick p relative dem e past))
            (λ i lt. sym (get-table n (given past) i 0 lt)) (allotment-shares n (key past) f (units_left p dem past));
      }

  pub schedule-exists : (t : ℕ)
      → IsScheduleAt p relative dem f (schedule_at p relative dem e t) × (length (schedule_at p relative dem e t) ≡ t)
  schedule-exists zero = (tt, refl)
  schedule-exists (suc t) = grind (arith, next-may (schedule_at p relative dem e t), schedule-exists t)

  module _ (table : IsTable p.machine) (lt : e < length p.machine.points) where
    next-same : (past : List Tick) (x : Tick) → IsNextAt p relative dem f past x → x ≡ constrained_tick p relative dem e past
    next-same past x h = λ i. record { entry = same-entry p.machine table e x.entry lt h.speed i; shares = same i }
      where
        same : x.shares ≡ list_below (count p) (given past)
        same = ext_get_or 0 x.shares (list_below (count p) (given past))
            (h.one_share_each ∙ sym (length-list_below (count p) (given past)))
            (λ i l.
            let below : i < count p = omega (arith, h.one_share_each) in
            allotment_of (count p) (key past) f (units_left p dem past) (share x) h.legal i below
            ∙ sym (get-table (count p) (given past) i 0 below))

    pub schedule-only : (ticks : List Tick) → IsScheduleAt p relative dem f ticks
        → ticks ≡ schedule_at p relative dem e (length ticks)
    schedule-only [] h = refl
    schedule-only (x ∷ past) h =
        ap (λ y. y ∷ past) (next-same past x h.1) ∙ ap (λ ps. constrained_tick p relative dem e ps ∷ ps) (schedule-only past h.0)
