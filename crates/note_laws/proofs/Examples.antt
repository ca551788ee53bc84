-- Positions by a tick, and how many decisions a run may have, by evaluation.
use Rattle.std.proofs.Common.{inl, inr, ℕ, refl, arith}
use Rattle.dvs_base.specs.declared.note.Pos.{Pos}
use Rattle.dvs_base.specs.declared.note.Totals.{Totals}
use Rattle.note_laws.specs.InTime.{IsBy}
use Rattle.note_laws.specs.LineCounts.{AreFew}

abbrev position : ℕ → ℕ → Pos
position tick offset = record { tick = tick; offset = offset }

-- a position before tick 3, and the beginning of tick 3
by_tick_3 : IsBy 3 (position 2 9) × IsBy 3 (position 3 0)
by_tick_3 = (inl (omega arith), inr (refl, refl))

-- one unit into tick 3 is too late
one_unit_late : IsBy 3 (position 3 1) → ⊥
one_unit_late (inl before) = omega (arith, before)
one_unit_late (inr at_tick) = omega (arith, at_tick.1)

abbrev totals : ℕ → ℕ → ℕ → Totals
totals released finished decisions =
    record { run = 0; idle = 0; released = released; finished = finished; decisions = decisions }

-- two releases and one completion have four decisions at most, with one at tick 0
four_decisions : AreFew (totals 2 1 4)
four_decisions = record { decisions = omega arith; completions = omega arith; two_each = omega arith }

five_decisions : AreFew (totals 2 1 5) → ⊥
five_decisions few = omega (arith, few.decisions)

-- no more jobs are complete than are released
more_completions : AreFew (totals 1 2 0) → ⊥
more_completions few = omega (arith, few.completions)
