-- The ticks at which the governor decides.
use Rattle.std.specs.Prelude.{ℕ, Bool, not, ◌&&◌, List, ◌∷◌, length, true, ◌||◌, []}
use Rattle.grid_fraction.specs.Numbers.{any_below}
use Rattle.sched_model.specs.Plan.{Plan, count}
use Rattle.sched_model.specs.Jobs.{JobDemands, latest, is_release}
use Rattle.sched_model.specs.Ticks.{Tick, is_done}

-- whether the latest job of task i is incomplete before the tick x and complete at its end
abbrev pub completes_in : Plan → JobDemands → Tick → List Tick → ℕ → Bool
completes_in p dem x past i =
    let k = latest p i (length past) in not (is_done p dem past i k) && is_done p dem (x ∷ past) i k

-- whether the tick after `past` is a decision instant: tick 0, a release, or the tick after a completion
abbrev pub is_decision : Plan → JobDemands → List Tick → Bool
is_decision p dem [] = true
is_decision p dem (x ∷ past) =
    is_release p (length (x ∷ past)) || any_below (count p) (λ i. completes_in p dem x past i)
