-- What the processor does for the loads of a search.
use Rattle.std.specs.Prelude.{◌≡◌, ℕ, ◌*◌, ◌≤◌, ◌<◌}
use Rattle.sched_model.specs.Plan.{Plan, hyper, top_speed}
use Rattle.rm_response.specs.declared.inputs.Supply.{Supply}

-- a supply does n units in t ticks
abbrev pub IsDone : Supply → ℕ → ℕ → Type 0
IsDone s n t = n * s.hyper ≤ s.units * t

-- n units are more than a supply does in t ticks
abbrev pub IsMore : Supply → ℕ → ℕ → Type 0
IsMore s n t = s.units * t < n * s.hyper

-- the whole processor at the highest speed of a plan
pub record IsFull (p : Plan) (s : Supply) : Type 0 where
  pub speed_is : s.speed ≡ top_speed p
  pub hyper_is : s.hyper ≡ hyper p
  pub units_is : s.units ≡ top_speed p * hyper p
