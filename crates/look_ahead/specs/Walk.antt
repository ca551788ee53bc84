-- One task of the walk from the last in EDF order to the first. `hyper` is H, `rate` the task's rate ui, `left` what
-- its job may still need, and `slack` the ticks from the earliest deadline to its own. `spare` is what the highest
-- speed does in H ticks beyond the rates ui of this task and those still to come, and the vi of those that are done;
-- `first` is what those that are done have to run before the earliest deadline.
use Rattle.std.specs.Prelude.{ℕ, ◌+◌, ◌-◌, ◌*◌, ◌/◌, nat_eq, if◌then◌else◌}
use Rattle.grid_fraction.specs.Numbers.{ceil_div}

-- the units of the task that can't be put off: the highest speed has no room for them beside the other rates
abbrev pub not_put_off : ℕ → ℕ → ℕ → ℕ → ℕ → ℕ
not_put_off hyper rate left slack spare = left - (spare + rate) * slack / hyper

-- what the highest speed does beyond the rates, after the step of the task
abbrev pub next_spare : ℕ → ℕ → ℕ → ℕ → ℕ → ℕ
next_spare hyper rate left slack spare =
    if nat_eq slack 0
    then spare
    else (spare + rate) - ceil_div ((left - not_put_off hyper rate left slack spare) * hyper) slack

-- what has to run before the earliest deadline, after the step of the task
abbrev pub next_first : ℕ → ℕ → ℕ → ℕ → ℕ → ℕ → ℕ
next_first hyper rate left slack spare first =
    if nat_eq slack 0
    then first + left
    else first + not_put_off hyper rate left slack spare
