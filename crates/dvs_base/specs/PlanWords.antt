-- The words of a plan: its scheduler and its governor, which are a pair, and its number of ticks.
use Rattle.std.specs.Prelude.{Bool, true, false, ◌≡◌, ℕ, List, codes, Option, Some, None, if◌then◌else◌, ◌&&◌, nat_le}
use Rattle.dvs_base.specs.declared.kind.Scheduler.{Scheduler}
use Rattle.dvs_base.specs.declared.kind.Scheduler.TheVariants.{Edf, Rm}
use Rattle.dvs_base.specs.declared.kind.GovernorKind.{GovernorKind}
use Rattle.dvs_base.specs.declared.kind.GovernorKind.TheVariants.{Plain, Fixed, Cycle, Ahead}
use Rattle.std.specs.Str.{bytes_eq}
use Rattle.dvs_base.specs.declared.limits.TheConstants.{MOST_TICKS}
use Rattle.dvs_base.specs.Widths.{u64_end}
use Rattle.dvs_base.specs.Text.{number_below}

-- the seven pairs of a scheduler and a governor: look-ahead is only for EDF
abbrev pub is_pair : Scheduler → GovernorKind → Bool
is_pair Edf Plain = true
is_pair Edf Fixed = true
is_pair Edf Cycle = true
is_pair Edf Ahead = true
is_pair Rm Plain = true
is_pair Rm Fixed = true
is_pair Rm Cycle = true
is_pair Rm Ahead = false

-- a scheduler and a governor are one of the seven pairs
abbrev pub IsPair : Scheduler → GovernorKind → Type 0
IsPair scheduler governor = is_pair scheduler governor ≡ true

-- the scheduler that a word names: `edf` or `rm`
abbrev pub scheduler_of : List ℕ → Option Scheduler
scheduler_of word =
    if bytes_eq word (codes "edf") then Some Edf
    else (if bytes_eq word (codes "rm") then Some Rm else None)

-- the governor that a word names: `none`, `static`, `cc` or `la`
abbrev pub governor_of : List ℕ → Option GovernorKind
governor_of word =
    if bytes_eq word (codes "none") then Some Plain
    else (if bytes_eq word (codes "static") then Some Fixed
    else (if bytes_eq word (codes "cc") then Some Cycle
    else (if bytes_eq word (codes "la") then Some Ahead else None)))

-- the number, if it is 1 to the most ticks of a run
abbrev pub ticks_from : Option ℕ → Option ℕ
ticks_from None = None
ticks_from (Some n) = if nat_le 1 n && nat_le n MOST_TICKS then Some n else None

-- the number of ticks that a word spells
abbrev pub ticks_of : List ℕ → Option ℕ
ticks_of word = ticks_from (number_below u64_end word)
