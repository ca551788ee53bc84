-- The least energy of numbers: the answer, what it proves, and that the program answers alike for a file of them.
use Rattle.std.specs.Prelude.{◌≡◌, ℕ, ◌||◌, nat_lt, if◌then◌else◌, Result, Ok, Err}
use Rattle.dvs_base.specs.Checks.{◌>>=◌}
use Rattle.dvs_base.specs.Outside.{Files}
use Rattle.dvs_base.specs.declared.limits.TheConstants.{MOST_TICKS}
use Rattle.freq_table.specs.Tables.{Table}
use Rattle.energy_bound.specs.declared.least.Least.{Least}
use Rattle.energy_bound.specs.declared.least.Over.{Over}
use Rattle.energy_bound.specs.FirstPairs.{least_energy_of}
use Rattle.energy_bound.specs.Certificates.{IsCertificate}
use Rattle.energy_bound.specs.Schedules.{IsLeast}
use Rattle.words.specs.Commands.{LeastView, least}
use Rattle.statuses.specs.declared.status.Denied.TheVariants as denied
use Rattle.statuses.specs.declared.status.Status.{Status}
use Rattle.statuses.specs.declared.status.Status.TheVariants as status
use Rattle.statuses.specs.Status.{code_of}
use Rattle.statuses.specs.Refused.{or_status}
use Rattle.command_files.specs.Meanings.{machine_at}
use Rattle.rtdvs_top.specs.Least.{least_text}
use Rattle.rtdvs_top.specs.Promises.{answer_of_command}
use Rattle.rtdvs_c.specs.declared.causes.TheConstants.{NO_TICKS, TICKS}
use Rattle.rtdvs_c.specs.declared.number_types.Work.{Work}
use Rattle.rtdvs_c.specs.declared.number_types.Refusal.{Refusal}
use Rattle.rtdvs_c.specs.declared.number_types.LeastEnergy.{LeastEnergy}
use Rattle.rtdvs_c.specs.Numbers.{halves_of, no_refusal, refused_at, refusal_of}
use Rattle.rtdvs_c.specs.NumberReplies.{NumbersView, machine_on}

-- the answer of a certificate
abbrev pub certified : Least → LeastEnergy
certified a = record {
  rounds = a.rounds;
  low = a.low;
  low_ticks = a.low_ticks;
  high = a.high;
  high_ticks = a.high_ticks;
  energy = halves_of a.energy;
  unit_price = halves_of a.unit_price;
  tick_price = halves_of a.tick_price;
  tick_minus = if a.tick_minus then 1 else 0;
  refusal = no_refusal;
}

-- the answer of numbers that are refused, or of too many units
abbrev pub refused_least : Refusal → LeastEnergy
refused_least refusal = record {
  rounds = 0;
  low = 0;
  low_ticks = 0;
  high = 0;
  high_ticks = 0;
  energy = halves_of 0;
  unit_price = halves_of 0;
  tick_price = halves_of 0;
  tick_minus = 0;
  refusal = refusal;
}

-- too many units as a status
abbrev pub over_status : Over → Status
over_status e = status.NotAdmitted (denied.Units e.num e.cap)

-- the least energy for the work on a machine, or the status of too many units
abbrev pub least_by : Table → Work → Result Least Status
least_by m w = or_status over_status (least_energy_of m w.units w.ticks)

-- the least energy for the work on the machine of the numbers, or the status that refuses it
abbrev pub least_of_numbers : NumbersView → Work → Result Least Status
least_of_numbers n w = do
  m ← machine_on n
  least_by m w

-- what a call replies: its exit status and its answer
pub record LeastReply : Type 0 where
  pub code : ℕ
  pub answer : LeastEnergy

-- the reply of the least energy, or of the status that refuses it
abbrev pub least_reply_of : Result Least Status → LeastReply
least_reply_of (Ok a) = record { code = 0; answer = certified a }
least_reply_of (Err s) = record { code = code_of s; answer = refused_least (refusal_of s) }

-- what a call for the work on the machine of the numbers replies
abbrev pub least_reply : NumbersView → Work → LeastReply
least_reply n w =
    if nat_lt w.ticks 1 || nat_lt MOST_TICKS w.ticks
    then record { code = NO_TICKS; answer = refused_least (refused_at TICKS 0) }
    else least_reply_of (least_of_numbers n w)

-- the answer is the machine's, its certificate passes the check, and no choice and no schedule costs less
abbrev pub IsLeastNumbers : NumbersView → Work → Type 0
IsLeastNumbers n w =
    (m : Table) × (a : Least) × (machine_on n ≡ Ok m) × (least_energy_of m w.units w.ticks ≡ Ok a)
    × IsCertificate m w.units w.ticks a × IsLeast m w.units w.ticks a

-- for a file that describes the machine of the numbers, `least` has the text of the numbers' answer, or their status
abbrev pub LeastAsFiles : NumbersView → Work → Type 0
LeastAsFiles n w =
    (l : LeastView) (files : Files) → machine_at l.machine files ≡ machine_on n → l.units ≡ w.units → l.ticks ≡ w.ticks
    → answer_of_command (least l) files ≡ (least_of_numbers n w >>= (λ a. Ok (least_text a)))
