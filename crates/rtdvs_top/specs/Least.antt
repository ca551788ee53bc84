-- The answer of `least`, and what its bound says.
use Rattle.std.specs.Prelude.{ℕ, List, [], ◌∷◌, codes, decimal, Bool, if◌then◌else◌, ◌++◌, Result, Ok, Err, ◌≡◌, ◌<◌, ◌*◌}
use Rattle.dvs_base.specs.Checks.{◌>>=◌}
use Rattle.dvs_base.specs.Outside.{Files}
use Rattle.trace_text.specs.TraceLines.{line}
use Rattle.freq_table.specs.Tables.{Table, highest_speed}
use Rattle.energy_bound.specs.FirstPairs.{least_energy_of}
use Rattle.energy_bound.specs.Certificates.{IsCertificate}
use Rattle.energy_bound.specs.Schedules.{IsLeast}
use Rattle.energy_bound.specs.declared.least.Least.{Least}
use Rattle.energy_bound.specs.declared.least.Over.{Over}
use Rattle.words.specs.Commands.{LeastView}
use Rattle.statuses.specs.declared.status.Denied.{Denied}
use Rattle.statuses.specs.declared.status.Denied.TheVariants as denied
use Rattle.statuses.specs.declared.status.Status.{Status}
use Rattle.statuses.specs.declared.status.Status.TheVariants as status
use Rattle.command_files.specs.Meanings.{machine_at}

-- the first line: the repetitions, the two corners by their speeds, each with its ticks, and what these cost
abbrev pub corners_text : Least → List ℕ
corners_text a =
    line (
    codes "least" ∷ decimal a.rounds ∷ decimal a.low ∷ decimal a.low_ticks ∷ decimal a.high ∷ decimal a.high_ticks
    ∷ decimal a.energy
    ∷ [])

-- the word of a sign
abbrev pub sign_word : Bool → List ℕ
sign_word minus = if minus then codes "minus" else codes "plus"

-- the second line: the price of a unit, and the price of a tick with its sign
abbrev pub prices_text : Least → List ℕ
prices_text a =
    line (codes "prices" ∷ decimal a.unit_price ∷ sign_word a.tick_minus ∷ decimal a.tick_price ∷ [])

-- the two lines of `least`
abbrev pub least_text : Least → List ℕ
least_text a = corners_text a ++ prices_text a

-- what `least` answers, with its refusal as a status
abbrev pub least_from : Result Least Over → Result (List ℕ) Status
least_from (Ok a) = Ok (least_text a)
least_from (Err e) = Err (status.NotAdmitted (denied.Units e.num e.cap))

-- the answer of `least` on a machine
unfoldable pub least_on : LeastView → Table → Result (List ℕ) Status
least_on l m = least_from (least_energy_of m l.units l.ticks)

-- the answer of `least`
abbrev pub least_answer : LeastView → Files → Result (List ℕ) Status
least_answer l files = do
  machine ← machine_at l.machine files
  least_on l machine

-- The answer is the machine's, and its certificate is one of two corners, so it passes the check. No choice and no
-- schedule of `l.ticks` ticks that runs `l.units` units costs less, and over the answer's repetitions this is reached.
pub record IsLeastOn (m : Table) (l : LeastView) (a : Least) : Type 0 where
  pub answer : least_energy_of m l.units l.ticks ≡ Ok a
  pub certificate : IsCertificate m l.units l.ticks a
  pub least : IsLeast m l.units l.ticks a

-- more units are asked for than the highest speed does in the ticks, with the two numbers
pub record AreTooMany (m : Table) (l : LeastView) (why : Denied) : Type 0 where
  pub numbers : why ≡ denied.Units l.units (l.ticks * highest_speed m)
  pub more : l.ticks * highest_speed m < l.units
