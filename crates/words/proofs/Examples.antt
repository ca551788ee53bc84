-- The words of the command line and what is read from them, by evaluation.
use Rattle.std.proofs.Common.{◌≡◌, ℕ, true, List, [], ◌∷◌, Result, None, Ok, Err, codes, replicate, refl}
use Rattle.dvs_base.specs.declared.kind.Scheduler.TheVariants.{Edf}
use Rattle.dvs_base.specs.declared.kind.GovernorKind.TheVariants.{Ahead}
use Rattle.dvs_base.specs.declared.kind.Version.TheVariants.{Two}
use Rattle.words.specs.declared.command.Opt.TheVariants as opt
use Rattle.words.specs.declared.command.WordFault.{WordFault}
use Rattle.words.specs.declared.command.WordFault.TheVariants as fault
use Rattle.words.specs.Commands.{CommandView, run}
use Rattle.words.specs.Reading.{command_of}

-- options come in any order, and a value may begin with `--`: the name of the task file here is `--machine`
run_read :
    command_of
    (codes "run"
    ∷ codes "--format" ∷ codes "2"
    ∷ codes "--tasks" ∷ codes "--machine"
    ∷ codes "--probes"
    ∷ codes "--machine" ∷ codes "m.toml"
    ∷ codes "--ticks" ∷ codes "16"
    ∷ codes "--governor" ∷ codes "la"
    ∷ codes "--scheduler" ∷ codes "edf"
    ∷ [])
    ≡ Ok (run (record {
      tasks = codes "--machine";
      machine = codes "m.toml";
      scheduler = Edf;
      governor = Ahead;
      ticks = 16;
      demands = None;
      probes = true;
      version = Two;
    }))
run_read = refl

-- a bad value is refused at its place, before a later word that is not an option of the command
bad_value :
    command_of (codes "run" ∷ codes "--ticks" ∷ codes "0" ∷ codes "--seed" ∷ []) ≡ Err (fault.BadValue 3 (codes "0"))
bad_value = refl

-- the name of a server is not empty
empty_name : command_of (codes "poll" ∷ codes "--server" ∷ [] ∷ []) ≡ Err (fault.BadValue 3 [])
empty_name = refl

-- an option that is given twice is repeated, even if it is the last word and has no value
repeated :
    command_of (codes "admit" ∷ codes "--tasks" ∷ codes "t" ∷ codes "--tasks" ∷ [])
    ≡ Err (fault.Repeated 4 (codes "--tasks"))
repeated = refl

-- an option without its value is refused at its own place, before a missing option is
no_value : command_of (codes "least" ∷ codes "--units" ∷ []) ≡ Err (fault.NoValue 2 (codes "--units"))
no_value = refl

-- a command with only its task file
abbrev with_tasks : List ℕ → Result CommandView WordFault
with_tasks verb = command_of (verb ∷ codes "--tasks" ∷ codes "t" ∷ [])

-- of several missing options the first in the table's order is named, here the machine
machine_missing :
    (with_tasks (codes "run") ∷ with_tasks (codes "admit") ∷ with_tasks (codes "replay") ∷ with_tasks (codes "migrate")
    ∷ with_tasks (codes "constrain") ∷ with_tasks (codes "poll") ∷ [])
    ≡ replicate 6 (Err (fault.Missing opt.Machine))
machine_missing = refl

-- `poll` without requests and server: the requests are named
requests_missing :
    command_of (codes "poll" ∷ codes "--machine" ∷ codes "m" ∷ codes "--tasks" ∷ codes "t" ∷ [])
    ≡ Err (fault.Missing opt.Requests)
requests_missing = refl

-- `least` without units and ticks: the units are named
units_missing : command_of (codes "least" ∷ codes "--machine" ∷ codes "m" ∷ []) ≡ Err (fault.Missing opt.Units)
units_missing = refl

-- a run with scheduler rm, governor la and more words
abbrev rm_ahead : List (List ℕ) → Result CommandView WordFault
rm_ahead more =
    command_of
    (codes "run" ∷ codes "--scheduler" ∷ codes "rm" ∷ codes "--governor" ∷ codes "la" ∷ codes "--tasks" ∷ codes "t"
    ∷ codes "--machine" ∷ codes "m" ∷ more)

-- the pair is refused last, after a missing number of ticks
pair_last :
    (rm_ahead [] ∷ rm_ahead (codes "--ticks" ∷ codes "16" ∷ []) ∷ [])
    ≡ (Err (fault.Missing opt.Ticks) ∷ Err fault.Pair ∷ [])
pair_last = refl
