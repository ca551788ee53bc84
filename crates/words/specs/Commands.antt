-- The row of each command: its required options in order, and the value of an optional one that was not given.
use Rattle.std.specs.Prelude.{ℕ, Bool, false, List, Option, Some, None, ◌≤◌, ⊤, Result, Ok, Err, if◌then◌else◌, is_some, unwrap_or}
use Rattle.std.specs.Option.{ok_or}
use Rattle.dvs_base.specs.Checks.{◌>>=◌}
use Rattle.dvs_base.specs.PlanWords.{IsPair, is_pair}
use Rattle.dvs_base.specs.declared.limits.TheConstants.{MOST_TICKS}
use Rattle.dvs_base.specs.declared.kind.Scheduler.{Scheduler}
use Rattle.dvs_base.specs.declared.kind.GovernorKind.{GovernorKind}
use Rattle.dvs_base.specs.declared.kind.Version.{Version}
use Rattle.dvs_base.specs.declared.kind.Version.TheVariants.{One}
use Rattle.words.specs.declared.table.Verb.{Verb}
use Rattle.words.specs.declared.table.Verb.TheVariants as verb
use Rattle.words.specs.declared.command.Opt.{Opt}
use Rattle.words.specs.declared.command.Opt.TheVariants as opt
use Rattle.words.specs.declared.command.WordFault.{WordFault}
use Rattle.words.specs.declared.command.WordFault.TheVariants as fault
use Rattle.words.specs.declared.command.TraceUse.{TraceUse}
use Rattle.words.specs.declared.command.TraceUse.TheVariants.{Replay, Migrate}
use Rattle.words.specs.Table.{GivenView}

-- what the words of `run` name: files by their names, the scheduler, the governor, the number of ticks, whether the
-- probes are printed, and the version of the trace
pub record RunView : Type 0 where
  pub tasks : List ℕ
  pub machine : List ℕ
  pub scheduler : Scheduler
  pub governor : GovernorKind
  pub ticks : ℕ
  pub demands : Option (List ℕ)
  pub probes : Bool
  pub version : Version

-- what the words of `admit` name
pub record AdmitView : Type 0 where
  pub tasks : List ℕ
  pub machine : List ℕ
  pub scheduler : Scheduler

-- what the words of `replay` or `migrate` name, and which of the two they ask for
pub record TracedView : Type 0 where
  pub asked : TraceUse
  pub tasks : List ℕ
  pub machine : List ℕ
  pub trace : List ℕ

-- what the words of `response` name
pub record ResponseView : Type 0 where
  pub tasks : List ℕ
  pub machine : List ℕ

-- what the words of `constrain` name
pub record ConstrainView : Type 0 where
  pub tasks : List ℕ
  pub machine : List ℕ
  pub deadlines : List ℕ

-- what the words of `poll` name: files by their names, the task that serves, and the pair and the ticks of the run
pub record PollView : Type 0 where
  pub tasks : List ℕ
  pub machine : List ℕ
  pub requests : List ℕ
  pub server : List ℕ
  pub scheduler : Scheduler
  pub governor : GovernorKind
  pub ticks : ℕ

-- what the words of `least` name: the machine's file, the work units, and the number of ticks
pub record LeastView : Type 0 where
  pub machine : List ℕ
  pub units : ℕ
  pub ticks : ℕ

-- a command with what its words name: `traced` is a replay or a migration, and `workload` has its seed
pub data CommandView : Type 0 where
  run : RunView → CommandView
  admit : AdmitView → CommandView
  traced : TracedView → CommandView
  workload : ℕ → CommandView
  response : ResponseView → CommandView
  constrain : ConstrainView → CommandView
  poll : PollView → CommandView
  least : LeastView → CommandView

-- a scheduler and a governor that are a pair, and a number of ticks within the limits
pub record IsReadyFor (scheduler : Scheduler) (governor : GovernorKind) (ticks : ℕ) : Type 0 where
  pub pair : IsPair scheduler governor
  pub some_ticks : 1 ≤ ticks
  pub few_ticks : ticks ≤ MOST_TICKS

-- the scheduler and the governor of a run are a pair, and its number of ticks is within the limits
abbrev pub IsReady : RunView → Type 0
IsReady r = IsReadyFor r.scheduler r.governor r.ticks

-- the number of ticks of `least` is within the limits of a run
pub record HasReadyTicks (l : LeastView) : Type 0 where
  pub some_ticks : 1 ≤ l.ticks
  pub few_ticks : l.ticks ≤ MOST_TICKS

-- a command is ready: its numbers are within the limits, and its scheduler and governor, if it has both, are a pair
abbrev pub IsReadyCommand : CommandView → Type 0
IsReadyCommand (run r) = IsReady r
IsReadyCommand (poll q) = IsReadyFor q.scheduler q.governor q.ticks
IsReadyCommand (least l) = HasReadyTicks l
IsReadyCommand c = ⊤

-- whether a command asks for probes
abbrev pub asks_probes : CommandView → Bool
asks_probes (run r) = r.probes
asks_probes c = false

-- the file of tasks that a command names, if it names one
abbrev pub tasks_name : CommandView → Option (List ℕ)
tasks_name (run r) = Some r.tasks
tasks_name (admit a) = Some a.tasks
tasks_name (traced r) = Some r.tasks
tasks_name (workload seed) = None
tasks_name (response r) = Some r.tasks
tasks_name (constrain r) = Some r.tasks
tasks_name (poll q) = Some q.tasks
tasks_name (least l) = None

-- the value of a required option; `Missing` if none was given
abbrev pub need : {A : Type 0} → Opt → Option A → Result A WordFault
need option value = ok_or value (fault.Missing option)

-- the scheduler, the governor and the number of ticks of a run
pub record TimedView : Type 0 where
  pub scheduler : Scheduler
  pub governor : GovernorKind
  pub ticks : ℕ

-- the pair and the ticks of a run, from the given values: the first one not given is missing, and last comes the pair
abbrev pub timed_of : GivenView → Result TimedView WordFault
timed_of g = do
  scheduler ← need opt.Scheduler g.scheduler
  governor ← need opt.Governor g.governor
  ticks ← need opt.Ticks g.ticks
  if is_pair scheduler governor
      then Ok (record { scheduler = scheduler; governor = governor; ticks = ticks })
      else Err fault.Pair

-- what `run` names, from the given values: the first required option not given is missing, and last comes the pair
abbrev pub given_run : GivenView → Result RunView WordFault
given_run g = do
  tasks ← need opt.Tasks g.tasks
  machine ← need opt.Machine g.machine
  timed ← timed_of g
  Ok (record {
    tasks = tasks;
    machine = machine;
    scheduler = timed.scheduler;
    governor = timed.governor;
    ticks = timed.ticks;
    demands = g.demands;
    probes = is_some g.probes;
    version = unwrap_or g.format One;
  })

-- what `admit` names, from the given values
abbrev pub given_admit : GivenView → Result AdmitView WordFault
given_admit g = do
  tasks ← need opt.Tasks g.tasks
  machine ← need opt.Machine g.machine
  scheduler ← need opt.Scheduler g.scheduler
  Ok (record { tasks = tasks; machine = machine; scheduler = scheduler })

-- what `replay` or `migrate` names, from the given values
abbrev pub given_traced : TraceUse → GivenView → Result TracedView WordFault
given_traced asked g = do
  tasks ← need opt.Tasks g.tasks
  machine ← need opt.Machine g.machine
  trace ← need opt.Trace g.trace
  Ok (record { asked = asked; tasks = tasks; machine = machine; trace = trace })

-- the `replay` or the `migrate` command, as asked, from the given values
abbrev pub trace_command : TraceUse → GivenView → Result CommandView WordFault
trace_command asked g = given_traced asked g >>= (λ r. Ok (traced r))

-- what `response` names, from the given values
abbrev pub given_response : GivenView → Result ResponseView WordFault
given_response g = do
  tasks ← need opt.Tasks g.tasks
  machine ← need opt.Machine g.machine
  Ok (record { tasks = tasks; machine = machine })

-- what `constrain` names, from the given values
abbrev pub given_constrain : GivenView → Result ConstrainView WordFault
given_constrain g = do
  tasks ← need opt.Tasks g.tasks
  machine ← need opt.Machine g.machine
  deadlines ← need opt.Deadlines g.deadlines
  Ok (record { tasks = tasks; machine = machine; deadlines = deadlines })

-- what `least` names, from the given values
abbrev pub given_least : GivenView → Result LeastView WordFault
given_least g = do
  machine ← need opt.Machine g.machine
  units ← need opt.Units g.units
  ticks ← need opt.Ticks g.ticks
  Ok (record { machine = machine; units = units; ticks = ticks })

-- what `poll` names, from the given values
abbrev pub given_poll : GivenView → Result PollView WordFault
given_poll g = do
  tasks ← need opt.Tasks g.tasks
  machine ← need opt.Machine g.machine
  requests ← need opt.Requests g.requests
  server ← need opt.Server g.server
  timed ← timed_of g
  Ok (record {
    tasks = tasks;
    machine = machine;
    requests = requests;
    server = server;
    scheduler = timed.scheduler;
    governor = timed.governor;
    ticks = timed.ticks;
  })

-- the command from the given values, or the refusal: the first required option not given; last, a pair that isn't one
abbrev pub command_from : Verb → GivenView → Result CommandView WordFault
command_from verb.Run g = given_run g >>= (λ r. Ok (run r))
command_from verb.Admit g = given_admit g >>= (λ a. Ok (admit a))
command_from verb.Replay g = trace_command Replay g
command_from verb.Migrate g = trace_command Migrate g
command_from verb.Workload g = need opt.Seed g.seed >>= (λ seed. Ok (workload seed))
command_from verb.Response g = given_response g >>= (λ r. Ok (response r))
command_from verb.Constrain g = given_constrain g >>= (λ c. Ok (constrain c))
command_from verb.Poll g = given_poll g >>= (λ q. Ok (poll q))
command_from verb.Least g = given_least g >>= (λ l. Ok (least l))
