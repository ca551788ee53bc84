-- The table of the commands: their words, which options each takes, and the rule of each option's value.
use Rattle.std.specs.Prelude.{ℕ, List, [], ◌∷◌, Option, Some, None, if◌then◌else◌, codes, Bool, true, false, ◌==◌, ◌&&◌, length, is_some, option_map}
use Rattle.std.specs.Str.{bytes_eq}
use Rattle.words.specs.declared.command.Opt.{Opt}
use Rattle.words.specs.declared.command.Opt.TheVariants as opt
use Rattle.words.specs.declared.table.Verb.{Verb}
use Rattle.words.specs.declared.table.Verb.TheVariants as verb
use Rattle.words.specs.declared.table.OptionKey.{OptionKey}
use Rattle.words.specs.declared.table.OptionKey.TheVariants as key
use Rattle.dvs_base.specs.Widths.{u64_end}
use Rattle.dvs_base.specs.Text.{number_below}
use Rattle.dvs_base.specs.PlanWords.{scheduler_of, governor_of, ticks_of}
use Rattle.dvs_base.specs.declared.kind.Scheduler.{Scheduler}
use Rattle.dvs_base.specs.declared.kind.GovernorKind.{GovernorKind}
use Rattle.dvs_base.specs.declared.kind.Version.{Version}
use Rattle.dvs_base.specs.declared.kind.Version.TheVariants.{One, Two}

-- what the first row whose name is this word gives; none if no row has the word
abbrev pub value_named : {A : Type 0} → List (List ℕ × A) → List ℕ → Option A
value_named [] word = None
value_named (row ∷ rows) word = if bytes_eq word row.0 then Some row.1 else value_named rows word

-- the commands by their words
abbrev pub commands : List (List ℕ × Verb)
commands =
    (codes "run", verb.Run)
    ∷ (codes "admit", verb.Admit)
    ∷ (codes "workload", verb.Workload)
    ∷ (codes "replay", verb.Replay)
    ∷ (codes "migrate", verb.Migrate)
    ∷ (codes "response", verb.Response)
    ∷ (codes "constrain", verb.Constrain)
    ∷ (codes "poll", verb.Poll)
    ∷ (codes "least", verb.Least)
    ∷ []

-- the command that a word names
abbrev pub verb_of : List ℕ → Option Verb
verb_of word = value_named commands word

-- the command is `run`, which has two options more
abbrev pub is_run : Verb → Bool
is_run verb.Run = true
is_run _ = false

-- the options of a command that a refusal can name: the required ones in their order, then the others
abbrev pub options_of : Verb → List Opt
options_of verb.Run =
    opt.Tasks ∷ opt.Machine ∷ opt.Scheduler ∷ opt.Governor ∷ opt.Ticks
    ∷ opt.Demands
    ∷ []
options_of verb.Admit = opt.Tasks ∷ opt.Machine ∷ opt.Scheduler ∷ []
options_of verb.Workload = opt.Seed ∷ []
options_of verb.Replay = opt.Tasks ∷ opt.Machine ∷ opt.Trace ∷ []
options_of verb.Migrate = opt.Tasks ∷ opt.Machine ∷ opt.Trace ∷ []
options_of verb.Response = opt.Tasks ∷ opt.Machine ∷ []
options_of verb.Constrain = opt.Tasks ∷ opt.Machine ∷ opt.Deadlines ∷ []
options_of verb.Poll =
    opt.Tasks ∷ opt.Machine ∷ opt.Requests ∷ opt.Server ∷ opt.Scheduler ∷ opt.Governor ∷ opt.Ticks ∷ []
options_of verb.Least = opt.Machine ∷ opt.Units ∷ opt.Ticks ∷ []

-- the word of an option that a command can require, or that takes a value of its own
abbrev pub option_word : Opt → List ℕ
option_word opt.Tasks = codes "--tasks"
option_word opt.Machine = codes "--machine"
option_word opt.Demands = codes "--demands"
option_word opt.Scheduler = codes "--scheduler"
option_word opt.Governor = codes "--governor"
option_word opt.Ticks = codes "--ticks"
option_word opt.Trace = codes "--trace"
option_word opt.Seed = codes "--seed"
option_word opt.Deadlines = codes "--deadlines"
option_word opt.Requests = codes "--requests"
option_word opt.Server = codes "--server"
option_word opt.Units = codes "--units"

-- the word of an option
abbrev pub word_of : OptionKey → List ℕ
word_of (key.Named option) = option_word option
word_of key.Probes = codes "--probes"
word_of key.Format = codes "--format"

-- whether the next word is the option's value
abbrev pub takes_value : OptionKey → Bool
takes_value key.Probes = false
takes_value _ = true

-- the first of these options that the word names
abbrev pub first_named : List Opt → List ℕ → Option Opt
first_named [] word = None
first_named (o ∷ options) word = if bytes_eq word (option_word o) then Some o else first_named options word

-- the option of the command that the word names
abbrev pub option_named : Verb → List ℕ → Option OptionKey
option_named v word =
    if is_run v && bytes_eq word (codes "--probes") then Some key.Probes
    else (if is_run v && bytes_eq word (codes "--format") then Some key.Format
    else option_map key.Named (first_named (options_of v) word))

-- the name of a file or of a task: a word that is not empty
abbrev pub some_text : List ℕ → Option (List ℕ)
some_text word = if length word == 0 then None else Some word

-- the version of a trace that a word names
abbrev pub version_of : List ℕ → Option Version
version_of word =
    if bytes_eq word (codes "1") then Some One
    else (if bytes_eq word (codes "2") then Some Two else None)

-- the number below 2^64 that a word is
abbrev pub number_of : List ℕ → Option ℕ
number_of word = number_below u64_end word

-- the values of the options that were given
pub record GivenView : Type 0 where
  pub tasks : Option (List ℕ)
  pub machine : Option (List ℕ)
  pub demands : Option (List ℕ)
  pub trace : Option (List ℕ)
  pub deadlines : Option (List ℕ)
  pub requests : Option (List ℕ)
  pub server : Option (List ℕ)
  pub scheduler : Option Scheduler
  pub governor : Option GovernorKind
  pub ticks : Option ℕ
  pub seed : Option ℕ
  pub units : Option ℕ
  pub probes : Option Bool
  pub format : Option Version

-- no option was given
abbrev pub nothing_given : GivenView
nothing_given = record {
  tasks = None;
  machine = None;
  demands = None;
  trace = None;
  deadlines = None;
  requests = None;
  server = None;
  scheduler = None;
  governor = None;
  ticks = None;
  seed = None;
  units = None;
  probes = None;
  format = None;
}

-- whether an option was given
abbrev pub has : GivenView → OptionKey → Bool
has g (key.Named opt.Tasks) = is_some g.tasks
has g (key.Named opt.Machine) = is_some g.machine
has g (key.Named opt.Demands) = is_some g.demands
has g (key.Named opt.Scheduler) = is_some g.scheduler
has g (key.Named opt.Governor) = is_some g.governor
has g (key.Named opt.Ticks) = is_some g.ticks
has g (key.Named opt.Trace) = is_some g.trace
has g (key.Named opt.Seed) = is_some g.seed
has g (key.Named opt.Deadlines) = is_some g.deadlines
has g (key.Named opt.Requests) = is_some g.requests
has g (key.Named opt.Server) = is_some g.server
has g (key.Named opt.Units) = is_some g.units
has g key.Probes = is_some g.probes
has g key.Format = is_some g.format

-- the given values, with the one that the word gives this option; none if the word is outside the option's rule
abbrev pub with_value : GivenView → OptionKey → List ℕ → Option GivenView
with_value g (key.Named opt.Tasks) word = option_map (λ v. record g { tasks = Some v }) (some_text word)
with_value g (key.Named opt.Machine) word = option_map (λ v. record g { machine = Some v }) (some_text word)
with_value g (key.Named opt.Demands) word = option_map (λ v. record g { demands = Some v }) (some_text word)
with_value g (key.Named opt.Scheduler) word = option_map (λ v. record g { scheduler = Some v }) (scheduler_of word)
with_value g (key.Named opt.Governor) word = option_map (λ v. record g { governor = Some v }) (governor_of word)
with_value g (key.Named opt.Ticks) word = option_map (λ v. record g { ticks = Some v }) (ticks_of word)
with_value g (key.Named opt.Trace) word = option_map (λ v. record g { trace = Some v }) (some_text word)
with_value g (key.Named opt.Seed) word = option_map (λ v. record g { seed = Some v }) (number_of word)
with_value g (key.Named opt.Deadlines) word = option_map (λ v. record g { deadlines = Some v }) (some_text word)
with_value g (key.Named opt.Requests) word = option_map (λ v. record g { requests = Some v }) (some_text word)
with_value g (key.Named opt.Server) word = option_map (λ v. record g { server = Some v }) (some_text word)
with_value g (key.Named opt.Units) word = option_map (λ v. record g { units = Some v }) (number_of word)
with_value g key.Probes word = Some (record g { probes = Some true })
with_value g key.Format word = option_map (λ v. record g { format = Some v }) (version_of word)
