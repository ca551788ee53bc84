-- Declared values and commands, with texts in place of what is in memory.
use Rattle.std.specs.Prelude.{option_map, Result, Ok, Err}
use Rattle.words.specs.declared.command.Command.{Command}
use Rattle.words.specs.declared.command.Command.TheVariants as command
use Rattle.words.specs.declared.command.WordFault.{WordFault}
use Rattle.words.specs.declared.command.RunWords.{RunWords}
use Rattle.words.specs.declared.command.AdmitWords.{AdmitWords}
use Rattle.words.specs.declared.command.TraceWords.{TraceWords}
use Rattle.words.specs.declared.command.ResponseWords.{ResponseWords}
use Rattle.words.specs.declared.command.ConstrainWords.{ConstrainWords}
use Rattle.words.specs.declared.command.PollWords.{PollWords}
use Rattle.words.specs.declared.command.LeastWords.{LeastWords}
use Rattle.words.specs.declared.command.CommandWords.{CommandWords}
use Rattle.words.specs.declared.command.CommandWords.TheVariants as words
use Rattle.words.specs.declared.given.Given.{Given}
use Rattle.words.specs.declared.command.TraceUse.TheVariants.{Replay, Migrate}
use Rattle.words.specs.declared.given.Timed.{Timed}
use Rattle.words.specs.declared.read.Reading.{Reading}
use Rattle.words.specs.Commands.{TimedView, CommandView, run, admit, traced, workload, response, constrain, poll, least, RunView, AdmitView, TracedView, ResponseView, ConstrainView, PollView, LeastView}
use Rattle.words.specs.Reading.{ReadingView}
use Rattle.words.specs.Table.{GivenView}

-- the values that were given, with the texts of names
abbrev pub shown_given : Given → GivenView
shown_given g = record {
  tasks = option_map (λ s. s.now) g.tasks;
  machine = option_map (λ s. s.now) g.machine;
  demands = option_map (λ s. s.now) g.demands;
  trace = option_map (λ s. s.now) g.trace;
  deadlines = option_map (λ s. s.now) g.deadlines;
  requests = option_map (λ s. s.now) g.requests;
  server = option_map (λ s. s.now) g.server;
  scheduler = g.scheduler;
  governor = g.governor;
  ticks = option_map (λ t. t.number) g.ticks;
  seed = g.seed;
  units = g.units;
  probes = g.probes;
  format = g.format;
}

-- what was read so far, with the texts of names
abbrev pub shown_reading : Reading → ReadingView
shown_reading r = record { given = shown_given r.given; waits = r.waits }

-- what was read so far, with the texts of names, or why a word was refused
abbrev pub reading_answer : Result Reading WordFault → Result ReadingView WordFault
reading_answer (Ok r) = Ok (shown_reading r)
reading_answer (Err e) = Err e

-- the scheduler, the governor and the number of ticks of a run, or why the words were refused
abbrev pub timed_answer : Result Timed WordFault → Result TimedView WordFault
timed_answer (Ok t) = Ok (record { scheduler = t.scheduler; governor = t.governor; ticks = t.ticks.number })
timed_answer (Err e) = Err e

-- a command, with the texts of names
abbrev pub shown_command : Command → CommandView
shown_command (command.Run tasks machine demands scheduler governor ticks probes version) = run (record {
  tasks = tasks.now;
  machine = machine.now;
  scheduler = scheduler;
  governor = governor;
  ticks = ticks;
  demands = option_map (λ s. s.now) demands;
  probes = probes;
  version = version;
})
shown_command (command.Admit tasks machine scheduler) =
    admit (record { tasks = tasks.now; machine = machine.now; scheduler = scheduler })
shown_command (command.Replay tasks machine trace) =
    traced (record { asked = Replay; tasks = tasks.now; machine = machine.now; trace = trace.now })
shown_command (command.Migrate tasks machine trace) =
    traced (record { asked = Migrate; tasks = tasks.now; machine = machine.now; trace = trace.now })
shown_command (command.Workload seed) = workload seed
shown_command (command.Response tasks machine) = response (record { tasks = tasks.now; machine = machine.now })
shown_command (command.Constrain tasks machine deadlines) =
    constrain (record { tasks = tasks.now; machine = machine.now; deadlines = deadlines.now })
shown_command (command.Poll tasks machine requests server scheduler governor ticks) = poll (record {
  tasks = tasks.now;
  machine = machine.now;
  requests = requests.now;
  server = server.now;
  scheduler = scheduler;
  governor = governor;
  ticks = ticks;
})
shown_command (command.Least machine units ticks) = least (record { machine = machine.now; units = units; ticks = ticks })

-- what the words of `run` name, with the texts of names
abbrev pub shown_run : RunWords → RunView
shown_run r = record {
  tasks = r.tasks.now;
  machine = r.machine.now;
  scheduler = r.scheduler;
  governor = r.governor;
  ticks = r.ticks;
  demands = option_map (λ s. s.now) r.demands;
  probes = r.probes;
  version = r.version;
}

-- what the words of `admit` name, with the texts of names
abbrev pub shown_admit : AdmitWords → AdmitView
shown_admit a = record { tasks = a.tasks.now; machine = a.machine.now; scheduler = a.scheduler }

-- what the words of `replay` or `migrate` name, with the texts of names
abbrev pub shown_trace : TraceWords → TracedView
shown_trace r = record { asked = r.asked; tasks = r.tasks.now; machine = r.machine.now; trace = r.trace.now }

-- what the words of `response` name, with the texts of names
abbrev pub shown_response : ResponseWords → ResponseView
shown_response r = record { tasks = r.tasks.now; machine = r.machine.now }

-- what the words of `constrain` name, with the texts of names
abbrev pub shown_constrain : ConstrainWords → ConstrainView
shown_constrain r = record { tasks = r.tasks.now; machine = r.machine.now; deadlines = r.deadlines.now }

-- what the words of `poll` name, with the texts of names
abbrev pub shown_poll : PollWords → PollView
shown_poll q = record {
  tasks = q.tasks.now;
  machine = q.machine.now;
  requests = q.requests.now;
  server = q.server.now;
  scheduler = q.scheduler;
  governor = q.governor;
  ticks = q.ticks;
}

-- what the words of `least` name, with the texts of names
abbrev pub shown_least : LeastWords → LeastView
shown_least l = record { machine = l.machine.now; units = l.units; ticks = l.ticks }

-- what the words of a command name, with the texts of names
abbrev pub shown_words : CommandWords → CommandView
shown_words (words.Run w) = run (shown_run w)
shown_words (words.Admit w) = admit (shown_admit w)
shown_words (words.Traced w) = traced (shown_trace w)
shown_words (words.Workload seed) = workload seed
shown_words (words.Response w) = response (shown_response w)
shown_words (words.Constrain w) = constrain (shown_constrain w)
shown_words (words.Poll w) = poll (shown_poll w)
shown_words (words.Least w) = least (shown_least w)

-- a command with the texts of names, or why the words were refused
abbrev pub answer : Result Command WordFault → Result CommandView WordFault
answer (Ok c) = Ok (shown_command c)
answer (Err e) = Err e
