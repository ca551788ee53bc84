-- What the top call promises over files that its shelf may hold: each promise is a field.
use Rattle.std.specs.Prelude.{◌≡◌, List, Option, Result}
use Rattle.dvs_base.specs.Outside.{Files, ShelfView, SinkView, Rose}
use Rattle.probes.specs.Tallies.{ProbeView}
use Rattle.probes.specs.Outputs.{Outputs}
use Rattle.words.specs.Commands.{CommandView}
use Rattle.words.specs.declared.command.WordFault.{WordFault}
use Rattle.statuses.specs.declared.status.Status.{Status}
use Rattle.statuses.specs.declared.status.Status.TheVariants as status
use Rattle.command_files.specs.Files.{MakesLoads}
use Rattle.rtdvs_top.specs.Asked.{asked_of, loads_wanted}
use Rattle.rtdvs_top.specs.Trace.{AcceptsScheduleTexts}
use Rattle.rtdvs_top.specs.Promises.{Answers, Writes, WritesPart, IsSureOf, LoadFailed, ProvesRun, ProvesTests, ProvesPoll, IsDoneOrDenied, ProvesLeast, PutsNotes, TellsProbes, AdmitsByTest}

-- what a call sees: the shelf, the sinks of the answer and of notes, and the probes
pub record Outside : Type 0 where
  pub shelf : ShelfView
  pub out : SinkView
  pub notes : SinkView
  pub probes : List ProbeView

-- what a call sees through these views
abbrev pub outside_of : ShelfView → SinkView → SinkView → List ProbeView → Outside
outside_of shelf out notes probes = record { shelf = shelf; out = out; notes = notes; probes = probes }

-- its sink of the answer, with the probes
abbrev pub outputs : Outside → Outputs
outputs seen = record { sink = seen.out; probes = seen.probes }

-- What a call promises of a command, or of refused words, over these files; over none, what it promises over
-- any files.
pub record Promised (command : Result CommandView WordFault) (old new : Outside) (s : Status) (files : Option Files) : Type 0 where
  -- which status: the answer's, unless a load or a put failed or memory ran out; and which load failed
  pub answers : Answers (asked_of files command) (Rose old.shelf.faults new.shelf.faults) (Rose old.out.faults new.out.faults) s
  pub load : LoadFailed files old.shelf new.shelf command s
  -- what is on `out`: the whole answer, or a first part of it if a put failed
  pub done : s ≡ status.Done → Writes (asked_of files command) old.out new.out
  pub part : s ≡ status.Write → WritesPart (asked_of files command) old.out new.out
  -- what the answer proves: of a run, of the scheduler's test, of a trace, of exact tests, of a server, of energy
  pub headline : IsDoneOrDenied (asked_of files command) (Rose old.shelf.faults new.shelf.faults) old.out new.out s
  pub run : ProvesRun (asked_of files command) old.out new.out s
  pub admitted : AdmitsByTest (asked_of files command) s
  pub exact : AcceptsScheduleTexts (asked_of files command) (Rose old.shelf.faults new.shelf.faults)
      (Rose old.out.faults new.out.faults) s
  pub tested : ProvesTests (asked_of files command) s
  pub polled : ProvesPoll (asked_of files command) s
  pub least : ProvesLeast (asked_of files command) old.out new.out s
  -- what is on `notes`, and what the probes were told
  pub notes : PutsNotes (asked_of files command) new.probes s old.notes new.notes
  pub told : TellsProbes (asked_of files command) (outputs old) (outputs new) s
  -- which loads were made, and that a sink which is sure of the answer doesn't fail
  pub shelf : MakesLoads (loads_wanted files command) old.shelf new.shelf
  pub sure : IsSureOf (asked_of files command) old.out → new.out.faults ≡ old.out.faults
