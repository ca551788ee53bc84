-- What a call replies, as a function of its words and its files.
use Rattle.std.specs.Prelude.{ℕ, ◌-◌, ◌*◌, ◌≤◌, ◌≡◌, List, [], ◌∷◌, ◌++◌, codes, length, take, drop, nat_le, if◌then◌else◌, Option, Some, None, Result, Ok, Err}
use Rattle.dvs_base.specs.Outside.{Files, ShelfView}
use Rattle.dvs_base.specs.Widths.{u64_end}
use Rattle.dvs_base.specs.declared.limits.TheConstants.{LINE_BYTES, LONGEST_TRACE}
use Rattle.dvs_base.specs.Checks.{◌>>=◌}
use Rattle.demand_list.specs.Demands.{DemandsView}
use Rattle.sched_model.specs.Plan.{Plan}
use Rattle.probes.specs.Tallies.{ProbeView, told_notes}
use Rattle.probes.specs.Program.{program_probes}
use Rattle.words.specs.declared.command.WordFault.{WordFault}
use Rattle.words.specs.Commands.{CommandView, RunView, run, asks_probes}
use Rattle.statuses.specs.declared.status.Status.{Status}
use Rattle.statuses.specs.declared.status.Status.TheVariants as status
use Rattle.statuses.specs.Status.{code_of}
use Rattle.statuses.specs.StatusLines.{status_text}
use Rattle.statuses.specs.Noted.{noted_text}
use Rattle.command_files.specs.Meanings.{tasks_at}
use Rattle.command_files.specs.Files.{names_by}
use Rattle.rtdvs_top.specs.PlannedRuns.{prepared_of}
use Rattle.rtdvs_top.specs.ToldRuns.{notes_under}
use Rattle.rtdvs_top.specs.Promises.{answer_of_command}
use Rattle.rtdvs_c.specs.declared.TheConstants.{NO_ROOM, NO_WORDS}
use Rattle.rtdvs_c.specs.declared.Lengths.{Lengths}
use Rattle.rtdvs_c.specs.declared.files.CallFiles.{CallFiles}
use Rattle.rtdvs_c.specs.declared.files.CallShelf.{CallShelf}
use Rattle.rtdvs_c.specs.declared.reply.Reply.{Reply}
use Rattle.rtdvs_c.specs.WordList.{asked_by}
use Rattle.rtdvs_c.specs.Texts.{last}
use Rattle.event_kernel.specs.Runs.{run_for}

-- the files of a call by their names; the third has four names, one for each option that it can be the file of
abbrev pub call_files : List ℕ → List ℕ → List ℕ → Files
call_files tasks machine list =
    (codes "tasks", tasks) ∷ (codes "machine", machine) ∷ (codes "demands", list) ∷ (codes "trace", list)
    ∷ (codes "deadlines", list) ∷ (codes "requests", list) ∷ []

-- the files that a shelf of a call holds
abbrev pub held_by : CallFiles → Files
held_by s = call_files s.tasks.now s.machine.now s.list.now

-- what a shelf of a call shows: its files are known, and no load of them fails
abbrev pub shown_shelf : CallShelf → ShelfView
shown_shelf s = record { held = Some (held_by s.files); gave = s.loaded.loads; faults = 0; sure = u64_end - 1 }

-- the status of an answer
abbrev pub status_of : Result (List ℕ) Status → Status
status_of (Ok text) = status.Done
status_of (Err s) = s

-- the text of an answer; a refusal has none
abbrev pub text_of : Result (List ℕ) Status → List ℕ
text_of (Ok text) = text
text_of (Err s) = []

-- the program's probes after a run: they were told its notes, one by one
abbrev pub told_by : RunView → Result (Plan × DemandsView) Status → List ProbeView
told_by r (Ok x) = told_notes (notes_under r.governor (run_for x.0 x.1 r.ticks)) program_probes
told_by r (Err s) = program_probes

-- the program's probes after a command
abbrev pub probes_after : CommandView → Files → List ProbeView
probes_after (run r) files = told_by r (tasks_at r.tasks files >>= (λ tasks. prepared_of r tasks files))
probes_after c files = program_probes

-- what a call replies: its exit status, the answer's text, and the lines of the notes
pub record ReplyView : Type 0 where
  pub code : ℕ
  pub text : List ℕ
  pub notes : List ℕ

-- The reply to a command: the status and the text of its answer, and the lines of this status; for a run that asked for
-- probes and is done, the lines of the probes. Words that are refused have no text.
abbrev pub reply_from : Result CommandView WordFault → Files → ReplyView
reply_from (Ok c) files =
    let answer = answer_of_command c files in
    record {
      code = code_of (status_of answer);
      text = text_of answer;
      notes = noted_text (asks_probes c) (names_by c files) (probes_after c files) (status_of answer);
    }
reply_from (Err why) files =
    record { code = code_of (status.Words why); text = []; notes = status_text [] (status.Words why) }

-- the reply to what the words ask for; if a word is not UTF-8, an exit status and no text
abbrev pub reply_if : Option (Result CommandView WordFault) → Files → ReplyView
reply_if (Some asked) files = reply_from asked files
reply_if None files = record { code = NO_WORDS; text = []; notes = [] }

-- the reply to the words that these bytes are, over these files
abbrev pub reply_of : List ℕ → Files → ReplyView
reply_of words files = reply_if (asked_by words) files

-- the exit status of a reply, if there is room for this many bytes of the answer
abbrev pub code_for : ℕ → ReplyView → ℕ
code_for room r = if nat_le (length r.text) room then r.code else NO_ROOM

-- the lengths of a reply's answer and notes
abbrev pub lengths_of : ReplyView → Lengths
lengths_of r = record { out = length r.text; notes = length r.notes }

-- the room with as much of the text at its beginning as it has room for; what comes after the text stays
abbrev pub filled : List ℕ → List ℕ → List ℕ
filled room text = take (length room) text ++ drop (length text) room

-- what the code keeps of a reply: the last `most` bytes of the answer's text, its length, and all else
pub record Shows (most : ℕ) (kept : Reply) (r : ReplyView) : Type 0 where
  pub code : kept.code ≡ r.code
  pub end : kept.end.items ≡ last most r.text
  pub len : kept.len ≡ length r.text
  pub notes : kept.notes.items ≡ r.notes

-- the answer is no longer than the longest trace, and the notes have no more bytes than three of the longest lines
pub record FitsLimits (kept : Reply) : Type 0 where
  pub out : kept.len ≤ LONGEST_TRACE
  pub notes : length kept.notes.items ≤ 3 * LINE_BYTES
