-- The lines of a run, how many they may be, and its text, in either version.
use Rattle.std.specs.Prelude.{ℕ, List, ◌+◌, ◌*◌, if◌then◌else◌}
use Rattle.grid_fraction.specs.Numbers.{list_below}
use Rattle.dvs_base.specs.declared.kind.Version.{Version}
use Rattle.dvs_base.specs.declared.kind.GovernorKind.{GovernorKind}
use Rattle.dvs_base.specs.Parts.{name_of}
use Rattle.dvs_base.specs.declared.note.Note.{Note}
use Rattle.trace_text.specs.TraceText.{task_text, NotedLine, has_task_lines, trace_lines, text_of_lines}
use Rattle.sched_model.specs.Plan.{Plan, count, names, task, period, offset}
use Rattle.sched_model.specs.Jobs.{JobDemands, released_jobs}
use Rattle.sched_model.specs.RunNotes.{run_notes}

-- the lines of a plan's tasks: the name, the period, the first release and the declared worst case of each
abbrev pub task_texts : Plan → List (List ℕ)
task_texts p =
    list_below (count p) (λ i. task_text (name_of (names p) i) (period p i) (offset p i) (task p i).worst)

-- the lines of a trace of these notes, for this plan and governor
abbrev pub run_lines : Version → Plan → GovernorKind → ℕ → List Note → List NotedLine
run_lines v p g ticks notes = trace_lines v p.scheduler g ticks (names p) (task_texts p) notes

-- the most lines of a run: seven for each job released in its ticks, and five more; with lines for the tasks also two
-- for each task
abbrev pub most_lines : Version → Plan → ℕ → ℕ
most_lines v p ticks = 7 * released_jobs p ticks + 5 + (if has_task_lines v then 2 * count p else 0)

-- the text of a run: that of the lines of its trace
abbrev pub run_text_in : Version → Plan → GovernorKind → JobDemands → ℕ → List ℕ
run_text_in v p g dem ticks =
    text_of_lines (run_lines v p g ticks (run_notes p g dem ticks))
