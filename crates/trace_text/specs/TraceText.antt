-- The lines of a trace in each version, and its text; the lines that only version 2 has.
use Rattle.std.specs.Prelude.{ℕ, Bool, true, false, if◌then◌else◌, List, sum_by, ◌+◌, [], ◌∷◌, ◌++◌, map, flat_map, codes, decimal}
use Rattle.dvs_base.specs.declared.note.Note.{Note}
use Rattle.dvs_base.specs.declared.note.Note.TheVariants.{End}
use Rattle.dvs_base.specs.declared.kind.Scheduler.{Scheduler}
use Rattle.dvs_base.specs.declared.kind.GovernorKind.{GovernorKind}
use Rattle.dvs_base.specs.declared.kind.Version.{Version}
use Rattle.dvs_base.specs.declared.kind.Version.TheVariants.{One, Two}
use Rattle.dvs_base.specs.NoteTasks.{energy_of_task}
use Rattle.trace_text.specs.declared.versions.TaskLine.{TaskLine}
use Rattle.trace_text.specs.TraceLines.{note_text, plan_text, line, version_text}

-- the energy of task i: the sum of the energies of its runs
abbrev pub task_energy : List Note → ℕ → ℕ
task_energy notes i = sum_by (energy_of_task i) notes

-- the line of a task's energy in version 2
abbrev pub share_text : List ℕ → ℕ → List ℕ
share_text name energy = line (codes "energy" ∷ name ∷ decimal energy ∷ [])

-- the energy lines of the tasks with these names, which are numbered from i on
abbrev pub shares_from : List Note → ℕ → List (List ℕ) → List (List ℕ)
shares_from notes i [] = []
shares_from notes i (name ∷ names) = share_text name (task_energy notes i) ∷ shares_from notes (i + 1) names

-- the first line of a trace, its version
abbrev pub version_line : Version → List ℕ
version_line One = version_text
version_line Two = line (codes "trace" ∷ codes "2" ∷ [])

-- the line of a task in version 2: its name, its period, its first release and its declared worst case
abbrev pub task_text : List ℕ → ℕ → ℕ → ℕ → List ℕ
task_text name period offset worst = line (codes "task" ∷ name ∷ decimal period ∷ decimal offset ∷ decimal worst ∷ [])

-- the lines of the tasks with these names
abbrev pub task_lines : List (List ℕ) → List TaskLine → List (List ℕ)
task_lines [] tasks = []
task_lines (name ∷ names) [] = []
task_lines (name ∷ names) (t ∷ tasks) = task_text name t.period t.offset t.worst ∷ task_lines names tasks

-- a line of a trace, with the note that it shows, or none
pub record NotedLine : Type 0 where
  pub text : List ℕ
  pub notes : List Note

-- a line that shows no note
abbrev pub unnoted_line : List ℕ → NotedLine
unnoted_line text = record { text = text; notes = [] }

-- the line of a note
abbrev pub line_of_note : List (List ℕ) → Note → NotedLine
line_of_note names n = record { text = note_text names n; notes = n ∷ [] }

-- whether a trace has a line for each task, and one for its energy: only in version 2
abbrev pub has_task_lines : Version → Bool
has_task_lines One = false
has_task_lines Two = true

-- lines of these texts for the tasks, in a version that has such lines
abbrev pub for_tasks : Version → List (List ℕ) → List NotedLine
for_tasks v texts = if has_task_lines v then map unnoted_line texts else []

-- the lines before the notes: the version, the plan, and those of the tasks
abbrev pub head_lines : Version → Scheduler → GovernorKind → ℕ → List (List ℕ) → List NotedLine
head_lines v s g ticks tasks = unnoted_line (version_line v) ∷ unnoted_line (plan_text s g ticks) ∷ for_tasks v tasks

-- the lines of a note among all notes: its own, and before that of `end` those of the tasks' energies
abbrev pub lines_of_note : Version → List (List ℕ) → List Note → Note → List NotedLine
lines_of_note v names notes (End t run idle) =
    for_tasks v (shares_from notes 0 names) ++ line_of_note names (End t run idle) ∷ []
lines_of_note v names notes n = line_of_note names n ∷ []

-- the lines after the head: those of all notes
abbrev pub note_lines : Version → List (List ℕ) → List Note → List NotedLine
note_lines v names notes = flat_map (lines_of_note v names notes) notes

-- the lines of a trace: its head, with the lines of its tasks, and those of its notes
abbrev pub trace_lines : Version → Scheduler → GovernorKind → ℕ → List (List ℕ) → List (List ℕ) → List Note → List NotedLine
trace_lines v s g ticks names tasks notes = head_lines v s g ticks tasks ++ note_lines v names notes

-- the text of some lines
abbrev pub text_of_lines : List NotedLine → List ℕ
text_of_lines lines = flat_map (λ l. l.text) lines

-- the text of a trace: that of its lines
abbrev pub whole_text : Version → Scheduler → GovernorKind → ℕ → List (List ℕ) → List (List ℕ) → List Note → List ℕ
whole_text v s g ticks names tasks notes = text_of_lines (trace_lines v s g ticks names tasks notes)

-- the notes that some lines show
abbrev pub notes_of_lines : List NotedLine → List Note
notes_of_lines lines = flat_map (λ l. l.notes) lines
