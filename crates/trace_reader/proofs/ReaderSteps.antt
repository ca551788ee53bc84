-- Steps of the reader.
use Rattle.std.proofs.Common.{◌≡◌, ℕ, zero, suc, ◌<◌, Bool, true, false, List, [], ◌∷◌, length, drop, Result, Ok, Err, refl, arith, if◌then◌else◌}
use Rattle.std.specs.Prelude.{nat_lt, ◌==◌}
use Rattle.std.specs.List.{onto_first}
use Rattle.dvs_base.specs.declared.limits.TheConstants.{MOST_LINES, LONGEST_LINE}
use Rattle.trace_reader.specs.declared.trace.TraceFault.{TraceFault}
use Rattle.trace_reader.specs.declared.trace.TraceFault.TheVariants.{Refused}
use Rattle.trace_reader.specs.declared.trace.TraceKind.TheVariants as kind
use Rattle.trace_reader.specs.Fields.{parts}
use Rattle.trace_text.specs.declared.versions.TaskLine.{TaskLine}
use Rattle.trace_text.specs.TraceText.{task_text, task_lines}
use Rattle.trace_reader.specs.Heads.{line_at, parts_after_tasks}
use Rattle.trace_reader.specs.TraceFile.{is_nothing}
use Rattle.trace_reader.proofs.FirstCut.{HasPart, some-part}

-- the answer for a part that another part follows, which makes it a line
abbrev pub checked_line : ℕ → List ℕ → List (List ℕ) → Result (List ℕ × List (List ℕ)) TraceFault
checked_line n line rest =
    if nat_lt MOST_LINES n then Err (Refused n kind.TooMany)
    else (if nat_lt LONGEST_LINE (length line) then Err (Refused n kind.TooLong)
    else Ok (line, rest))

pub line_at-more : (n : ℕ) (line text : List ℕ) → line_at n (line ∷ parts 10 text) ≡ checked_line n line (parts 10 text)
line_at-more n line text = let p = some-part 10 text in rw p.all refl

-- if there is a task i, the first line of the tasks from i on
pub record HasTaskLine (names : List (List ℕ)) (tasks : List TaskLine) (i : ℕ) : Type 0 where
  pub first : List ℕ
  pub all : task_lines (drop i names) (drop i tasks) ≡ first ∷ task_lines (drop (suc i) names) (drop (suc i) tasks)

pub some-task_line : (names : List (List ℕ)) (tasks : List TaskLine) (i : ℕ) → i < length names → length tasks ≡ length names → HasTaskLine names tasks i
some-task_line [] tasks i lt e = absurd (omega arith)
some-task_line (name ∷ names) [] i lt e = absurd (omega arith)
some-task_line (name ∷ names) (t ∷ tasks) zero lt e = record { first = task_text name t.period t.offset t.worst; all = refl }
some-task_line (name ∷ names) (t ∷ tasks) (suc i) lt e =
    let more = some-task_line names tasks i (omega arith) (omega arith) in record { first = more.first; all = more.all }

-- if the line of a task is refused, so are the lines of the tasks
pub tasks-refused : (n : ℕ) (names : List (List ℕ)) (tasks : List TaskLine) (i : ℕ) (rest : List (List ℕ)) (e : TraceFault)
    → i < length names → length tasks ≡ length names
    → line_at n rest ≡ Err e → parts_after_tasks n (task_lines (drop i names) (drop i tasks)) rest ≡ Err e
unfolding parts_after_tasks
tasks-refused n names tasks i rest e lt same h = let t = some-task_line names tasks i lt same in rw (t.all, h) refl

-- the parts of a text with a byte are not those of the empty text
pub is_nothing-some : (text : List ℕ) → 0 < length text → is_nothing (parts 10 text) ≡ false
is_nothing-some [] some = absurd (omega arith)
is_nothing-some (b ∷ text) some = by (b == 10) (parts 10 text) (some-part 10 text)
  where
    by : (feed : Bool) (rest : List (List ℕ)) → HasPart rest → is_nothing (if feed then [] ∷ rest else onto_first b rest) ≡ false
    by true rest p = rw p.all refl
    by false rest p = rw p.all refl

pub is_nothing-none : (text : List ℕ) → length text ≡ 0 → is_nothing (parts 10 text) ≡ true
is_nothing-none [] none = refl
is_nothing-none (b ∷ text) none = absurd (omega arith)
