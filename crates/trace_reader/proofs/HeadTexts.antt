-- The lines before the notes: a line that is read is its value's text, and that text is read.
use Rattle.std.proofs.Common.{◌≡◌, ℕ, suc, ◌+◌, ◌≤◌, Bool, true, false, ◌&&◌, List, [], ◌∷◌, ◌++◌, length, Option, Some, Result, Ok, Err, refl, sym, ap, subst, ◌∙◌, append_assoc, arith, if◌then◌else◌}
use Rattle.std.specs.Prelude.{decimal, codes}
use Rattle.std.specs.List.{AllByRecursion, join_with_byte}
use Rattle.std.specs.Str.{bytes_eq}
use Rattle.std.proofs.lemmas.Bool.{and_parts}
use Rattle.std.proofs.lemmas.Bool.Decides.{nat_tests}
use Rattle.std.proofs.lemmas.Option.{same_Some}
use Rattle.std.proofs.lemmas.Slice.Eq.{bytes_eq-Decides}
use Rattle.trace_text.specs.TraceLines.{scheduler_word, governor_word, line, plan_fields, plan_text}
use Rattle.trace_text.proofs.Unspaced.{AreUnspaced, unspaced-name}
use Rattle.dvs_base.specs.PlanWords.{scheduler_of, governor_of, ticks_of, is_pair}
use Rattle.dvs_base.specs.Parts.{joined}
use Rattle.trace_text.specs.TraceText.{version_line, task_lines}
use Rattle.dvs_base.specs.declared.kind.Scheduler.{Scheduler}
use Rattle.dvs_base.specs.declared.kind.Scheduler.TheVariants.{Edf, Rm}
use Rattle.dvs_base.specs.declared.kind.GovernorKind.{GovernorKind}
use Rattle.dvs_base.specs.declared.kind.GovernorKind.TheVariants.{Plain, Fixed, Cycle, Ahead}
use Rattle.dvs_base.specs.declared.kind.Version.{Version}
use Rattle.dvs_base.specs.declared.kind.Version.TheVariants.{One, Two}
use Rattle.dvs_base.specs.declared.limits.TheConstants.{LONGEST_LINE, MOST_LINES, MOST_TICKS}
use Rattle.dvs_base.proofs.Names.{length-name}
use Rattle.dvs_base.proofs.Spelled.{number_below-decimal, number_below-found}
use Rattle.trace_text.specs.declared.write.PlanLine.{PlanLine}
use Rattle.trace_text.specs.declared.versions.TaskLine.{TaskLine}
use Rattle.trace_reader.specs.declared.trace.TraceFault.{TraceFault}
use Rattle.trace_reader.specs.declared.trace.TraceFault.TheVariants.{Refused}
use Rattle.trace_reader.specs.declared.trace.TraceKind.{TraceKind}
use Rattle.trace_reader.specs.declared.trace.TraceKind.TheVariants as kind
use Rattle.trace_reader.specs.Fields.{parts, four_of}
use Rattle.trace_reader.specs.Heads.{line_at, version_in, plan_line_of, parts_after_tasks, version_task_lines}
use Rattle.trace_text.proofs.Lined.{spaced, line-spaced}
use Rattle.trace_reader.proofs.UnspacedFields.{Lacks, lacks-unspaced, lacks-spaced, length-decimal, parts-joined}
use Rattle.trace_reader.proofs.FieldTexts.{read-step, if-made}
use Rattle.dvs_base.proofs.Checks.{step-ok, ok-is, ok_or-ok}
use Rattle.trace_reader.proofs.ItemTexts.{four-is}
use Rattle.trace_reader.proofs.LineTexts.{AreNames, line_at-found, line_at-text, read-line, join-line, join-spaced, length-spaced}
use Rattle.trace_reader.proofs.SplitLines.{unspaced-plan, unspaced-task}

-- the second version is not above the first
abbrev pub IsUpTo : Version → Version → Type 0
IsUpTo One One = Unit {0}
IsUpTo One Two = ⊥
IsUpTo Two v = Unit {0}

pub version-up_to : (v : Version) → IsUpTo One v → v ≡ One
version-up_to One h = refl
version-up_to Two h = absurd h

-- the version line without its line feed
abbrev pub version_body : Version → List ℕ
version_body One = codes "trace 1"
version_body Two = codes "trace 2"

-- if a word is read as a value by its text, or else by what follows, it is the value's text if that is so of what follows
word-else : {A R : Type 0} (given : A → R) → ((x y : A) → given x ≡ given y → x ≡ y) → (text : A → List ℕ) (word : List ℕ) (x y : A) (rest : R)
    → (rest ≡ given y → word ≡ text y) → (if bytes_eq word (text x) then given x else rest) ≡ given y → word ≡ text y
word-else given same text word x y rest later e = grind (arith, nat_tests, bytes_eq-Decides)

version-else : (text : List ℕ) (v w : Version) (rest : Result Version TraceKind) → (rest ≡ Ok w → text ≡ version_body w)
    → (if bytes_eq text (version_body v) then Ok v else rest) ≡ Ok w → text ≡ version_body w
version-else text = word-else Ok (ok-is {F = TraceKind}) version_body text

pub version-found : (newest v : Version) (text : List ℕ) → version_in newest text ≡ Ok v → (text ≡ version_body v) × IsUpTo newest v
version-found One v text e = grind (arith, nat_tests, if-made, version-else)
version-found Two v text e = (version-else text One v _ (version-else text Two v _ (λ e. absurd cc)) e, tt)

pub version-text : (newest v : Version) → IsUpTo newest v → version_in newest (version_body v) ≡ Ok v
version-text One One h = refl
version-text One Two h = absurd h
version-text Two One h = refl
version-text Two Two h = refl

pub version-line : (v : Version) → version_line v ≡ version_body v ++ 10 ∷ []
version-line One = refl
version-line Two = refl

option-else : {A : Type 0} (text : A → List ℕ) (word : List ℕ) (x y : A) (rest : Option A) → (rest ≡ Some y → word ≡ text y)
    → (if bytes_eq word (text x) then Some x else rest) ≡ Some y → word ≡ text y
option-else = word-else Some same_Some

scheduler-word : (word : List ℕ) (s : Scheduler) → scheduler_of word ≡ Some s → word ≡ scheduler_word s
scheduler-word word s = option-else scheduler_word word Edf s _ (option-else scheduler_word word Rm s _ (λ e. absurd cc))

governor-word : (word : List ℕ) (g : GovernorKind) → governor_of word ≡ Some g → word ≡ governor_word g
governor-word word g =
    option-else governor_word word Plain g _ (option-else governor_word word Fixed g _
    (option-else governor_word word Cycle g _ (option-else governor_word word Ahead g _ (λ e. absurd cc))))

ticks-word : (word : List ℕ) (n : ℕ) → ticks_of word ≡ Some n → (word ≡ decimal n) × (1 ≤ n) × (n ≤ MOST_TICKS)
ticks-word word n e = grind (arith, nat_tests, number_below-found, same_Some)

-- the plan is one that a trace can have: one of the seven pairs, and a number of ticks within its limits
pub record IsPlan (plan : PlanLine) : Type 0 where
  pub pair : is_pair plan.scheduler plan.governor ≡ true
  pub some : 1 ≤ plan.ticks
  pub low : plan.ticks ≤ MOST_TICKS

pub plan-found : (text : List ℕ) (plan : PlanLine) → plan_line_of (parts 32 text) ≡ Ok plan
    → (text ++ 10 ∷ [] ≡ plan_text plan.scheduler plan.governor plan.ticks) × IsPlan plan
unfolding plan_line_of
plan-found text plan e =
    let a = step-ok _ _ plan e in
    let b = read-step (λ s is. scheduler-word a.0.1 s (ok_or-ok (scheduler_of a.0.1) kind.Plan s is)) a.2 in
    let c = read-step (λ g is. governor-word a.0.2 g (ok_or-ok (governor_of a.0.2) kind.Plan g is)) b.2 in
    let d = read-step (λ n is. ticks-word a.0.3 n (ok_or-ok (ticks_of a.0.3) kind.Plan n is)) c.2 in
    let made : PlanLine = record { scheduler = b.0; governor = c.0; ticks = d.0 } in
    let f = if-made (bytes_eq a.0.0 (codes "plan") && is_pair b.0 c.0) made plan kind.Plan d.2 in
    let both = and_parts (bytes_eq a.0.0 (codes "plan")) (is_pair b.0 c.0) f.0 in
    let word = (bytes_eq-Decides a.0.0 (codes "plan")).0 both.0 in
    let fields : parts 32 text ≡ plan_fields b.0 c.0 d.0 = four-is (parts 32 text) a.0 (ok_or-ok (four_of (parts 32 text)) kind.Plan a.0 a.1)
    ∙ (λ j. word j ∷ b.1 j ∷ c.1 j ∷ d.1.0 j ∷ []) in
    let whole : text ++ 10 ∷ [] ≡ line (plan_fields b.0 c.0 d.0) = ap (λ t. t ++ 10 ∷ []) (sym (join-spaced text) ∙ ap spaced fields)
    ∙ sym (line-spaced (plan_fields b.0 c.0 d.0)) in
    subst (λ (p : PlanLine). (text ++ 10 ∷ [] ≡ plan_text p.scheduler p.governor p.ticks) × IsPlan p) f.1
    (whole, record { pair = both.1; some = d.1.1; low = d.1.2 })

scheduler-read : (s : Scheduler) → scheduler_of (scheduler_word s) ≡ Some s
scheduler-read Edf = refl
scheduler-read Rm = refl

governor-read : (g : GovernorKind) → governor_of (governor_word g) ≡ Some g
governor-read Plain = refl
governor-read _ = refl

ticks-read : (n : ℕ) → 1 ≤ n → n ≤ MOST_TICKS → ticks_of (decimal n) ≡ Some n
ticks-read n some low = grind (arith, nat_tests, number_below-decimal)

plan-read : (plan : PlanLine) → IsPlan plan → plan_line_of (plan_fields plan.scheduler plan.governor plan.ticks) ≡ Ok plan
unfolding plan_line_of
plan-read plan h = rw (scheduler-read plan.scheduler, governor-read plan.governor, ticks-read plan.ticks h.some h.low, h.pair) refl

-- the most bytes of a word for a scheduler, and for a governor
abbrev pub most_scheduler_bytes : ℕ
most_scheduler_bytes = 3

abbrev pub most_governor_bytes : ℕ
most_governor_bytes = 6

pub scheduler-short : (s : Scheduler) → length (scheduler_word s) ≤ most_scheduler_bytes
scheduler-short Edf = omega arith
scheduler-short Rm = omega arith

pub governor-short : (g : GovernorKind) → length (governor_word g) ≤ most_governor_bytes
governor-short Plain = omega arith
governor-short _ = omega arith

-- the plan line is read: it is line 2 of the text, and its fields give the plan
pub record PlanRead (plan : PlanLine) (more : List ℕ) : Type 0 where
  pub text : List ℕ
  pub line_read : line_at 2 (parts 10 (plan_text plan.scheduler plan.governor plan.ticks ++ more)) ≡ Ok (text, parts 10 more)
  pub plan_read : plan_line_of (parts 32 text) ≡ Ok plan

pub plan-text : (plan : PlanLine) (more : List ℕ) → IsPlan plan → PlanRead plan more
plan-text plan more h =
    let fields : List (List ℕ) = plan_fields plan.scheduler plan.governor plan.ticks in
    let unspaced : AllByRecursion AreUnspaced fields = unspaced-plan plan.scheduler plan.governor plan.ticks in
    record {
      text = spaced fields;
      line_read =
          read-line 2 fields more unspaced (omega arith)
          (omega (arith, scheduler-short plan.scheduler, governor-short plan.governor, length-decimal plan.ticks));
      plan_read =
          ap plan_line_of (parts-joined 32 (codes "plan")
          (scheduler_word plan.scheduler ∷ governor_word plan.governor ∷ decimal plan.ticks ∷ []) (lacks-unspaced fields unspaced).0) ∙ plan-read plan h;
    }

-- the version line is read as line 1
pub version-read : (v : Version) (more : List ℕ) → line_at 1 (parts 10 (version_line v ++ more)) ≡ Ok (version_body v, parts 10 more)
version-read One more = line_at-text 1 (codes "trace 1") more (refl, (refl, (refl, (refl, (refl, (refl, (refl, tt))))))) (omega arith) (omega arith)
version-read Two more = line_at-text 1 (codes "trace 2") more (refl, (refl, (refl, (refl, (refl, (refl, (refl, tt))))))) (omega arith) (omega arith)

-- a text that is one line: its line feed is the last byte, and it is at most the longest line
pub record IsLine (text : List ℕ) : Type 0 where
  pub body : List ℕ
  pub ended : text ≡ body ++ 10 ∷ []
  pub unspaced : Lacks 10 body
  pub short : length body ≤ LONGEST_LINE

abbrev pub AreLines : List (List ℕ) → Type 0
AreLines = AllByRecursion IsLine

pub task_lines-lines : (names : List (List ℕ)) (tasks : List TaskLine) → AreNames names → AreLines (task_lines names tasks)
task_lines-lines [] tasks h = tt
task_lines-lines (name ∷ names) [] h = tt
task_lines-lines (name ∷ names) (t ∷ tasks) h =
    let fields : List (List ℕ) = codes "task" ∷ name ∷ decimal t.period ∷ decimal t.offset ∷ decimal t.worst ∷ [] in
    let unspaced : AllByRecursion AreUnspaced fields = unspaced-task name t.period t.offset t.worst (unspaced-name name h.0) in (
      record {
        body = spaced fields;
        ended = line-spaced fields;
        unspaced = lacks-spaced fields (lacks-unspaced fields unspaced).1;
        short = omega (arith, length-spaced fields, length-name name h.0, length-decimal t.period, length-decimal t.offset, length-decimal t.worst);
      },
      task_lines-lines names tasks h.1,
    )

pub version-none : (v : Version) → v ≡ One → AreLines (version_task_lines v []) × IsUpTo One v
version-none One e = (tt, tt)
version-none Two e = absurd cc

-- what reading the lines of the tasks gives: the text is theirs and the rest, and the next number counts them
pub record TasksRead (n : ℕ) (tasks ps : List (List ℕ)) (p : ℕ × List (List ℕ)) : Type 0 where
  pub text : join_with_byte 10 ps ≡ joined tasks ++ join_with_byte 10 p.1
  pub next : p.0 ≡ n + length tasks

task-step : (n : ℕ) (task : List ℕ) (tasks ps : List (List ℕ)) (l : List ℕ × List (List ℕ)) (p : ℕ × List (List ℕ)) (same : Bool)
    → line_at n ps ≡ Ok l → bytes_eq (l.0 ++ 10 ∷ []) task ≡ same
    → (if same then parts_after_tasks (n + 1) tasks l.1 else Err (Refused n kind.TaskLine)) ≡ Ok p
    → (parts_after_tasks (n + 1) tasks l.1 ≡ Ok p → TasksRead (n + 1) tasks l.1 p) → TasksRead n (task ∷ tasks) ps p
task-step n task tasks ps l p false read same e later = absurd cc
task-step n task tasks ps l p true read same e later = grind (arith, nat_tests, append_assoc, bytes_eq-Decides, join-line, line_at-found)

pub tasks-found : (n : ℕ) (tasks ps : List (List ℕ)) (p : ℕ × List (List ℕ)) → parts_after_tasks n tasks ps ≡ Ok p → TasksRead n tasks ps p
unfolding parts_after_tasks
tasks-found n [] ps p e = subst (λ (q : ℕ × List (List ℕ)). TasksRead n [] ps q) (ok-is {F = TraceFault} (n, ps) p e)
    (record { text = refl; next = omega arith })
tasks-found n (task ∷ tasks) ps p e =
    let a = step-ok _ _ p e in
    task-step n task tasks ps a.0 p (bytes_eq (a.0.0 ++ 10 ∷ []) task) a.1 refl a.2 (λ later. tasks-found (n + 1) tasks a.0.1 p later)

pub tasks-text : (n : ℕ) (tasks : List (List ℕ)) (more : List ℕ) → AreLines tasks → n + length tasks ≤ MOST_LINES + 1
    → parts_after_tasks n tasks (parts 10 (joined tasks ++ more)) ≡ Ok (n + length tasks, parts 10 more)
unfolding parts_after_tasks
tasks-text n [] more h few = let here : n ≡ n + 0 = omega arith in ap (λ m. Ok (m, parts 10 more)) here
tasks-text n (task ∷ tasks) more h few =
    let whole : (task ++ joined tasks) ++ more ≡ h.0.body ++ 10 ∷ (joined tasks ++ more) =
    append_assoc task (joined tasks) more ∙ (ap (λ t. t ++ (joined tasks ++ more)) h.0.ended ∙ append_assoc h.0.body (10 ∷ []) (joined tasks ++ more)) in
    let line : line_at n (parts 10 ((task ++ joined tasks) ++ more)) ≡ Ok (h.0.body, parts 10 (joined tasks ++ more)) =
    ap (λ t. line_at n (parts 10 t)) whole ∙ line_at-text n h.0.body (joined tasks ++ more) h.0.unspaced (omega arith) h.0.short in
    let same : bytes_eq (h.0.body ++ 10 ∷ []) task ≡ true = (bytes_eq-Decides (h.0.body ++ 10 ∷ []) task).1 (sym h.0.ended) in
    let here : n + 1 + length tasks ≡ n + suc (length tasks) = omega arith in
    rw (line, same) (tasks-text (n + 1) tasks more h.1 (omega arith) ∙ ap (λ m. Ok (m, parts 10 more)) here)
