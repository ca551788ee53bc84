-- The lines of a run's text, in either version. Those of a schedule that meets its deadlines say of each job that it
-- completes by its deadline.
use Rattle.std.proofs.Common.{◌≡◌, ℕ, List, map, refl, nat_eq, get_or, false, zero, suc, ◌+◌, ◌-◌, ◌^◌, ◌<◌, ◌≤◌, Bool, true, ◌&&◌, [], ◌∷◌, ◌++◌, length, flat_map, arith, ap, ap₂, ◌∙◌, sym, subst, true≢false, append_assoc, inl, inr}
use Rattle.std.specs.List.{AllByRecursion}
use Rattle.std.specs.Prelude.{count_by}
use Rattle.std.proofs.lemmas.Fmt.{decimal_injective}
use Rattle.std.proofs.lemmas.List.{get_or-map, length-map, map-append}
use Rattle.std.proofs.lemmas.List.Elements.{All-from_recursion, All-map}
use Rattle.std.proofs.lemmas.Grind.{flat_map-append}
use Rattle.std.proofs.Math.ListN.{get_or-eq_default}
use Rattle.std.proofs.lemmas.Bool.{cases_lt, and_parts}
use Rattle.std.proofs.lemmas.Bool.Decides.{nat_tests}
use Rattle.dvs_base.specs.Parts.{name_of}
use Rattle.dvs_base.specs.declared.kind.Version.{Version}
use Rattle.dvs_base.specs.declared.kind.Version.TheVariants.{One, Two}
use Rattle.dvs_base.specs.declared.kind.GovernorKind.{GovernorKind}
use Rattle.dvs_base.specs.declared.note.Note.{Note}
use Rattle.sched_model.specs.Plan.{Plan, count, names, task, period, offset}
use Rattle.grid_fraction.proofs.Tables.{each-below}
use Rattle.trace_text.specs.TraceLines.{lines_of, line, done_fields, fields_of, note_text}
use Rattle.dvs_base.proofs.Lists.{each-append}
use Rattle.trace_text.proofs.Unspaced.{AreUnspaced, unspaced-name, some-name}
use Rattle.trace_text.specs.TraceText.{head_lines, text_of_lines, shares_from, version_line, NotedLine, line_of_note, lines_of_note}
use Rattle.trace_reader.proofs.WholeText.{each-for, each-share, each-noted}
use Rattle.trace_reader.proofs.SplitLines.{IsLine, lines-text, task-fields, each-line}
use Rattle.dvs_base.specs.declared.note.Note.TheVariants.{Done}
use Rattle.dvs_base.specs.declared.note.Pos.{Pos}
use Rattle.trace_text.proofs.NoteLines.{note-fields, done-same}
use Rattle.task_model.specs.declared.task.Task.{Task}
use Rattle.task_model.specs.Tasks.{no_task, task_at}
use Rattle.dvs_base.specs.declared.limits.TheConstants.{MOST_TICKS}
use Rattle.sched_model.specs.Jobs.{JobDemands, release, due}
use Rattle.sched_model.specs.Ticks.{PublishedDemand, Tick, at, exec, IsMet}
use Rattle.sched_model.specs.Demand.{published}
use Rattle.sched_model.specs.Schedule.{IsScheduleBy, schedule}
use Rattle.sched_model.specs.Admission.{IsWithinLimits}
use Rattle.sched_model.specs.Notes.{notes_of}
use Rattle.sched_model.proofs.Limits.{every_period, low_period}
use Rattle.sched_model.proofs.Schedules.{schedule_exists, exec-most, exec-drop}
use Rattle.sched_model.proofs.Units.{each-weaker}
use Rattle.sched_model.proofs.JobLaws.{le-due, release-due}
use Rattle.sched_model.proofs.NoteSums.{one_if, tells_done}
use Rattle.trace_writer.specs.RunText.{task_texts, run_lines}
use Rattle.trace_laws.specs.DoneLines.{IsDoneLine, NoDoneLine, IsToldBy, TellsDeadlines, TextTellsDeadlines}
use Rattle.note_laws.specs.InTime.{IsBy}
use Rattle.note_laws.proofs.CountLemmas.{count-next, IsAlone, alone, told-once, told-never, IsInTime, in-time}

-- a line that doesn't begin with the letter d, as a `done` line does
abbrev pub IsQuiet : List ℕ → Type 0
IsQuiet l = nat_eq (get_or l 0 0) 100 ≡ false

-- the text of a run is split into the lines that it was made of
pub lines-run : (p : Plan) → ((i : ℕ) → AreUnspaced (name_of (names p) i)) → (v : Version) (g : GovernorKind) (ticks : ℕ) (notes : List Note)
    → lines_of (text_of_lines (run_lines v p g ticks notes)) ≡ map (λ l. l.text) (run_lines v p g ticks notes)
lines-run p named v g ticks notes =
    lines-text (run_lines v p g ticks notes)
    (each-line (names p) named v p.scheduler g ticks (task_texts p) notes
    (each-below IsLine (count p) _ (λ i lt. task-fields (name_of (names p) i) (period p i) (offset p i) ((task p i).worst) (named i))))

-- the lines before the notes, and those of the tasks' energies, don't begin with the letter d
pub quiet-head : (p : Plan) (v : Version) (g : GovernorKind) (ticks : ℕ)
    → AllByRecursion (λ l. IsQuiet l.text) (head_lines v p.scheduler g ticks (task_texts p))
quiet-head p v g ticks = (first v, (refl, each-for IsQuiet v (task_texts p) (λ _. each-below IsQuiet (count p) _ (λ i lt. refl))))
  where
    first : (w : Version) → IsQuiet (version_line w)
    first One = refl
    first Two = refl

pub quiet-shares : (notes : List Note) (ns : List (List ℕ)) → AllByRecursion IsQuiet (shares_from notes 0 ns)
quiet-shares notes ns = each-share IsQuiet notes ns (λ i lt. refl)

-- the line is not that of the completion of job k of the task of this name
abbrev IsOther : List ℕ → ℕ → List ℕ → Type 0
IsOther name k l = (at_end : Pos) → IsDoneLine name k at_end l → ⊥

-- a line that doesn't begin with the letter d is not a completion's line
other-line : (name : List ℕ) (k : ℕ) (l : List ℕ) → IsQuiet l → IsOther name k l
other-line name k l other at_end d = true≢false (sym (ap (λ (m : List ℕ). nat_eq (get_or m 0 0) 100) d.1) ∙ other)

-- if no line is the completion's, none of their texts is
none-done : (name : List ℕ) (k : ℕ) (ls : List NotedLine) → AllByRecursion (λ l. IsOther name k l.text) ls → NoDoneLine name k (map (λ l. l.text) ls)
none-done name k ls h = All-map (IsOther name k) (λ (l : NotedLine). l.text) ls (All-from_recursion (λ (l : NotedLine). IsOther name k l.text) ls h)

-- a note of another kind, or of another job, doesn't have the line of this job's completion
silent : (ns : List (List ℕ)) → ((i : ℕ) → AreUnspaced (name_of ns i)) → (i k : ℕ) → ((j : ℕ) → name_of ns j ≡ name_of ns i → j ≡ i) → k < 2 ^ 64
    → (n : Note) → tells_done i k n ≡ false → ((l : ℕ) → tells_done i l n ≡ true → l < 2 ^ 64)
    → IsOther (name_of ns i) k (note_text ns n)
silent ns named i k apart low n off small at_end d = go n off small (d.0, sym (note-fields ns n) ∙ d.1)
  where
    self : (m : ℕ) → nat_eq m m ≡ true
    self m = grind (arith, nat_tests)

    go : (n : Note) → tells_done i k n ≡ false → ((l : ℕ) → tells_done i l n ≡ true → l < 2 ^ 64)
        → IsDoneLine (name_of ns i) k at_end (line (fields_of ns n)) → ⊥
    go (Done q j l u) off small d =
        let same = done-same ns named (name_of ns i) (named i) k at_end d.0 q j l u d.1 in
        let task : j ≡ i = apart j same.0 in
        let here : nat_eq i j ≡ true = ap (nat_eq i) task ∙ self i in
        let bound : l < 2 ^ 64 = small l (rw (here, self l) refl) in
        let job : l ≡ k = decimal_injective l k bound low same.1 in
        let found : (nat_eq i j && nat_eq k l) ≡ true = rw (here, job, self k) refl in
        true≢false (sym found ∙ off)
    go n off small d = other-line (name_of ns i) k (line (fields_of ns n)) refl at_end d

-- if no note of some is the job's completion, no line of theirs is
silent-lines : (v : Version) (ns : List (List ℕ)) → ((i : ℕ) → AreUnspaced (name_of ns i)) → (i k : ℕ)
    → ((j : ℕ) → name_of ns j ≡ name_of ns i → j ≡ i) → k < 2 ^ 64
    → (all notes : List Note) → AllByRecursion (λ n. tells_done i k n ≡ false) notes
    → AllByRecursion (λ n. (l : ℕ) → tells_done i l n ≡ true → l < 2 ^ 64) notes
    → AllByRecursion (λ l. IsOther (name_of ns i) k l.text) (flat_map (lines_of_note v ns all) notes)
silent-lines v ns named i k apart low all notes off small =
    each-noted (IsOther (name_of ns i) k) v ns all notes
    (λ _. each-weaker IsQuiet (IsOther (name_of ns i) k) (other-line (name_of ns i) k) (shares_from all 0 ns) (quiet-shares all ns)) (own notes off small)
  where
    own : (notes : List Note) → AllByRecursion (λ n. tells_done i k n ≡ false) notes
        → AllByRecursion (λ n. (l : ℕ) → tells_done i l n ≡ true → l < 2 ^ 64) notes
        → AllByRecursion (λ n. IsOther (name_of ns i) k (note_text ns n)) notes
    own [] off small = tt
    own (n ∷ notes) off small = (silent ns named i k apart low n off.0 small.0, own notes off.1 small.1)

each-before : {A : Type 0} (P : A → Type 0) (xs ys : List A) → AllByRecursion P (xs ++ ys) → AllByRecursion P xs
each-before P [] ys e = tt
each-before P (x ∷ xs) ys e = (e.0, each-before P xs ys e.1)

each-after : {A : Type 0} (P : A → Type 0) (xs ys : List A) → AllByRecursion P (xs ++ ys) → AllByRecursion P ys
each-after P [] ys e = e
each-after P (x ∷ xs) ys e = each-after P xs ys e.1

-- if each test that counts anything has a number below 2^64, so has each test that an element passes
each-counted : {A : Type 0} (tests : ℕ → A → Bool) (xs : List A) → ((l : ℕ) → 0 < count_by (tests l) xs → l < 2 ^ 64)
    → AllByRecursion (λ x. (l : ℕ) → tests l x ≡ true → l < 2 ^ 64) xs
each-counted tests [] h = tt
each-counted tests (x ∷ xs) h = (
  λ l e. h l (omega (arith, count-next (tests l) x xs, ap one_if e)),
  each-counted tests xs (λ l some. h l (omega (arith, count-next (tests l) x xs, some))),
)

module _ (p : Plan) (dem : JobDemands) (ask : PublishedDemand) (lim : IsWithinLimits p) (ticks : List Tick) (sched : IsScheduleBy p dem ask ticks)
    (most : (i k : ℕ) → i < count p → exec p ticks i k ≤ dem i k) (low : length ticks ≤ MOST_TICKS) where
  abbrev notes : List Note
  notes = notes_of p dem ask ticks

  name-in : (i : ℕ) → i < count p → name_of (names p) i ≡ (task_at p.tasks i).name
  name-in i lt = get_or-map (λ (t : Task). t.name) p.tasks i no_task [] lt

  name-out : (i : ℕ) → count p ≤ i → name_of (names p) i ≡ []
  name-out i le = get_or-eq_default (names p) [] (omega (arith, length-map p.tasks (λ (t : Task). t.name), le))

  named : (i : ℕ) → AreUnspaced (name_of (names p) i)
  named i = grind (arith, nat_tests, cases_lt, name-in, unspaced-name, name-out)

  -- two tasks of the plan don't have one name
  apart : (i : ℕ) → i < count p → (j : ℕ) → name_of (names p) j ≡ name_of (names p) i → j ≡ i
  apart i lt j e = grind (arith, nat_tests, cases_lt, some-name, name-in, name-out)

  -- a job whose completion is among the notes has a number below 2^64
  small : (i : ℕ) → i < count p → (l : ℕ) → 0 < count_by (tells_done i l) notes → l < 2 ^ 64
  small i lt zero some = omega arith
  small i lt (suc l) some = elim (cases_lt (release p i (suc l)) (length ticks)) [
    | inl began ↦
        let first : 1 ≤ suc l = omega arith in
        let whole : suc l ≤ due p i (suc l) = le-due p i (suc l) (every_period p lim i) in
        let next : release p i (suc l) + period p i ≡ due p i (suc l) = release-due p i (suc l) first in
        omega (arith, began, whole, next, low, low_period p lim i lt)
    | inr later ↦
        let first : 1 ≤ suc l = omega arith in
        let never = told-never p dem ask lim i (suc l) lt first ticks sched later in
        absurd (omega (arith, some, never))
  ]

  -- the text of the schedule
  abbrev text : Version → GovernorKind → ℕ → List ℕ
  text v g t = text_of_lines (run_lines v p g t notes)

  abbrev lines_at : Version → List Note → List NotedLine
  lines_at v some = flat_map (lines_of_note v (names p) notes) some

  abbrev heading : Version → GovernorKind → ℕ → List NotedLine
  heading v g t = head_lines v p.scheduler g t (task_texts p)

  module _ (v : Version) (g : GovernorKind) (t : ℕ) (i k : ℕ) (lt : i < count p) (some_job : 1 ≤ k) (had : exec p ticks i k ≡ dem i k)
      (within : due p i k ≤ length ticks) where
    abbrev name : List ℕ
    name = name_of (names p) i

    -- the lines before the notes, and those of some notes
    abbrev before : List Note → List NotedLine
    before some = heading v g t ++ lines_at v some

    once : count_by (tells_done i k) notes ≡ 1
    once =
        let began : release p i k < length ticks = omega (arith, release-due p i k some_job, every_period p lim i, within) in
        told-once p dem ask lim i k lt some_job ticks sched began had

    low-job : k < 2 ^ 64
    low-job = omega (arith, le-due p i k (every_period p lim i), within, low)

    -- if the notes have exactly one completion of the job, so does the text
    told-by : IsAlone (tells_done i k) notes → IsToldBy name k (due p i k) (text v g t)
    told-by r = go r.one refl
      where
        all_small : AllByRecursion (λ n. (l : ℕ) → tells_done i l n ≡ true → l < 2 ^ 64) (r.front ++ r.one ∷ r.back)
        all_small = subst (AllByRecursion (λ n. (l : ℕ) → tells_done i l n ≡ true → l < 2 ^ 64)) r.parts (each-counted (tells_done i) notes (small i lt))

        by_then : AllByRecursion (IsInTime (due p i k) i k) (r.front ++ r.one ∷ r.back)
        by_then = subst (AllByRecursion (IsInTime (due p i k) i k)) r.parts (in-time p dem ask lim i k lt some_job ticks sched)

        go : (n : Note) → r.one ≡ n → IsToldBy name k (due p i k) (text v g t)
        go (Done q j l u) e = record {
          before = map (λ l. l.text) (before r.front);
          told = note_text (names p) (Done q j l u);
          after = map (λ l. l.text) (lines_at v r.back);
          at_end = q;
          lines = lines-run p named v g t notes ∙ (ap (λ ls. map (λ l. l.text) ls) split
              ∙ map-append (λ (l : NotedLine). l.text) (before r.front) (line_of_note (names p) (Done q j l u) ∷ lines_at v r.back));
          done = (u, note-fields (names p) (Done q j l u) ∙ ap₂ (λ m n. line (done_fields q (name_of (names p) m) n u)) (sym task) (sym job));
          in_time = by;
          none_before = none-done name k (before r.front)
              (each-append (λ l. IsOther name k l.text) (heading v g t) (lines_at v r.front)
              (each-weaker (λ l. IsQuiet l.text) (λ l. IsOther name k l.text) (λ l. other-line name k l.text) (heading v g t) (quiet-head p v g t))
              (silent-lines v (names p) named i k (apart i lt) low-job notes r.front r.none_front
              (each-before _ r.front (r.one ∷ r.back) all_small)));
          none_after = none-done name k (lines_at v r.back)
              (silent-lines v (names p) named i k (apart i lt) low-job notes r.back r.none_back
              (each-after _ r.front (r.one ∷ r.back) all_small).1);
        }
          where
            split : run_lines v p g t notes ≡ before r.front ++ line_of_note (names p) (Done q j l u) ∷ lines_at v r.back
            split =
                ap (λ ls. heading v g t ++ ls) (ap (lines_at v) r.parts ∙ (flat_map-append (lines_of_note v (names p) notes) r.front (r.one ∷ r.back)
                ∙ ap (λ n. lines_at v r.front ++ (lines_of_note v (names p) notes n ++ lines_at v r.back)) e))
                ∙ sym (append_assoc (heading v g t) (lines_at v r.front) (line_of_note (names p) (Done q j l u) ∷ lines_at v r.back))

            passes : (nat_eq i j && nat_eq k l) ≡ true
            passes = sym (ap (tells_done i k) e) ∙ r.passes

            task : i ≡ j
            task = let f : nat_eq i j ≡ true = (and_parts (nat_eq i j) (nat_eq k l) passes).0 in grind (arith, nat_tests)

            job : k ≡ l
            job = let f : nat_eq k l ≡ true = (and_parts (nat_eq i j) (nat_eq k l) passes).1 in grind (arith, nat_tests)

            by : IsBy (due p i k) q
            by = subst (IsInTime (due p i k) i k) e (each-after _ r.front (r.one ∷ r.back) by_then).0 passes
        go n e = absurd (true≢false (sym r.passes ∙ ap (tells_done i k) e))

    pub told-text : IsToldBy (name_of (names p) i) k (due p i k) (text v g t)
    told-text = told-by (alone (tells_done i k) notes once)

  -- each deadline within the ticks that is met has its line in the text
  pub tells-deadlines : (v : Version) (g : GovernorKind) → IsMet p dem ticks → TellsDeadlines p (length ticks) (text v g (length ticks))
  tells-deadlines v g met i k lt some_job within =
      let by : exec p (at (due p i k) ticks) i k ≡ dem i k = met i k lt some_job within in
      let had : exec p ticks i k ≡ dem i k = omega (arith, by, exec-drop p i k (length ticks - due p i k) ticks, most i k lt) in
      told-text v g (length ticks) i k lt some_job had within

-- the text of each run that meets its deadlines has a line for each of them
pub text-tells : (p : Plan) → IsWithinLimits p → TextTellsDeadlines p
text-tells p lim v kind dem t low met =
    let ticks = schedule p kind dem t in
    let exists = schedule_exists p dem (published p kind dem) t in
    let long : length ticks ≡ t = exists.1 in
    subst (λ n. TellsDeadlines p n (text_of_lines (run_lines v p kind n (notes_of p dem (published p kind dem) ticks)))) long
    (tells-deadlines p dem (published p kind dem) lim ticks exists.0 (exec-most p dem (published p kind dem) ticks exists.0)
    (omega (arith, long, low)) v kind met)
