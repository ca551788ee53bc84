-- The lines of a whole run.
use Rattle.std.proofs.Common.{◌≡◌, ℕ, ◌+◌, ◌*◌, ◌≤◌, List, [], ◌∷◌, ◌++◌, length, map, Result, Ok, Err, refl, ap, ap₂, sym, ◌∙◌, subst, arith, append-nil, length-append}
use Rattle.std.specs.Prelude.{flat_map, sum_by, slice_index, IfOk}
use Rattle.std.specs.List.{AllByRecursion}
use Rattle.std.proofs.lemmas.List.{length-map}
use Rattle.std.proofs.lemmas.List.Concat.{flat_map-append}
use Rattle.std.proofs.lemmas.List.Sums.{sum_by-append, sum_by-cons}
use Rattle.grid_fraction.specs.Numbers.{list_below}
use Rattle.dvs_base.specs.declared.kind.GovernorKind.{GovernorKind}
use Rattle.dvs_base.specs.declared.kind.Version.{Version}
use Rattle.dvs_base.specs.declared.kind.Version.TheVariants.{One, Two}
use Rattle.dvs_base.specs.declared.note.Note.{Note}
use Rattle.dvs_base.specs.declared.note.Note.TheVariants.{End}
use Rattle.dvs_base.specs.declared.note.Totals.{Totals}
use Rattle.dvs_base.specs.Parts.{name_of}
use Rattle.dvs_base.specs.NoteTasks.{energy_of_task}
use Rattle.task_model.specs.declared.task.Task.{Task}
use Rattle.sched_model.specs.Plan.{Plan, count, names, task, period, offset}
use Rattle.sched_model.specs.Jobs.{released_jobs}
use Rattle.sched_model.specs.Admission.{IsAdmitted, IsWithinLimits}
use Rattle.sched_model.specs.Totals.{totals_of}
use Rattle.sched_model.specs.Notes.{run_energy_told, idle_energy_told}
use Rattle.grid_fraction.proofs.Tables.{get-table, length-list_below}
use Rattle.governor.specs.Meanings.{OwnDemand}
use Rattle.governor.specs.Schedule.{ask_of}
use Rattle.note_laws.specs.LineCounts.{AreFew}
use Rattle.trace_writer.specs.RunText.{task_texts, most_lines}
use Rattle.note_laws.proofs.FewNotes.{has-few-notes, IsNoteIn}
use Rattle.trace_text.specs.TraceText.{NotedLine, unnoted_line, line_of_note, task_energy, task_text, share_text, shares_from, for_tasks, head_lines, lines_of_note, note_lines}
use Rattle.trace_writer.specs.UnnotedLines.{sum_lines}
use Rattle.trace_writer.proofs.SumLines.{shares-below}
use Rattle.event_kernel.specs.Runs.{Run as RunView, demands_of, run_ticks, notes_of_run, lines_of_run}
use Rattle.event_kernel.specs.SpanNotes.{notes_before_end_of}
use Rattle.event_kernel.proofs.NoteRoom.{course-fits}
use Rattle.event_kernel.proofs.Courses.{course-len, course-legal}

pub few-of : {E : Type 0} (r : Result Totals E) (t : Totals) → AreFew t → IfOk r (λ x. x ≡ t) → IfOk r AreFew
few-of (Ok x) t few is = subst AreFew (sym is) few
few-of (Err e) t few is = tt

-- each note before the `End` has only its own line
own-lines : (v : Version) (ns : List (List ℕ)) (p : Plan) (all notes : List Note) → AllByRecursion (IsNoteIn p) notes
    → flat_map (lines_of_note v ns all) notes ≡ map (line_of_note ns) notes
own-lines v ns p all [] h = refl
own-lines v ns p all (n ∷ notes) h = go n h.0 (own-lines v ns p all notes h.1)
  where
    go : (n : Note) → IsNoteIn p n → flat_map (lines_of_note v ns all) notes ≡ map (line_of_note ns) notes
        → lines_of_note v ns all n ++ flat_map (lines_of_note v ns all) notes ≡ line_of_note ns n ∷ map (line_of_note ns) notes
    go (End t run idle) b e = absurd b
    go n b e = ap (λ ls. line_of_note ns n ∷ ls) e

-- few notes make few lines, with the two lines before them and those that a version has for the tasks
few-lines : (v : Version) (p : Plan) (energies : List ℕ) (notes ticks : ℕ) → notes ≤ 7 * released_jobs p ticks + 3
    → 2 + length (for_tasks v (task_texts p)) + (notes + length (sum_lines v p energies)) ≤ most_lines v p ticks
few-lines One p energies notes ticks few = omega (arith, few)
few-lines Two p energies notes ticks few =
    omega (
      arith,
      few,
      each (λ i. task_text (name_of (names p) i) (period p i) (offset p i) (task p i).worst),
      each (λ i. share_text (name_of (names p) i) (slice_index energies i)),
    )
  where
    each : (f : ℕ → List ℕ) → length (map unnoted_line (list_below (count p) f)) ≡ count p
    each f = length-map (list_below (count p) f) unnoted_line ∙ length-list_below (count p) f

module _ (demand : OwnDemand) (r : RunView) (v : Version) where
  abbrev before : List Note
  before = notes_before_end_of demand r

  abbrev energies : List ℕ
  energies = list_below (count r.plan) (task_energy before)

  abbrev end : Note
  end = End (length (run_ticks demand r)) (sum_by run_energy_told before) (sum_by idle_energy_told before)

  -- the energies of the tasks over the notes before the `End` are those over all notes
  same-sums : sum_lines v r.plan energies ≡ for_tasks v (shares_from (notes_of_run demand r) 0 (names r.plan))
  same-sums =
      ap (for_tasks v)
      (ap (λ n. list_below n (λ i. share_text (name_of (names r.plan) i) (slice_index energies i))) (sym all)
      ∙ shares-below (notes_of_run demand r) (names r.plan) 0 (λ i. slice_index energies i)
      (λ k m e lt. get-table (count r.plan) (task_energy before) k 0 (omega (arith, lt, all))
      ∙ (more k ∙ ap (task_energy (notes_of_run demand r)) (omega (arith, e)))))
    where
      all : length (names r.plan) ≡ count r.plan
      all = length-map r.plan.tasks (λ (t : Task). t.name)

      more : (i : ℕ) → task_energy before i ≡ task_energy (notes_of_run demand r) i
      more i = omega (arith, sum_by-append (energy_of_task i) before (end ∷ []), sum_by-cons (energy_of_task i) end [])

  -- the lines of all notes: those before the `End`, the energies, and the `End`
  all-lines : IsWithinLimits r.plan → map (line_of_note (names r.plan)) before ++ (sum_lines v r.plan energies ++ line_of_note (names r.plan) end ∷ [])
      ≡ note_lines v (names r.plan) (notes_of_run demand r)
  all-lines limits =
      let ns : List (List ℕ) = names r.plan in
      let all : List Note = notes_of_run demand r in
      sym (flat_map-append (lines_of_note v ns all) before (end ∷ [])
      ∙ ap₂ (λ (x y : List NotedLine). x ++ y)
      (own-lines v ns r.plan all before (course-fits demand r.plan (demands_of r.plan r.demands) limits (λ i. refl) r.ticks).each)
      (append-nil (lines_of_note v ns all end) ∙ ap (λ (ls : List NotedLine). ls ++ line_of_note ns end ∷ []) (sym same-sums)))

  -- the lines of all notes, from a teller's names, its plan, its ticks, its energies and its totals
  pub told-lines : (ns : List (List ℕ)) (p : Plan) (ticks : ℕ) (es : List ℕ) (t : Totals)
      → IsAdmitted p → ns ≡ names p → p ≡ r.plan → ticks ≡ r.ticks → es ≡ energies → t ≡ totals_of before
      → map (line_of_note ns) before ++ (sum_lines v p es ++ line_of_note (names p) (End ticks t.run t.idle) ∷ [])
      ≡ note_lines v (names r.plan) (notes_of_run demand r)
  told-lines ns p ticks es t adm en ep et ee to =
      let whole : ticks ≡ length (run_ticks demand r) = et ∙ sym (course-len demand r.plan (demands_of r.plan r.demands) r.ticks) in
      let own : ns ≡ names r.plan = en ∙ ap names ep in
      (λ j. map (line_of_note (own j)) before ++ (sum_lines v (ep j) (ee j) ++ line_of_note (names (ep j)) (End (whole j) ((to j).run) ((to j).idle)) ∷ []))
      ∙ all-lines (subst (λ (q : Plan). IsAdmitted q) ep adm).limits

  -- the lines of a run, from the plan, the governor and the ticks of its head, and the lines of its notes
  pub whole-lines : (g : GovernorKind) {p : Plan} {ticks : ℕ} {lines : List NotedLine} → p ≡ r.plan → ticks ≡ r.ticks
      → lines ≡ note_lines v (names r.plan) (notes_of_run demand r)
      → head_lines v p.scheduler g ticks (task_texts p) ++ lines ≡ lines_of_run v g demand r
  whole-lines g is whole notes j = head_lines v ((is j).scheduler) g (whole j) (task_texts (is j)) ++ notes j

  -- a run of few jobs has a trace of few lines
  pub run-lines : (g : GovernorKind) {a : RunView} → a ≡ r → IsWithinLimits a.plan
      → length (lines_of_run v g demand r) ≤ most_lines v r.plan r.ticks
  run-lines g is low =
      let limits : IsWithinLimits r.plan = subst (λ (x : RunView). IsWithinLimits x.plan) is low in
      let dem = demands_of r.plan r.demands in
      let ns : List (List ℕ) = names r.plan in
      let sums : List NotedLine = sum_lines v r.plan energies in
      let notes : length before + 1 ≤ 7 * released_jobs r.plan r.ticks + 3 =
      omega (
        arith,
        has-few-notes r.plan limits dem (λ i. refl) (ask_of demand r.plan dem) (run_ticks demand r) (course-legal demand r.plan dem r.ticks),
        length-append before (end ∷ []),
        ap (released_jobs r.plan) (course-len demand r.plan dem r.ticks),
      ) in
      omega (
        arith,
        few-lines v r.plan energies (length before + 1) r.ticks notes,
        length-append (head_lines v r.plan.scheduler g r.ticks (task_texts r.plan)) (note_lines v ns (notes_of_run demand r)),
        ap (λ (ls : List NotedLine). length ls) (all-lines limits),
        length-append (map (line_of_note ns) before) (sums ++ line_of_note ns end ∷ []),
        length-append sums (line_of_note ns end ∷ []),
        length-map before (line_of_note ns),
      )
