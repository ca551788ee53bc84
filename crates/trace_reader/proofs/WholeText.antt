-- The lines of a trace: what holds of each, how many they are, and their text.
use Rattle.std.proofs.lemmas.Bool.Decides.{nat_tests}
use Rattle.std.proofs.Common.{◌≡◌, ℕ, suc, ◌+◌, ◌<◌, Bool, true, false, List, [], ◌∷◌, ◌++◌, length, map, flat_map, refl, ap, subst, ◌∙◌, arith, length-append, if◌then◌else◌}
use Rattle.std.specs.List.{AllByRecursion}
use Rattle.std.proofs.lemmas.Grind.{flat_map-append}
use Rattle.std.proofs.lemmas.List.{append-nil, length-map}
use Rattle.dvs_base.specs.Parts.{joined, name_of}
use Rattle.dvs_base.specs.declared.kind.Scheduler.{Scheduler}
use Rattle.dvs_base.specs.declared.kind.GovernorKind.{GovernorKind}
use Rattle.dvs_base.specs.declared.kind.Version.{Version}
use Rattle.dvs_base.specs.declared.kind.Version.TheVariants.{One, Two}
use Rattle.dvs_base.specs.declared.note.Note.{Note}
use Rattle.trace_text.specs.TraceLines.{note_text, plan_text}
use Rattle.trace_text.specs.declared.write.PlanLine.{PlanLine}
use Rattle.dvs_base.proofs.Lists.{each-append}
use Rattle.trace_text.specs.TraceText.{unnoted_line, line_of_note, has_task_lines, for_tasks, lines_of_note, note_lines, trace_lines, text_of_lines, whole_text, version_line, share_text, task_energy, shares_from}
use Rattle.trace_reader.specs.Heads.{version_task_lines}
use Rattle.trace_reader.specs.TraceFile.{energy_line_count}
use Rattle.trace_reader.specs.Traces.{is_end, IsEnded, lines_for_tasks}

-- the lines of a note are its own, and before it those of the tasks' energies if it ends the run
pub lines-by : (v : Version) (names : List (List ℕ)) (all : List Note) (n : Note) (b : Bool) → is_end n ≡ b
    → lines_of_note v names all n ≡ (if b then for_tasks v (shares_from all 0 names) else []) ++ line_of_note names n ∷ []
lines-by v names all n b e = grind (arith, nat_tests)

-- what holds of texts for the tasks holds of each of their lines
pub each-for : (P : List ℕ → Type 0) (v : Version) (texts : List (List ℕ)) → (has_task_lines v ≡ true → AllByRecursion P texts)
    → AllByRecursion (λ l. P l.text) (for_tasks v texts)
each-for P One texts h = tt
each-for P Two texts h = each texts (h refl)
  where
    each : (some : List (List ℕ)) → AllByRecursion P some → AllByRecursion (λ l. P l.text) (map unnoted_line some)
    each [] h = tt
    each (text ∷ some) h = (h.0, each some h.1)

-- what holds of the line of each task's energy holds of the lines of all of them
pub each-share : (P : List ℕ → Type 0) (notes : List Note) (names : List (List ℕ))
    → ((k : ℕ) → k < length names → P (share_text (name_of names k) (task_energy notes k))) → AllByRecursion P (shares_from notes 0 names)
each-share P notes names h = from 0 names (λ k m lt is.
    let here : k ≡ m = omega (arith, is) in subst (λ i. P (share_text (name_of names k) (task_energy notes i))) here (h k lt))
  where
    from : (i : ℕ) (some : List (List ℕ)) → ((k m : ℕ) → k < length some → m ≡ i + k → P (share_text (name_of some k) (task_energy notes m)))
        → AllByRecursion P (shares_from notes i some)
    from i [] h = tt
    from i (name ∷ some) h = (h 0 i (omega arith) (omega arith), from (i + 1) some (λ k m lt is. h (suc k) m (omega arith) (omega (arith, is))))

-- what holds of the texts of notes and of the tasks' energies holds of each line of these notes
pub each-noted : (P : List ℕ → Type 0) (v : Version) (names : List (List ℕ)) (all notes : List Note)
    → (has_task_lines v ≡ true → AllByRecursion P (shares_from all 0 names)) → AllByRecursion (λ n. P (note_text names n)) notes
    → AllByRecursion (λ l. P l.text) (flat_map (lines_of_note v names all) notes)
each-noted P v names all [] shares own = tt
each-noted P v names all (n ∷ notes) shares own = grind (arith, nat_tests, each-append, each-for, flat_map, lines-by, each-noted P v names all notes)

-- the lines for the tasks are those of the texts that the version has
for-has : (v : Version) (texts : List (List ℕ)) → for_tasks v texts ≡ map unnoted_line (version_task_lines v texts)
for-has One texts = refl
for-has Two texts = refl

length-for : (v : Version) (texts : List (List ℕ)) → length (for_tasks v texts) ≡ length (version_task_lines v texts)
length-for v texts = ap length (for-has v texts) ∙ length-map (version_task_lines v texts) unnoted_line

length-has : (v : Version) (texts : List (List ℕ)) → length (version_task_lines v texts) ≡ (if has_task_lines v then length texts else 0)
length-has One texts = refl
length-has Two texts = refl

length-from : (notes : List Note) (i : ℕ) (names : List (List ℕ)) → length (shares_from notes i names) ≡ length names
length-from notes i [] = refl
length-from notes i (name ∷ names) = ap suc (length-from notes (i + 1) names)

-- a version has as many energy lines as the reader wants
pub length-shares : (v : Version) (names : List (List ℕ)) (notes : List Note)
    → length (version_task_lines v (shares_from notes 0 names)) ≡ energy_line_count v names
length-shares v names notes = length-has v (shares_from notes 0 names) ∙ ap (λ k. if has_task_lines v then k else 0) (length-from notes 0 names)

-- the lines of notes that end once are one for each, and those of the tasks' energies
length-noted : (v : Version) (names : List (List ℕ)) (all notes : List Note) → IsEnded notes
    → length (flat_map (lines_of_note v names all) notes) ≡ energy_line_count v names + length notes
length-noted v names all [] ended = absurd ended
length-noted v names all (n ∷ []) ended = grind (arith, nat_tests, append-nil, length-append, length-for, length-shares, lines-by)
length-noted v names all (n ∷ m ∷ notes) ended =
    ap (λ ls. length (ls ++ flat_map (lines_of_note v names all) (m ∷ notes))) (lines-by v names all n false ended.0)
    ∙ omega (arith, length-noted v names all (m ∷ notes) ended.1)

pub lines-wanted : (v : Version) (names tasks : List (List ℕ))
    → lines_for_tasks v (length names) (length tasks) ≡ length (version_task_lines v tasks) + energy_line_count v names
lines-wanted One names tasks = refl
lines-wanted Two names tasks = refl

-- how many lines a trace has
pub length-lines : (v : Version) (s : Scheduler) (g : GovernorKind) (ticks : ℕ) (names tasks : List (List ℕ)) (notes : List Note) → IsEnded notes
    → length (trace_lines v s g ticks names tasks notes) ≡ 2 + lines_for_tasks v (length names) (length tasks) + length notes
length-lines v s g ticks names tasks notes ended = grind (arith, nat_tests, length-append, length-for, length-noted, lines-wanted)

-- the text of the lines for the tasks
pub text-for : (v : Version) (texts : List (List ℕ)) → text_of_lines (for_tasks v texts) ≡ joined (version_task_lines v texts)
text-for v texts = ap text_of_lines (for-has v texts) ∙ each (version_task_lines v texts)
  where
    each : (some : List (List ℕ)) → text_of_lines (map unnoted_line some) ≡ joined some
    each [] = refl
    each (text ∷ some) = ap (λ more. text ++ more) (each some)

-- the text of a trace by its four parts: version line, plan line, task lines and notes
pub text-parts : (v : Version) (plan : PlanLine) (names tasks : List (List ℕ)) (notes : List Note)
    → whole_text v plan.scheduler plan.governor plan.ticks names tasks notes
    ≡ version_line v
    ++ (plan_text plan.scheduler plan.governor plan.ticks ++ (joined (version_task_lines v tasks) ++ text_of_lines (note_lines v names notes)))
text-parts v plan names tasks notes = grind (arith, nat_tests, flat_map-append, text-for)
