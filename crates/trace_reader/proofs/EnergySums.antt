-- The energies of the tasks, with one note more.
use Rattle.std.proofs.Common.{◌≡◌, ◌≢◌, ℕ, ◌+◌, ◌<◌, Bool, true, false, List, [], ◌∷◌, ◌++◌, length, get_or, set, Option, None, refl, sym, ap, ◌∙◌, arith, if◌then◌else◌}
use Rattle.std.specs.Prelude.{nat_eq}
use Rattle.std.proofs.lemmas.Bool.Decides.{nat_tests}
use Rattle.std.proofs.lemmas.List.{get_or-set_same, get_or-set_other}
use Rattle.std.proofs.lemmas.List.Sums.{sum_by-append}
use Rattle.dvs_base.specs.declared.limits.TheConstants.{MOST_TASKS}
use Rattle.dvs_base.specs.declared.note.Note.{Note}
use Rattle.dvs_base.specs.declared.note.Pos.{Pos}
use Rattle.dvs_base.specs.declared.note.Note.TheVariants.{Run}
use Rattle.dvs_base.specs.NoteTasks.{energy_of_task}
use Rattle.trace_text.specs.TraceText.{task_energy}
use Rattle.trace_reader.specs.Sums.{narrow, with_energy, HasSums}

with-narrow : (s e : ℕ) → with_energy (narrow s) e ≡ narrow (s + e)
with-narrow s e = grind (arith, nat_tests)

-- the energy of a task with one note more is the sum, with the note's energy if it is the task's run
pub energy-more : (notes : List Note) (n : Note) (i : ℕ) → task_energy (notes ++ n ∷ []) i ≡ task_energy notes i + energy_of_task i n
energy-more notes n i = omega (arith, sum_by-append (energy_of_task i) notes (n ∷ []))

-- the sums with one run more: its energy is added to its task's
pub sums-run : (sums : List (Option ℕ)) (notes : List Note) (from to : Pos) (j k units energy : ℕ) → j < MOST_TASKS → length sums ≡ MOST_TASKS
    → HasSums notes sums → HasSums (notes ++ Run from to j k units energy ∷ []) (set sums j (with_energy (get_or sums j None) energy))
sums-run sums notes from to j k units energy lt long h i below = by (nat_eq j i) refl
  where
    by : (same : Bool) → nat_eq j i ≡ same
        → get_or (set sums j (with_energy (get_or sums j None) energy)) i None ≡ narrow (task_energy (notes ++ Run from to j k units energy ∷ []) i)
    by true e =
        let here : i ≡ j = grind (arith, nat_tests) in
        let total : task_energy (notes ++ Run from to j k units energy ∷ []) i ≡ task_energy notes i + energy =
        energy-more notes (Run from to j k units energy) i ∙ ap (λ (same : Bool). task_energy notes i + (if same then energy else 0)) e in
        let kept : get_or (set sums j (with_energy (get_or sums j None) energy)) i None ≡ with_energy (get_or sums i None) energy =
        rw here (get_or-set_same sums j (with_energy (get_or sums j None) energy) None (omega arith)) in
        kept ∙ (ap (λ o. with_energy o energy) (h i below) ∙ (with-narrow (task_energy notes i) energy ∙ ap narrow (sym total)))
    by false e =
        let other : i ≢ j = grind (arith, nat_tests) in
        let total : task_energy (notes ++ Run from to j k units energy ∷ []) i ≡ task_energy notes i = energy-more notes
        (Run from to j k units energy) i ∙ (ap (λ (same : Bool). task_energy notes i + (if same then energy else 0)) e ∙ omega arith) in
        get_or-set_other sums j i (with_energy (get_or sums j None) energy) None other ∙ (h i below ∙ ap narrow (sym total))
