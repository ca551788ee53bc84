-- The tasks and the points of numbers: their lists with one more, the set that tasks make, and lists that are too long.
use Rattle.std.proofs.Common.{◌≡◌, ◌<◌, ◌≤◌, ◌+◌, ◌/◌, ◌%◌, ℕ, List, [], ◌∷◌, ◌++◌, length, arith, ap, sym, ◌∙◌, subst, inl, inr, ◌⊎◌, eq-or-lt_of_le, Err, slice_index, refl}
use Rattle.std.proofs.lemmas.List.{get_or_append_left}
use Rattle.std.proofs.Math.ListN.{length-append}
use Rattle.std.proofs.Math.Nat.{mod-add-div}
use Rattle.std.proofs.Math.Seq.{get_or-append_seam}
use Rattle.dvs_base.specs.Checks.{◌>>=◌}
use Rattle.dvs_base.specs.declared.limits.TheConstants.{MOST_TASKS}
use Rattle.dvs_base.proofs.Counts.{choose, choose_not}
use Rattle.task_model.specs.declared.task.Task.{Task}
use Rattle.task_model.specs.declared.limits.TheConstants.{LONGEST_HYPERPERIOD}
use Rattle.task_model.specs.declared.fault.TaskFault.TheVariants as fault
use Rattle.task_model.specs.Tasks.{IsTask, IsTaskSet, task_at, no_task, hyper_of}
use Rattle.task_model.specs.TaskFile.{within_hyper}
use Rattle.freq_table.specs.declared.limits.TheConstants.{MOST_POINTS}
use Rattle.freq_table.specs.declared.fault.MachineFault.TheVariants as machine_fault
use Rattle.numbers.specs.declared.given.GivenTask.{GivenTask}
use Rattle.numbers.specs.declared.given.GivenPoint.{GivenPoint}
use Rattle.numbers.specs.Given.{given_name, given_tasks_from, tasks_of_given, given_points_from, given_points}
use Rattle.numbers.specs.Kept.{AreGiven}

-- what holds of each task by its number holds of a list with one more, if it holds of that one
each-push : (P : ℕ → Task → Type 0) (tasks : List Task) (t : Task)
    → ((i : ℕ) → i < length tasks → P i (task_at tasks i)) → P (length tasks) t
    → (i : ℕ) → i < length (tasks ++ t ∷ []) → P i (task_at (tasks ++ t ∷ []) i)
each-push P tasks t before last i lt =
    go (eq-or-lt_of_le (let le : i ≤ length tasks = omega (arith, lt, length-append tasks (t ∷ [])) in le))
  where
    go : (i ≡ length tasks) ⊎ (i < length tasks) → P i (task_at (tasks ++ t ∷ []) i)
    go (inl e) = subst (λ k. P k (task_at (tasks ++ t ∷ []) k)) (sym e) (subst (P (length tasks)) (sym (get_or-append_seam tasks t [] no_task)) last)
    go (inr l) = subst (P i) (sym (get_or_append_left tasks (t ∷ []) no_task i l)) (before i l)

pub AreGiven-push : (tasks : List Task) (t : Task) → AreGiven tasks → IsTask t → t.name ≡ given_name (length tasks) → AreGiven (tasks ++ t ∷ [])
AreGiven-push tasks t known within named = record {
  each = each-push (λ i t. IsTask t) tasks t known.each within;
  names = each-push (λ i t. t.name ≡ given_name i) tasks t known.names named;
}

-- tasks of different numbers have different names
given_name-same : (i j : ℕ) → given_name i ≡ given_name j → i ≡ j
given_name-same i j e =
    let first : 97 + i / 8 ≡ 97 + j / 8 = ap (λ (name : List ℕ). slice_index name 0) e in
    let second : 97 + i % 8 ≡ 97 + j % 8 = ap (λ (name : List ℕ). slice_index name 1) e in
    omega (arith, first, second, mod-add-div i 8, mod-add-div j 8)

pub given-set : (tasks : List Task) → AreGiven tasks → 1 ≤ length tasks → length tasks ≤ MOST_TASKS
    → hyper_of tasks ≤ LONGEST_HYPERPERIOD → IsTaskSet tasks
given-set tasks known some few low = record {
  some = some;
  few = few;
  each = known.each;
  distinct = λ i j lt lj same.
      let names : given_name i ≡ given_name j = sym (known.names i (omega (arith, lt, lj))) ∙ (same ∙ known.names j lj) in
      absurd (omega (arith, lt, given_name-same i j names));
  hyper = low;
}

pub too_many_tasks : (given : List GivenTask) → MOST_TASKS < length given → tasks_of_given given ≡ Err (fault.TooMany (length given))
too_many_tasks [] h = absurd (omega arith)
too_many_tasks (g ∷ gs) h = choose MOST_TASKS (length (g ∷ gs)) (length (g ∷ gs)) (λ n. Err (fault.TooMany n)) _ refl h

pub few_tasks : (given : List GivenTask) → 0 < length given → length given ≤ MOST_TASKS
    → tasks_of_given given ≡ (given_tasks_from [] given >>= within_hyper)
few_tasks [] s h = absurd (omega arith)
few_tasks (g ∷ gs) s h = choose_not MOST_TASKS (length (g ∷ gs)) (length (g ∷ gs)) (λ n. Err (fault.TooMany n)) _ refl h

pub too_many_points : (given : List GivenPoint) → MOST_POINTS < length given → given_points given ≡ Err (machine_fault.TooMany (length given))
too_many_points [] h = absurd (omega arith)
too_many_points (g ∷ gs) h = choose MOST_POINTS (length (g ∷ gs)) (length (g ∷ gs)) (λ n. Err (machine_fault.TooMany n)) _ refl h

pub few_points : (given : List GivenPoint) → 0 < length given → length given ≤ MOST_POINTS → given_points given ≡ given_points_from [] given
few_points [] s h = absurd (omega arith)
few_points (g ∷ gs) s h = choose_not MOST_POINTS (length (g ∷ gs)) (length (g ∷ gs)) (λ n. Err (machine_fault.TooMany n)) _ refl h
