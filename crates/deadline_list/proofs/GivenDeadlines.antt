-- The deadlines that rows give, and those of all tasks.
use Rattle.std.proofs.Common.{ℕ, List, length, ◌≡◌, ◌<◌, ◌≤◌, Option, Some, None, refl, sym, ◌∙◌, subst, arith}
use Rattle.std.proofs.lemmas.Option.{none-some}
use Rattle.std.specs.Prelude.{unwrap_or}
use Rattle.task_model.specs.declared.task.Task.{Task}
use Rattle.task_model.specs.Tasks.{task_at, IsTaskSet}
use Rattle.grid_fraction.proofs.Tables.{length-list_below, get-table}
use Rattle.deadline_list.specs.Deadlines.{AreFor}
use Rattle.deadline_list.specs.DeadlineFile.{given_to, none_given, relative_deadline, all_deadlines, AreGiven}

-- if there is no row, no task has a given deadline
none-at : (tasks : List Task) (i : ℕ) → i < length tasks → given_to (none_given tasks) i ≡ None
none-at tasks i lt = get-table (length tasks) (λ k. None) i None lt

pub none-are : (tasks : List Task) → AreGiven tasks (none_given tasks)
none-are tasks = record {
  one_each = length-list_below (length tasks) (λ i. None);
  some = λ i n lt e. absurd (none-some n (sym (none-at tasks i lt) ∙ e));
  within = λ i n lt e. absurd (none-some n (sym (none-at tasks i lt) ∙ e));
}

module _ (tasks : List Task) (set : IsTaskSet tasks) (given : List (Option ℕ)) (are : AreGiven tasks given) where
  in-range : (i : ℕ) → i < length tasks → (o : Option ℕ) → given_to given i ≡ o
      → (1 ≤ unwrap_or o (task_at tasks i).period) × (unwrap_or o (task_at tasks i).period ≤ (task_at tasks i).period)
  in-range i lt None e = ((set.each i lt).some_period, omega arith)
  in-range i lt (Some n) e = (are.some i n lt e, are.within i n lt e)

  pub all-for : AreFor tasks (all_deadlines tasks given)
  all-for = record {
    one_each = length-list_below (length tasks) (relative_deadline tasks given);
    some = λ i lt.
        let is = get-table (length tasks) (relative_deadline tasks given) i 0 lt in
        subst (λ (n : ℕ). 1 ≤ n) (sym is) (in-range i lt (given_to given i) refl).0;
    within = λ i lt.
        let is = get-table (length tasks) (relative_deadline tasks given) i 0 lt in
        subst (λ (n : ℕ). n ≤ (task_at tasks i).period) (sym is) (in-range i lt (given_to given i) refl).1;
  }
