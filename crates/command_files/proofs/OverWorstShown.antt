-- A demand file is refused by a row over its worst case only if the row is over it.
use Rattle.std.proofs.Common.{◌≡◌, ◌≢◌, ◌<◌, ◌+◌, ◌^◌, ◌==◌, refl, subst, ℕ, Bool, true, false, List, [], ◌∷◌, Option, Some, None, Result, Ok, Err, nat_lt, slice_index, arith, if◌then◌else◌}
use Rattle.std.specs.Prelude.{⊤, ok_or, length}
use Rattle.std.proofs.lemmas.Bool.Decides.{nat_tests}
use Rattle.dvs_base.specs.Checks.{and_then, none_found}
use Rattle.dvs_base.specs.Text.{number_below, short_of}
use Rattle.task_model.specs.declared.task.Task.{Task}
use Rattle.task_model.specs.DemandRows.{named_units}
use Rattle.task_model.specs.TaskFile.{place_of}
use Rattle.demand_list.specs.Demands.{DemandsView}
use Rattle.demand_list.specs.DemandFile.{demand_of_row, with_checked, demands_from, worst_list, demand_file}
use Rattle.demand_list.specs.declared.fault.Column.TheVariants as column
use Rattle.demand_list.specs.declared.fault.DemandFault.{DemandFault}
use Rattle.demand_list.specs.declared.fault.DemandFault.TheVariants as fault
use Rattle.statuses.specs.Refused.{demand_status}
use Rattle.statuses.specs.Status.{IsShown}

-- the numbers of a refusal over the worst case show that the units are over it
abbrev IsShownFault : DemandFault → Type 0
IsShownFault (fault.OverWorst task job units worst) = worst < units
IsShownFault e = ⊤

-- a step that is refused is so by a refusal whose numbers show it
abbrev IsShownStep : {A : Type 0} → Result A DemandFault → Type 0
IsShownStep (Ok a) = ⊤
IsShownStep (Err e) = IsShownFault e

then-shown : {A B : Type 0} (step : Result A DemandFault) (next : A → Result B DemandFault) → IsShownStep step
    → ((a : A) → IsShownStep (next a)) → IsShownStep (and_then step next)
then-shown (Ok a) next here later = later a
then-shown (Err e) next here later = here

-- if it finds nothing a step gives e, whose numbers show it
found-shown : {A : Type 0} (o : Option A) (e : DemandFault) → IsShownFault e → IsShownStep (ok_or o e)
found-shown None e h = h
found-shown (Some x) e h = tt

choice-shown : {A : Type 0} (b : Bool) (x y : Result A DemandFault) → (b ≡ true → IsShownStep x) → IsShownStep y
    → IsShownStep (if b then x else y)
choice-shown true x y h k = h refl
choice-shown false x y h k = k

row-shown : (tasks : List Task) (row : ℕ) (fields : List (List ℕ)) → IsShownStep (demand_of_row tasks row fields)
row-shown tasks row fields =
    then-shown _ _ (found-shown _ (fault.Fields row (length fields)) tt) (λ three.
    then-shown _ _ (found-shown (place_of tasks three.0) (fault.UnknownTask row (short_of three.0)) tt) (λ task.
    then-shown _ _ (found-shown (number_below (2 ^ 64) three.1) (fault.BadNumber row column.Job) tt) (λ number.
    then-shown _ _ (choice-shown (number == 0) (Err (fault.JobZero row)) (Ok number) (λ h. tt) tt) (λ job.
    then-shown _ _ (found-shown (number_below (2 ^ 64) three.2) (fault.BadNumber row column.Units) tt) (λ units. tt)))))

none-shown : {A : Type 0} (refusal : A → DemandFault) (o : Option A) → ((a : A) → IsShownFault (refusal a))
    → IsShownStep (none_found refusal o)
none-shown refusal None each = tt
none-shown refusal (Some a) each = each a

checked-shown : (d : DemandsView) (row task job units : ℕ) → IsShownStep (with_checked d row task job units)
checked-shown d row task job units =
    then-shown _ _ (none-shown _ (named_units d.rows task job) (λ earlier. tt)) (λ _.
    then-shown _ _
    (choice-shown (nat_lt (slice_index d.worsts task) units)
    (Err (fault.OverWorst task job units (slice_index d.worsts task))) _ (λ h. grind (arith, nat_tests)) tt) (λ _. tt))

rows-shown : (tasks : List Task) (row : ℕ) (d : DemandsView) (rows : List (List (List ℕ)))
    → IsShownStep (demands_from tasks row d rows)
rows-shown tasks row d [] = tt
rows-shown tasks row d (fields ∷ rest) =
    then-shown _ _ (row-shown tasks row fields) (λ r.
    then-shown _ _ (checked-shown d row r.0 r.1 r.2) (λ e. rows-shown tasks (row + 1) e rest))

file-shown : (tasks : List Task) (bytes : List ℕ) → IsShownStep (demand_file tasks bytes)
file-shown tasks bytes = then-shown _ _ (found-shown _ fault.Header tt) (rows-shown tasks 1 (worst_list tasks))

pub demand-shown : (tasks : List Task) (bytes : List ℕ) (e : DemandFault)
    → (e ≢ fault.NoMemory → demand_file tasks bytes ≡ Err e) → IsShown (demand_status e)
demand-shown tasks bytes (fault.OverWorst task job units worst) h =
    subst (λ (r : Result DemandsView DemandFault). IsShownStep r) (h (λ q. cc)) (file-shown tasks bytes)
demand-shown tasks bytes e h = tt
