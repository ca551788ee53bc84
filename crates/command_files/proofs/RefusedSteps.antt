-- A reader's refusal, as the status of the step that loads and reads.
use Rattle.std.proofs.Common.{◌≡◌, ◌≢◌, ℕ, List, Option, Some, None, Result, Ok, Err, refl, sym, subst}
use Rattle.std.specs.Result.{IsErrAnd}
use Rattle.dvs_base.specs.Outside.{Files, ShelfView}
use Rattle.task_model.specs.declared.task.Task.{Task}
use Rattle.task_model.specs.declared.fault.TaskFault.{TaskFault}
use Rattle.task_model.specs.declared.fault.TaskFault.TheVariants as task_fault
use Rattle.task_model.specs.TaskFile.{task_file}
use Rattle.freq_table.specs.declared.fault.MachineFault.{MachineFault}
use Rattle.freq_table.specs.declared.fault.MachineFault.TheVariants as machine_fault
use Rattle.freq_table.specs.MachineFile.{machine_file}
use Rattle.demand_list.specs.declared.fault.DemandFault.{DemandFault}
use Rattle.demand_list.specs.declared.fault.DemandFault.TheVariants as demand_fault
use Rattle.demand_list.specs.DemandFile.{demand_file}
use Rattle.statuses.specs.declared.status.FileKind.{FileKind}
use Rattle.statuses.specs.declared.status.FileKind.TheVariants as file
use Rattle.statuses.specs.declared.status.Status.{Status}
use Rattle.statuses.specs.declared.status.Status.TheVariants as status
use Rattle.command_files.specs.Meanings.{bytes_at, tasks_at, machine_at, demands_at}
use Rattle.statuses.specs.Refused.{IsRefusedAs, task_status, machine_status, demand_status}
use Rattle.statuses.specs.Status.{OfLoad, CountsLoads, IsShown}
use Rattle.command_files.specs.Files.{FailsFrom, MakesLoads}
use Rattle.command_files.specs.Loads.{IsLoadStep, one_file}
use Rattle.statuses.specs.Steps.{Gives, Refuses, EndsWith, IsRefusal}

-- a step that ended with a status
abbrev failed : Status → Result (List Task) Status
failed s = Err s

-- a step that ends with a status gives a refusal
pub ends-refusal : {A : Type 0} (step : Result A Status) (s : Status) → EndsWith step s → IsRefusal s
ends-refusal step status.Done h = absurd h
ends-refusal step (status.Words why) h = absurd h
ends-refusal step status.Write h = absurd h
ends-refusal step s h = tt

pub task-ends : {A : Type 0} (step : Result A Status) (e : TaskFault)
    → (e ≢ task_fault.NoMemory → step ≡ Err (task_status e)) → EndsWith step (task_status e)
task-ends step task_fault.NoMemory h = tt
task-ends step e h = h (λ q. cc)

pub machine-ends : {A : Type 0} (step : Result A Status) (e : MachineFault)
    → (e ≢ machine_fault.NoMemory → step ≡ Err (machine_status e)) → EndsWith step (machine_status e)
machine-ends step machine_fault.NoMemory h = tt
machine-ends step e h = h (λ q. cc)

pub demand-ends : {A : Type 0} (step : Result A Status) (e : DemandFault)
    → (e ≢ demand_fault.NoMemory → step ≡ Err (demand_status e)) → EndsWith step (demand_status e)
demand-ends step demand_fault.NoMemory h = tt
demand-ends step e h = h (λ q. cc)

-- the step that loads and reads a file ends with the refusal of the file: of tasks, of a machine, and of demands
pub tasks-refused : (files : Option Files) (name v : List ℕ) (e : TaskFault) → Gives files (bytes_at file.Tasks name) v
    → (e ≢ task_fault.NoMemory → task_file v ≡ Err e) → Refuses files (tasks_at name) (task_status e)
tasks-refused None name v e gives unless = ends-refusal (failed (task_status e)) (task_status e) (task-ends (failed (task_status e)) e (λ n. refl))
tasks-refused (Some files) name v e gives unless = task-ends (tasks_at name files) e (λ n. rw (gives, unless n) refl)

pub machine-refused : (files : Option Files) (name v : List ℕ) (e : MachineFault)
    → Gives files (bytes_at file.Machine name) v → (e ≢ machine_fault.NoMemory → machine_file v ≡ Err e)
    → Refuses files (machine_at name) (machine_status e)
machine-refused None name v e gives unless = ends-refusal (failed (machine_status e)) (machine_status e)
    (machine-ends (failed (machine_status e)) e (λ n. refl))
machine-refused (Some files) name v e gives unless = machine-ends (machine_at name files) e (λ n. rw (gives, unless n) refl)

pub demands-refused : (files : Option Files) (tasks : List Task) (name v : List ℕ) (e : DemandFault)
    → Gives files (bytes_at file.Demands name) v → (e ≢ demand_fault.NoMemory → demand_file tasks v ≡ Err e)
    → Refuses files (demands_at tasks (Some name)) (demand_status e)
demands-refused None tasks name v e gives unless = ends-refusal (failed (demand_status e)) (demand_status e)
    (demand-ends (failed (demand_status e)) e (λ n. refl))
demands-refused (Some files) tasks name v e gives unless = demand-ends (demands_at tasks (Some name) files) e (λ n. rw (gives, unless n) refl)

-- a refused demand file is no failed load
demand-unloaded : (e : DemandFault) (Holds : FileKind → Type 0) → OfLoad Holds (demand_status e)
demand-unloaded demand_fault.NoMemory Holds = tt
demand-unloaded (demand_fault.OverWorst task job units worst) Holds = tt
demand-unloaded e Holds = tt

demand-counts : (e : DemandFault) (before now : ℕ) → now ≡ before → CountsLoads before now (demand_status e)
demand-counts demand_fault.NoMemory before now same = same
demand-counts (demand_fault.OverWorst task job units worst) before now same = same
demand-counts e before now same = same

module _ {T A : Type 0} (files : Option Files) (kind : FileKind) (name : List ℕ) (means : Files → Result A Status) (old new : ShelfView) (see : T → A)
    (loads : MakesLoads 1 old new) (still : new.faults ≡ old.faults) where
  -- the step that loads one file, reads it and refuses it
  pub file-refused : (r : Result T Status) (own : Status) → IsErrAnd r (IsRefusedAs own) → Refuses files means own
      → IsLoadStep (one_file kind name means) old new r see files
  file-refused (Ok v) own h refuses = absurd h
  file-refused (Err (status.Text why)) own h refuses = record {
    read = tt;
    refused = subst (Refuses files means) (sym h.is) refuses;
    failed = tt;
    loads = loads;
    counts = still;
    shown = h.of_file;
  }
  file-refused (Err status.NoMemory) own h refuses = record {
    read = tt;
    refused = subst (Refuses files means) (sym h.is) refuses;
    failed = tt;
    loads = loads;
    counts = still;
    shown = tt;
  }
  file-refused (Err s) own h refuses = absurd h.of_file

  -- the step that loads the demands, reads them and refuses them
  pub demand-file-refused : (r : Result T Status) (e : DemandFault) → IsErrAnd r (λ s. s ≡ demand_status e)
      → Refuses files means (demand_status e) → IsShown (demand_status e) → IsLoadStep (one_file kind name means) old new r see files
  demand-file-refused (Ok v) e h refuses shown = absurd h
  demand-file-refused (Err s) e h refuses shown = record {
    read = tt;
    refused = subst (Refuses files means) (sym h) refuses;
    failed = subst (OfLoad (FailsFrom (one_file kind name means).passed old new 1 (one_file kind name means).files)) (sym h) (demand-unloaded e _);
    loads = loads;
    counts = subst (CountsLoads old.faults new.faults) (sym h) (demand-counts e old.faults new.faults still);
    shown = subst IsShown (sym h) shown;
  }
