-- What was prepared and then put answers its command, and so does what was refused before.
use Rattle.std.proofs.Common.{◌≡◌, ◌≤◌, ◌∙◌, arith, ℕ, Bool, true, false, List, Option, Some, None, Result, Ok, Err, refl, sym, subst}
use Rattle.dvs_base.specs.Outside.{Files, ShelfView, SinkView}
use Rattle.task_model.specs.declared.task.Task.{Task}
use Rattle.probes.specs.Tallies.{ProbeView}
use Rattle.probes.specs.Outputs.{Outputs, outputs_of}
use Rattle.std.specs.Prelude.{Vec}
use Rattle.words.specs.Commands.{CommandView, tasks_name, run}
use Rattle.rtdvs_top.specs.Asked.{asked_with}
use Rattle.rtdvs_top.specs.Promises.{LoadFailed, TellsProbes, answer_of_command}
use Rattle.statuses.specs.Steps.{IsRefusal, Refuses}
use Rattle.command_files.specs.Files.{MakesLoads, loads_needed}
use Rattle.command_files.specs.GivenFiles.{ForFiles, Known}
use Rattle.command_files.proofs.GivenLoads.{both-made, more-made, known-first, known-later}
use Rattle.command_files.specs.Loads.{tasks_loads, loads_after}
use Rattle.statuses.specs.Status.{CountsLoads, LeavesProbes}
use Rattle.rtdvs_top.specs.Prepared.{Ends, EndsAs, PutEnds, HasTaskNames, HasAnswer, IsPutStep, IsPrepareStep, IsTasksStep, IsRefused, IsPrepared, CallView, views_of, IsAnswered, ProvesDone, answer_of, ForFilesWith, AreTasksAt}
use Rattle.rtdvs_top.proofs.TasksFirst.{needed-loads, later-failed}
use Rattle.rtdvs_top.specs.declared.prepared.Prepared.{Prepared}
use Rattle.statuses.specs.declared.status.Status.{Status}
use Rattle.statuses.specs.declared.status.Status.TheVariants as status
use Rattle.command_files.proofs.RefusedSteps.{ends-refusal}

-- the put of an answer ends as a command with this answer does
put-ends : (files : Option Files) (c : CommandView) (old new : SinkView) (answer : Result (List ℕ) Status) (s : Status)
    → HasAnswer files c answer → Ends old new answer s → EndsAs old new files (answer_of_command c) s
put-ends None c old new answer status.Done h ends = (ends.0, tt, ends.2)
put-ends None c old new answer status.Write h ends = (ends.0, tt, ends.2)
put-ends None c old new answer (status.Words why) h ends = absurd ends
put-ends None c old new answer s h ends = tt
put-ends (Some files) c old new answer s h ends =
    same-ends s (subst (λ (a : Result (List ℕ) Status). Ends old new a s) (sym h) ends)
  where
    same-ends : (s : Status) → Ends old new (answer_of_command c files) s → EndsAs old new (Some files) (answer_of_command c) s
    same-ends status.Done e = e
    same-ends status.Write e = e
    same-ends s e = e

-- what holds of the statuses that a put can end with
put-cases : (answer : Result (List ℕ) Status) (s : Status) (P : Status → Type 0) → PutEnds answer s
    → P status.Done → P status.Write → P status.NoMemory → ((jobs : ℕ) → P (status.Limit jobs)) → P s
put-cases answer status.Done P put done write memory limit = done
put-cases answer status.Write P put done write memory limit = write
put-cases answer status.NoMemory P put done write memory limit = memory
put-cases answer (status.Limit jobs) P put done write memory limit = limit jobs
put-cases answer s P put done write memory limit = absurd put

-- none of them names a task
put-named : (files : Option Files) (c : CommandView) (tasks : Option (List Task)) (answer : Result (List ℕ) Status) (s : Status)
    → PutEnds answer s → HasTaskNames files c tasks status.Done → HasTaskNames files c tasks s
put-named None c tasks answer s put named = tt
put-named (Some files) c tasks answer s put named =
    put-cases answer s (HasTaskNames (Some files) c tasks) put named refl refl (λ jobs. refl)

-- a command that was refused ends so
refusal-of : (files : Option Files) (step : Files → Result (List ℕ) Status) (s : Status) → Refuses files step s → IsRefusal s
refusal-of None step s refuses = refuses
refusal-of (Some files) step s refuses = ends-refusal (step files) s refuses

refused-ends : (files : Option Files) (old new : SinkView) (step : Files → Result (List ℕ) Status) (s : Status)
    → IsRefusal s → Refuses files step s → EndsAs old new files step s
refused-ends files old new step status.Done refusal refuses = absurd refusal
refused-ends files old new step status.Write refusal refuses = absurd refusal
refused-ends files old new step s refusal refuses = refuses

refused-met : (files : Option Files) (c : CommandView) (s : Status) → IsRefusal s → ProvesDone files c s
refused-met files c status.Done refusal = absurd refusal
refused-met files c status.Write refusal = absurd refusal
refused-met files c s refusal = tt

refused-told : (files : Option Files) (c : CommandView) (old new : Outputs) (s : Status) → IsRefusal s
    → TellsProbes (asked_with files c) old new s
refused-told None (run r) old new status.Done refusal = absurd refusal
refused-told None (run r) old new status.Write refusal = absurd refusal
refused-told None c old new s refusal = tt
refused-told (Some files) (run r) old new status.Done refusal = absurd refusal
refused-told (Some files) (run r) old new status.Write refusal = absurd refusal
refused-told (Some files) c old new s refusal = tt

-- what was refused before anything was put answers the command
refused-answered : (files : Option Files) (old new : CallView) (c : CommandView) (tasks : Option (List Task)) (s : Status)
    → IsRefused files c tasks s → LoadFailed files old.shelf new.shelf (Ok c) s
    → MakesLoads (loads_needed files c) old.shelf new.shelf → CountsLoads old.shelf.faults new.shelf.faults s
    → IsAnswered c old new s tasks files
refused-answered files old new c tasks s refused failed loads counts =
    let refusal = refusal-of files (answer_of_command c) s refused.ended in
    record {
      ended = refused-ends files old.outputs.sink new.outputs.sink (answer_of_command c) s refusal refused.ended;
      met = refused-met files c s refusal;
      tested = refused.tested;
      named = refused.named;
      failed = failed;
      loads = loads;
      counts = counts;
      told = refused-told files c old.outputs new.outputs s refusal;
      shown = refused.shown;
    }

-- so does a refusal of its tasks
pub tasks-answered : (old new : CallView) (c : CommandView) (s : Status) → ForFiles old.shelf new.shelf (IsTasksStep old.shelf new.shelf c (Err s))
    → ForFiles old.shelf new.shelf (IsAnswered c old new s None)
tasks-answered old new c s step files known =
    let first = step files known in
    let few : tasks_loads (tasks_name c) ≤ loads_needed files c = omega (arith, needed-loads files c) in
    refused-answered files old new c None s first.refused first.failed (more-made old.shelf new.shelf few first.loads) first.counts

-- what is prepared for a command whose tasks were read
module _ (c : CommandView) (old mid new : ShelfView) (tasks : Option (List Task)) (first : ForFiles old mid (IsTasksStep old mid c (Ok tasks))) where
  abbrev made : MakesLoads (tasks_loads (tasks_name c)) old mid
  made = (first None tt).loads

  abbrev still : mid.faults ≡ old.faults
  still = (first None tt).counts

  all-loads : (files : Option Files) → MakesLoads (loads_after files c) mid new → MakesLoads (loads_needed files c) old new
  all-loads files later = more-made old new (omega (arith, needed-loads files c)) (both-made old mid new made later)

  -- what holds of what is prepared, over files that the shelf may hold
  abbrev Prepares : Result Prepared Status → Type 0
  Prepares r = ForFilesWith mid new (λ files. AreTasksAt files (tasks_name c) tasks) (IsPrepareStep mid new c tasks r)

  step-of : (r : Result Prepared Status) → Prepares r → (files : Option Files) → Known files old new → IsPrepareStep mid new c tasks r files
  step-of r steps files known =
      let later = (steps None tt (first None tt).read).loads in
      steps files (known-later _ _ old mid new made.held made.gave later.gave files known)
      (first files (known-first _ _ old mid new made.held made.gave later.gave files known)).read

  -- what is known of it without files
  pub prepared-any : (p : Prepared) → Prepares (Ok p) → IsPrepared None c tasks p
  prepared-any p steps = (steps None tt (first None tt).read).prepared

  -- it is refused
  pub prepare-answered : (before after : Outputs) (s : Status) → Prepares (Err s)
      → ForFiles old new (IsAnswered c (views_of old before) (views_of new after) s tasks)
  prepare-answered before after s steps files known =
      let step = step-of (Err s) steps files known in
      refused-answered files (views_of old before) (views_of new after) c tasks s step.refused
      (later-failed files c old mid new s made still step.failed) (all-loads files step.loads)
      (subst (λ (n : ℕ). CountsLoads n new.faults s) still step.counts)

  -- it was put
  pub put-answered : {W P A : Type 0} (shows : W → SinkView) (seen : P → ProbeView) {before after : W × Vec P A}
      (p : Prepared) (s : Status) → Prepares (Ok p) → IsPutStep shows seen before after p s
      → ForFiles old new (IsAnswered c (views_of old (outputs_of shows seen before.0 before.1)) (views_of new (outputs_of shows seen after.0 after.1)) s tasks)
  put-answered shows seen {before} {after} p s steps put files known =
      let step = step-of (Ok p) steps files known in
      let prepared : IsPrepared files c tasks p = step.prepared in
      let steady : new.faults ≡ old.faults = step.counts ∙ still in
      let ends = put.ends in
      record {
        ended = put-ends files c (shows before.0) (shows after.0) (answer_of p) s prepared.answer put.ended;
        met = put-cases (answer_of p) s (ProvesDone files c) ends prepared.met prepared.met tt (λ jobs. tt);
        tested = prepared.tested s ends;
        named = put-named files c tasks (answer_of p) s ends prepared.named;
        failed = put-cases (answer_of p) s (LoadFailed files old new (Ok c)) ends tt tt tt (λ jobs. tt);
        loads = all-loads files step.loads;
        counts = put-cases (answer_of p) s (CountsLoads old.faults new.faults) ends steady steady steady (λ jobs. steady);
        told = prepared.told (outputs_of shows seen before.0 before.1) (outputs_of shows seen after.0 after.1) s put.told;
        shown = put.shown;
      }

-- what is as it was is left so
pub left : {V : Type 0} (asks : Bool) (s : Status) (v : V) → LeavesProbes asks s v v
left false s v = refl
left true status.Done v = tt
left true status.Write v = tt
left true s v = refl
