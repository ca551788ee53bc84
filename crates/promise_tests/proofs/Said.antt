-- What users say, each from one promise.
use Rattle.std.proofs.Common.{◌≡◌, ℕ, ◌+◌, inl, inr, Bool, List, [], ◌∷◌, length, length-append, Option, Some, Result, Ok, sym, ap, ◌∙◌, subst, arith}
use Rattle.dvs_base.specs.Outside.{Files, ShelfView, Rose, Lacks}
use Rattle.words.specs.Commands.{CommandView, TracedView, run, admit, traced, response, poll, least}
use Rattle.words.specs.declared.command.WordFault.{WordFault}
use Rattle.statuses.specs.declared.status.FileKind.{FileKind}
use Rattle.statuses.specs.declared.status.Status.{Status}
use Rattle.sched_model.specs.Plan.{Plan}
use Rattle.demand_list.specs.Demands.{DemandsView}
use Rattle.probes.specs.Tallies.{told_notes}
use Rattle.command_files.specs.Files.{NamedFile, FailsFrom, files_of, passes}
use Rattle.rtdvs_top.specs.PlannedRuns.{prepared_of}
use Rattle.rtdvs_top.specs.Asked.{Asked, asked_of, with_files}
use Rattle.rtdvs_top.specs.Promised.{Outside, Promised, outputs}
use Rattle.rtdvs_top.specs.Promises.{Answers, AdmitsByTest, IsDoneOrDenied, IsSureOf, LoadFailed, ProvesLeast, ProvesPoll, ProvesRun, ProvesTests, PutsNotes, TellsProbes, Writes, WritesPart}
use Rattle.rtdvs_top.specs.ToldRuns.{IfAsked, notes_under}
use Rattle.rtdvs_top.specs.Trace.{AcceptsScheduleTexts}
use Rattle.promise_tests.specs.Said.{Stayed, IsDeniedByAnswer, LacksOne, LacksItsFile, HasWhole, HasBeginning, HasRoom, IsDecided, MissesNone, FailsItsTest, FailsAtLower, IsScheduled, NeverDiffers, HasResponses, ServesRequests, CostsLeast, HasNotes, CountsNotes, LoadsFew, Says}
use Rattle.event_kernel.specs.Runs.{run_for}

-- a count that stayed didn't rise
not-rose : (before now : ℕ) → Stayed before now → Rose before now → ⊥
not-rose before now stayed rose = omega (arith, stayed.same, stayed.low, rose)

-- of the loads from a place on, the one that failed lacks its file
lacks-one : (files : Files) (passed : NamedFile → Bool) (old new : ShelfView) (place : ℕ) (fs : List NamedFile) (kind : FileKind)
    → old.held ≡ Some files → Stayed old.faults new.faults → FailsFrom passed old new place fs kind → LacksOne files kind fs
lacks-one files passed old new place [] kind held stayed fails = fails
lacks-one files passed old new place (f ∷ fs) kind held stayed fails =
    elim fails [
      | inl here ↦
          elim here.1 [
            | inl lacks ↦ inl (here.0, subst (λ (h : Option Files). Lacks h f.name) held lacks.0)
            | inr rose ↦ absurd (not-rose old.faults new.faults stayed rose.0)
          ]
      | inr later ↦ inr (lacks-one files passed old new (place + 1) fs kind held stayed later.1)
    ]

module _ (command : Result CommandView WordFault) (files : Files) (old new : Outside) (s : Status)
    (p : Promised command old new s (Some files)) where
  -- what holds of the words holds of the command that they are
  of-command : (P : Asked → Type 0) (c : CommandView) → command ≡ Ok c → P (asked_of (Some files) command) → P (with_files files c)
  of-command P c is h = subst (λ (x : Result CommandView WordFault). P (asked_of (Some files) x)) is h

  pub denied-by-answer : IsDeniedByAnswer command files old new s
  denied-by-answer c why is denied =
      let rose = Rose old.shelf.faults new.shelf.faults in
      let put = Rose old.out.faults new.out.faults in
      subst (λ (t : Status). Answers (with_files files c) rose put t) denied (of-command (λ a. Answers a rose put s) c is p.answers)

  pub lacks-its-file : LacksItsFile command files old new s
  lacks-its-file c kind is load held stayed =
      lacks-one files (passes (Some files) c) old.shelf new.shelf 1 (files_of c) kind held stayed
      (subst (λ (t : Status). LoadFailed (Some files) old.shelf new.shelf (Ok c) t) load
      (subst (λ (x : Result CommandView WordFault). LoadFailed (Some files) old.shelf new.shelf x s) is p.load))

  pub has-whole : HasWhole command files old new s
  has-whole c is done =
      let w = of-command (λ a. Writes a old.out new.out) c is (p.done done) in
      (w.0, w.1, w.2.bytes.1)

  pub has-beginning : HasBeginning command files old new s
  has-beginning c is failed =
      let w = of-command (λ a. WritesPart a old.out new.out) c is (p.part failed) in
      (w.0, w.1, w.2.unsure, w.2.part.0, w.2.part.1, w.2.part.2.1)

  pub has-room : HasRoom command files old new s
  has-room c text is answer room =
      p.sure (subst (λ (x : Result CommandView WordFault). IsSureOf (asked_of (Some files) x) old.out) (sym is)
      (λ other same. let e : Ok other ≡ Ok text = sym same ∙ answer in let l : length other ≡ length text = cc in omega (arith, l, room)))

  pub is-decided : IsDecided command files old new s
  is-decided r tasks machine demands is means few loads puts memory =
      elim (of-command (λ a. IsDoneOrDenied a (Rose old.shelf.faults new.shelf.faults) old.out new.out s) (run r) is p.headline
      tasks machine demands means few (not-rose old.shelf.faults new.shelf.faults loads) (not-rose old.out.faults new.out.faults puts) memory) [
        | inl done ↦ inl done.0
        | inr denied ↦ inr (denied.0, denied.1)
      ]

  pub misses-none : MissesNone command files old new s
  misses-none r is done =
      let w = subst (λ (t : Status). ProvesRun (with_files files (run r)) old.out new.out t) done
      (of-command (λ a. ProvesRun a old.out new.out s) (run r) is p.run) in
      (w.0, w.1, w.2, w.3, w.5.run.deadlines)

  pub fails-its-test : FailsItsTest command files old new s
  fails-its-test r why is denied =
      let a = subst (λ (t : Status). AdmitsByTest (with_files files (run r)) t) denied
      (of-command (λ a. AdmitsByTest a s) (run r) is p.admitted) in
      (a.0, a.1, a.2.fails)

  pub fails-at-lower : FailsAtLower command files old new s
  fails-at-lower a is done =
      let h = subst (λ (t : Status). AdmitsByTest (with_files files (admit a)) t) done
      (of-command (λ x. AdmitsByTest x s) (admit a) is p.admitted) in
      (h.0, h.1, h.2.1.fails)

  -- which trace files are taken
  exact : (r : TracedView) → command ≡ Ok (traced r)
      → AcceptsScheduleTexts (with_files files (traced r)) (Rose old.shelf.faults new.shelf.faults) (Rose old.out.faults new.out.faults) s
  exact r is =
      of-command (λ a. AcceptsScheduleTexts a (Rose old.shelf.faults new.shelf.faults) (Rose old.out.faults new.out.faults) s)
      (traced r) is p.exact

  pub is-scheduled : IsScheduled command files old new s
  is-scheduled r is done =
      let own = (exact r is).0 done in
      let plan = own.0 in
      let t = own.1 in
      (t.version, plan, t.plan.governor, t.plan.ticks, _, _, own.2.files_are, own.2.schedule)

  pub never-differs : NeverDiffers command files old new s
  never-differs r v plan g ticks rows bytes is are scheduled line wanted found differs =
      let e = subst (λ (t : Status). AcceptsScheduleTexts (with_files files (traced r)) (Rose old.shelf.faults new.shelf.faults)
      (Rose old.out.faults new.out.faults) t) differs (exact r is) in
      e.1 v plan g ticks rows bytes are scheduled

  pub has-responses : HasResponses command files old new s
  has-responses r is done =
      subst (λ (t : Status). ProvesTests (with_files files (response r)) t) done (of-command (λ a. ProvesTests a s) (response r) is p.tested)

  pub serves-requests : ServesRequests command files old new s
  serves-requests q is done =
      subst (λ (t : Status). ProvesPoll (with_files files (poll q)) t) done (of-command (λ a. ProvesPoll a s) (poll q) is p.polled)

  pub costs-least : CostsLeast command files old new s
  costs-least l is done =
      let w = subst (λ (t : Status). ProvesLeast (with_files files (least l)) old.out new.out t) done
      (of-command (λ a. ProvesLeast a old.out new.out s) (least l) is p.least) in
      (w.0, w.1, w.2, w.3.least)

  pub has-notes : HasNotes command files old new s
  has-notes c is stayed =
      elim (of-command (λ a. PutsNotes a new.probes s old.notes new.notes) c is p.notes) [
        | inl whole ↦ whole.bytes.1
        | inr some ↦ absurd (not-rose old.notes.faults new.notes.faults stayed some.rose)
      ]

  pub counts-notes : CountsNotes command files old new s
  counts-notes r is asks done =
      let t = subst (λ (t : Status). TellsProbes (with_files files (run r)) (outputs old) (outputs new) t) done
      (of-command (λ a. TellsProbes a (outputs old) (outputs new) s) (run r) is p.told) in
      let h = subst (λ (b : Bool). IfAsked b ((plan : Plan) × (d : DemandsView) × (prepared_of r t.0 files ≡ Ok (plan, d))
      × (new.probes ≡ told_notes (notes_under r.governor (run_for plan d r.ticks)) old.probes))) asks t.2 in
      (t.0, h.0, h.1, t.1, h.2, h.3)

  pub loads-few : LoadsFew command files old new s
  loads-few = record {
    files_stay = p.shelf.held;
    few = let g = p.shelf.gave in omega (arith, ap length g.2, length-append old.shelf.gave g.0, g.1);
    exactly_sure = λ sure. p.shelf.steady (omega (arith, sure));
  }

  pub says : Says command files old new s
  says = record {
    answers = denied-by-answer;
    load = lacks-its-file;
    done = has-whole;
    part = has-beginning;
    headline = is-decided;
    run = misses-none;
    admitted = fails-its-test;
    admitted_low = fails-at-lower;
    exact = is-scheduled;
    exact_back = never-differs;
    tested = has-responses;
    polled = serves-requests;
    least = costs-least;
    notes = has-notes;
    told = counts-notes;
    shelf = loads-few;
    sure = has-room;
  }
