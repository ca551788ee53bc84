-- The put of what was prepared, from how its lines were written.
use Rattle.std.proofs.Common.{◌≡◌, ℕ, true, false, List, Result, Ok, Err, sym, subst}
use Rattle.std.specs.Prelude.{Vec}
use Rattle.dvs_base.specs.Outside.{SinkView}
use Rattle.dvs_base.specs.WritesText.{WritesText}
use Rattle.dvs_base.specs.declared.kind.GovernorKind.{GovernorKind}
use Rattle.event_kernel.specs.Runs.{run_for}
use Rattle.probes.specs.Tallies.{ProbeView}
use Rattle.probes.specs.Outputs.{outputs_of}
use Rattle.rtdvs_top.specs.declared.prepared.ReadyRun.{ReadyRun}
use Rattle.rtdvs_top.specs.declared.prepared.Prepared.{Prepared}
use Rattle.rtdvs_top.specs.declared.prepared.Prepared.TheVariants as prepared
use Rattle.rtdvs_top.specs.ToldRuns.{TellsRun}
use Rattle.rtdvs_top.specs.Prepared.{Ends, IsPutStep, PutTells, answer_of, answer_of_run, status_of_writing, tells_probes}

module _ {W P A T E : Type 0} (shows : W → SinkView) (seen : P → ProbeView) (old new : W × Vec P A) where
  -- a run under a governor of its kind, whose lines were written, or those before one that was written in part
  module _ (w : ReadyRun) (kind : GovernorKind) (own : w.governor ≡ kind) where
    abbrev Ended : Result T E → Type 0
    Ended r = Ends (shows old.0) (shows new.0) (answer_of_run w.version kind (run_for w.plan w.demands w.ticks)) (status_of_writing r)

    abbrev Told : Result T E → Type 0
    Told r = TellsRun w.version kind (run_for w.plan w.demands w.ticks) (outputs_of shows seen old.0 old.1)
        (outputs_of shows seen new.0 new.1) (status_of_writing r)

    abbrev Put : GovernorKind → Result T E → Type 0
    Put k r = IsPutStep shows seen old new (prepared.Trace (record w { governor = k })) (status_of_writing r)

    under-own : (r : Result T E) → Put kind r → Put w.governor r
    under-own r h = subst (λ (k : GovernorKind). Put k r) (sym own) h

    -- the probes were told its notes
    pub put-told : (r : Result T E) → w.probes ≡ true → Ended r → Told r → Put w.governor r
    put-told (Ok v) asks ended told =
        under-own (Ok v) (record { ended = ended; ends = tt; leaves = tt; kept = rw asks tt; told = rw asks told; shown = tt })
    put-told (Err e) asks ended told =
        under-own (Err e) (record { ended = ended; ends = tt; leaves = tt; kept = rw asks tt; told = rw asks told; shown = tt })

    -- the probes were left as they were
    pub put-untold : (r : Result T E) → w.probes ≡ false → Ended r → new.1 ≡ old.1 → Put w.governor r
    put-untold (Ok v) asks ended left =
        under-own (Ok v) (record { ended = ended; ends = tt; leaves = tt; kept = rw asks left; told = rw asks tt; shown = tt })
    put-untold (Err e) asks ended left =
        under-own (Err e) (record { ended = ended; ends = tt; leaves = tt; kept = rw asks left; told = rw asks tt; shown = tt })

  -- a text that was written, or a first part of it, without a word to probes
  pub put-text : (p : Prepared) (text : List ℕ) (r : Result T E) → answer_of p ≡ Ok text → tells_probes p ≡ false
      → PutTells p (outputs_of shows seen old.0 old.1) (outputs_of shows seen new.0 new.1) (status_of_writing r) → new.1 ≡ old.1
      → WritesText (shows old.0) (shows new.0) text r → IsPutStep shows seen old new p (status_of_writing r)
  put-text p text (Ok v) is quiet told left wrote =
      record { ended = (text, is, wrote); ends = tt; leaves = tt; kept = rw quiet left; told = told; shown = tt }
  put-text p text (Err e) is quiet told left wrote =
      record { ended = (text, is, wrote); ends = tt; leaves = tt; kept = rw quiet left; told = told; shown = tt }
