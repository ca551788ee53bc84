use Rattle.std.proofs.Common.{Bool, subst}
use Rattle.statuses.specs.Status.{LeavesProbes}
use Rattle.rtdvs_top.specs.Prepared.{status_of_put}
use Rattle.rtdvs_top.proofs.MetByPair.{prepare-answered, put-answered, prepared-any}
use Rattle.rtdvs_top.proofs.answer.answer_command.Goals as goal

pub returns-in-Ok-prepare-clause-answered : goal.returns-in-Ok-prepare-clause-answered
returns-in-Ok-prepare-clause-answered g c =
    rw c.status_of_put.ensures
    (put-answered _ _ _ _ _ c.in-Ok.ensures g.W.Sink.shows g.P.Probe.seen _ _ (rw c.as_ref.ensures.value at c.in-Ok-prepare.ensures)
    c.put.ensures)

pub returns-in-Err-prepare-clause-answered : goal.returns-in-Err-prepare-clause-answered
returns-in-Err-prepare-clause-answered g c =
    prepare-answered _ _ _ _ _ c.in-Ok.ensures _ _ _ (rw c.as_ref.ensures.value at c.in-Err-prepare.ensures)

pub put-requires : goal.put-requires
put-requires g c =
    (prepared-any _ _ _ _ _ c.in-Ok.ensures _ (rw c.as_ref.ensures.value at c.in-Ok-prepare.ensures)).puttable

pub returns-in-Ok-prepare-clause-kept : goal.returns-in-Ok-prepare-clause-kept
returns-in-Ok-prepare-clause-kept g c =
    let prepared = prepared-any _ _ _ _ _ c.in-Ok.ensures _ (rw c.as_ref.ensures.value at c.in-Ok-prepare.ensures) in
    rw c.status_of_put.ensures
    (subst (λ (b : Bool). LeavesProbes b (status_of_put c.put.result) c.args.probes.now c.put.new.probes) prepared.tells c.put.ensures.kept)
