use Rattle.std.proofs.Common.{subst}
use Rattle.std.specs.Prelude.{Result}
use Rattle.dvs_base.specs.Checks.{IsUnlessMemory}
use Rattle.dvs_base.specs.declared.note.Totals.{Totals}
use Rattle.governor.specs.Schedule.{ask_of}
use Rattle.replay_laws.proofs.SameLists.{own-lists}
use Rattle.replay.specs.declared.fault.ReplayFault.{ReplayFault}
use Rattle.replay.specs.declared.fault.ReplayFault.TheVariants as fault
use Rattle.replay.proofs.Exact.{ok-replayed, some-replayed, err-shown, err-differs}
use Rattle.replay.proofs.SameTexts.{same-text-by, same-text}
use Rattle.replay.proofs.check.replay.Goals as goal

pub returns-clause-own_list : goal.returns-clause-own_list
returns-clause-own_list g c =
    let p = c.args.plan.now in
    let m = g.G.Governor.demand in
    ok-replayed p c.scheduler-admitted.ensures.admitted.limits (ask_of m p) c.args.trace.now
    c.requires.ended ((own-lists p c.scheduler-admitted.ensures.admitted.limits).own m) c.check.result c.check.ensures

pub returns-clause-some_list : goal.returns-clause-some_list
returns-clause-some_list g c rows h few =
    let p = c.args.plan.now in
    let m = g.G.Governor.demand in
    subst (λ (r : Result Totals ReplayFault). IsUnlessMemory fault.NoMemory (λ (totals : Totals). totals) c.check.result r)
    (some-replayed p c.scheduler-admitted.ensures.admitted.limits (ask_of m p) c.args.trace.now
    c.requires.ended ((own-lists p c.scheduler-admitted.ensures.admitted.limits).own m) rows h few)
    c.check.ensures

pub returns-clause-differs : goal.returns-clause-differs
returns-clause-differs g c =
    let p = c.args.plan.now in
    let m = g.G.Governor.demand in
    err-differs p c.scheduler-admitted.ensures.admitted.limits (ask_of m p) c.args.trace.now
    c.requires.ended c.check.result c.check.ensures

pub returns-clause-shown : goal.returns-clause-shown
returns-clause-shown g c =
    let p = c.args.plan.now in
    err-shown p c.scheduler-admitted.ensures.admitted.limits (ask_of g.G.Governor.demand p) c.args.trace.now
    c.requires.ended c.check.result c.check.ensures

pub returns-clause-same_notes : goal.returns-clause-same_notes
returns-clause-same_notes g c =
    (own-lists c.args.plan.now c.scheduler-admitted.ensures.admitted.limits).same g.G.Governor.demand

pub returns-clause-same_text : goal.returns-clause-same_text
returns-clause-same_text g c =
    let p = c.args.plan.now in
    let lim = c.scheduler-admitted.ensures.admitted.limits in
    same-text-by p lim.tasks (ask_of g.G.Governor.demand p) ((own-lists p lim).same g.G.Governor.demand) g.G.Governor.the_kind

pub returns-clause-same_published : goal.returns-clause-same_published
returns-clause-same_published g c =
    let p = c.args.plan.now in
    let adm = c.scheduler-admitted.ensures.admitted in
    same-text p adm (own-lists p adm.limits).published_same
