use Rattle.std.proofs.Common.{◌≡◌, ℕ, List, length, ap, sym, ◌∙◌, arith}
use Rattle.std.specs.Prelude.{map}
use Rattle.std.proofs.lemmas.List.{length-map}
use Rattle.sched_model.specs.Plan.{Plan}
use Rattle.sched_model.specs.States.{StateView, row_wleft, after_mark}
use Rattle.agenda.specs.declared.agenda.Agenda.{Agenda}
use Rattle.agenda.specs.Stands.{Stands}
use Rattle.agenda.proofs.StateQueues.{stands-rows}
use Rattle.agenda.proofs.agenda.Agenda.mark.Goals as goal

-- the bases that are copied
copied : (p : Plan) (s v : StateView) (a : Agenda) → Stands p s a → v ≡ s → a.left.items ≡ map row_wleft v.rows
copied p s v a h is = h.left ∙ ap (λ (u : StateView). map row_wleft u.rows) (sym is)

pub copy_from_slice-requires : goal.copy_from_slice-requires
copy_from_slice-requires c =
    let s = c.state.inside in
    let all = c.deref.ensures.value ∙ copied _ _ _ c.args.self.now c.requires c.state.view_is in
    omega (arith, s.base.ok.0, c.state.invariant.base, ap (λ (xs : List ℕ). length xs) all, length-map s.rows.items row_wleft)

pub invariant_of-state : goal.invariant_of-state
invariant_of-state c =
    let all = c.copy_from_slice.ensures.items ∙ (c.deref.ensures.value ∙ copied _ _ _ c.args.self.now c.requires c.state.view_is) in
    record {
      base = ap (λ (xs : List ℕ). length xs) all ∙ length-map c.state.inside.rows.items row_wleft;
      used = c.state.invariant.used;
    }

pub returns-clause-marked : goal.returns-clause-marked
returns-clause-marked c =
    rw (c.copy_from_slice.ensures.items, c.deref.ensures.value, copied _ _ _ c.args.self.now c.requires c.state.view_is)
    (ap after_mark c.state.view_is)

pub returns-clause-stand : goal.returns-clause-stand
returns-clause-stand c =
    stands-rows c.args._plan.now c.args.state.now _ c.args.self.now (ap (λ (v : StateView). v.rows) (returns-clause-marked c)) c.requires
