use Rattle.std.proofs.Common.{◌-◌, List, sym, subst, arith}
use Rattle.std.specs.Prelude.{remove}
use Rattle.rm_response.specs.declared.inputs.Load.{Load}
use Rattle.rm_response.specs.declared.relaxed.Relaxed.{Relaxed}
use Rattle.rm_response.specs.Fits.{AreNodes}
use Rattle.rm_response.proofs.RelaxedNodes.{nodes-removed}
use Rattle.rm_response.proofs.earlier.Earlier.take_out.Goals as goal

pub returns-clause-nodes : goal.returns-clause-nodes
returns-clause-nodes c = λ s are.
    let xs = c.args.self.now.loads.items in
    let rs = c.args.self.now.nodes.items in
    let k = c.args.place in
    let n = c.len.result - k in
    let left = nodes-removed s xs rs k n (omega arith) (omega arith) are in
    subst (λ (zs : List Load). AreNodes s zs c.truncate.new.self.items) (sym c.remove.ensures.items)
    (subst (λ (qs : List Relaxed). AreNodes s (remove xs k) qs) (sym c.truncate.ensures.items) left)
