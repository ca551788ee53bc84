use Rattle.std.proofs.Common.{◌≡◌, ◌-◌, ℕ, List, length, drop, sym, subst, arith}
use Rattle.std.proofs.lemmas.List.{take_all, length-drop}
use Rattle.rm_response.specs.declared.inputs.Load.{Load}
use Rattle.rm_response.specs.declared.relaxed.Relaxed.{Relaxed}
use Rattle.rm_response.specs.Fits.{IsNode, AreNodes}
use Rattle.rm_response.proofs.RelaxedNodes.{nodes-more}
use Rattle.rm_response.proofs.earlier.Earlier.make_nodes.Goals as goal

pub loop-supply-preserved : goal.loop-supply-preserved
loop-supply-preserved c =
    let s = c.args.supply in
    let at = c.loop-supply.invariant in
    let xs = c.loop-supply.self.loads.items in
    let rs = c.loop-supply.self.nodes.items in
    let r = c.node_of-node.result in
    let k = c.len-in-loop-supply-3.result - c.len-in-loop-supply-4.result in
    let long : c.len-in-loop-supply-3.result ≡ length xs =
    (let ok = c.loop-supply.self.loads.ok in omega (arith, c.len-in-loop-supply-3.ensures)) in
    let many : c.len-in-loop-supply-4.result ≡ length rs =
    (let ok = c.loop-supply.self.nodes.ok in omega (arith, c.len-in-loop-supply-4.ensures)) in
    let ys = c.deref.result.now in
    let end : IsNode s (drop k ys) r =
    subst (λ (zs : List Load). IsNode s zs r) (take_all (length ys - k) (drop k ys) (omega (arith, length-drop k ys))) c.node_of-node.ensures in
    let node : IsNode s (drop k xs) r = subst (λ (zs : List Load). IsNode s (drop k zs) r) c.deref.ensures.value end in
    let more = nodes-more s xs rs r (λ m is. subst (λ (n : ℕ). IsNode s (drop n xs) r) (omega (arith, long, many, is)) node) at.1 in
    (at.0, subst (λ (qs : List Relaxed). AreNodes s xs qs) (sym c.in_ok-push.ensures.items) more)
