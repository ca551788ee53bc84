use Rattle.std.proofs.Common.{◌≡◌, ◌≤◌, ◌<◌, refl, List, length, take, ap, sym, ◌∙◌, subst, arith}
use Rattle.std.specs.Prelude.{slice_index_or}
use Rattle.std.proofs.lemmas.List.{length-take-le}
use Rattle.rm_response.specs.declared.inputs.Load.{Load}
use Rattle.rm_response.specs.declared.inputs.Supply.{Supply}
use Rattle.rm_response.specs.declared.relaxed.Relaxed.{Relaxed}
use Rattle.rm_response.specs.Fits.{IsRelaxed, IsRelaxedSearch, AreNodes}
use Rattle.rm_response.proofs.Searches.{relaxed-searched}
use Rattle.rm_response.proofs.RelaxedNodes.{node-at}
use Rattle.rm_response.proofs.search.relaxed_search.Goals as goal

-- the node at the number of the loads is for a relaxed search
node : (s : Supply) (xs : List Load) (rs : List Relaxed) (r : Relaxed) → 1 ≤ length xs → AreNodes s xs rs
    → length xs < length rs → r ≡ slice_index_or rs (length xs) r → (r.count ≡ 0 → ⊥) → IsRelaxedSearch s xs r
node s xs rs r some are below at not = node-at s xs rs r some below at are (omega (arith, not))

pub of-requires : goal.of-requires
of-requires c =
    let at = c.in_ok-node.ensures.lookup in
    let is = node c.args.whole c.args.left.loads.now c.args.left.nodes.now c.in_ok-node.node.now c.requires.some c.requires.nodes
    at.3.0 at.1 c.if-node-eq0.false in
    omega (arith, is.whole.few, ap (length {A = Load}) c.heavy.ensures.loads)

pub invariant_of-search : goal.invariant_of-search
invariant_of-search c =
    let at = c.in_ok-node.ensures.lookup in
    let is = node c.args.whole c.args.left.loads.now c.args.left.nodes.now c.in_ok-node.node.now c.requires.some c.requires.nodes
    at.3.0 at.1 c.if-node-eq0.false in
    record { same_hyper = is.same_hyper; less = is.relaxed.lower_units }

pub returns : goal.returns
returns c =
    let s = c.args.whole in
    let xs = c.args.left.loads.now in
    let r = c.in_ok-node.node.now in
    let at = c.in_ok-node.ensures.lookup in
    let is = node s xs c.args.left.nodes.now r c.requires.some c.requires.nodes at.3.0 at.1 c.if-node-eq0.false in
    let same : c.of.result.loads.now ≡ take r.count r.loads = c.of.ensures.loads ∙ c.heavy.ensures.loads in
    record {
      fewer = omega (arith, ap (length {A = Load}) same, length-take-le r.count r.loads r.within, is.fewer);
      whole = refl;
      searched = relaxed-searched _ s (take r.count r.loads) c.of.result.loads.now same refl is.turn is.whole;
      none = c.of.ensures.nodes;
      relaxed = subst (IsRelaxed s xs r.supply.units) (sym same) is.relaxed;
    }
