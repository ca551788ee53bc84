use Rattle.std.proofs.Common.{◌+◌, ℕ, take, sym, subst, arith, length-set}
use Rattle.std.proofs.lemmas.List.{take_more_set}
use Rattle.rm_response.specs.Fits.{IsRelaxed}
use Rattle.rm_response.proofs.RelaxedLoads.{relaxed-counts, relaxed-leaves}
use Rattle.rm_response.proofs.nodes.relaxed_by.Goals as goal

pub loop-k-preserved-then-marks-k : goal.loop-k-preserved-then-marks-k
loop-k-preserved-then-marks-k c =
    let s = c.args.supply in
    let xs = c.args.loads.now in
    let ys = c.loop-k.heavy in
    let k = c.loop-k.k in
    let n = c.loop-k.count in
    let at = c.loop-k.invariant in
    let x = c.index-loads-k.result in
    let more = relaxed-counts s x xs (take n ys) k c.loop-k.units c.loop-k-test.true c.index-loads-k.is c.requires.rates at.relaxed in
    record {
      long = omega (arith, at.long, length-set ys n x);
      room = omega arith;
      relaxed = subst (IsRelaxed s (take (k + 1) xs) c.loop-k.units) (sym (take_more_set ys n x (omega (arith, at.long)))) more;
    }

pub loop-k-preserved : goal.loop-k-preserved
loop-k-preserved c =
    let s = c.args.supply in
    let xs = c.args.loads.now in
    let k = c.loop-k.k in
    let at = c.loop-k.invariant in
    let x = c.index-loads-k.result in
    let ys = take c.loop-k.count c.loop-k.heavy in
    record {
      long = at.long;
      room = at.room;
      relaxed = subst (λ (n : ℕ). IsRelaxed s (take (k + 1) xs) n ys) (sym c.saturating_sub-units.ensures)
          (relaxed-leaves s x xs ys k c.loop-k.units c.loop-k-test.true c.index-loads-k.is c.requires.rates at.relaxed);
    }
