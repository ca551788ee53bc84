use Rattle.std.proofs.Common.{inl, inr, arith}
use Rattle.std.proofs.lemmas.Bool.{cases_lt}
use Rattle.rm_response.proofs.search.first_fitting.Goals as goal

pub loop-low-preserved-in-Some-fitting : goal.loop-low-preserved-in-Some-fitting
loop-low-preserved-in-Some-fitting c =
    let at = c.loop-low.invariant in
    let fit = c.in-Some-fitting.ensures in
    record {
      from = at.from;
      none = at.none;
      fit = record { from = fit.from; within = omega (arith, fit.within, at.fit.within, c.loop-low-test.true); done = fit.done };
    }

pub loop-low-preserved : goal.loop-low-preserved
loop-low-preserved c =
    let at = c.loop-low.invariant in
    record {
      from = omega (arith, at.from);
      none = λ t from lt. elim (cases_lt t c.loop-low.low) [
        | inl before ↦ at.none t from before
        | inr after ↦ c.in-None.ensures t after (omega (arith, lt))
      ];
      fit = record { from = omega (arith, c.loop-low-test.true); within = at.fit.within; done = at.fit.done };
    }

pub returns : goal.returns
returns c =
    let at = c.loop-low.invariant in
    record {
      before = record {
        from = omega (arith, at.from, at.fit.from);
        within = omega (arith, at.fit.within);
        none = λ t from lt. at.none t from (omega (arith, lt, c.loop-low-test.false));
      };
      fit = λ _. at.fit.done;
    }
