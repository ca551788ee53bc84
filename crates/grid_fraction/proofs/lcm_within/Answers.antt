-- Each step takes in one period more, and the multiple never falls.
use Rattle.std.proofs.Common.{◌≡◌, ◌+◌, ◌<◌, [], ◌∷◌, arith, ◌∙◌, sym, take, get_or}
use Rattle.std.proofs.lemmas.List.Elements.{All-take}
use Rattle.grid_fraction.specs.Fraction.{least_common_multiple}
use Rattle.grid_fraction.proofs.Multiples.{least_common_multiple-none, least_common_multiple-pos, least_common_multiple-take_more, least_common_multiple-take}
use Rattle.grid_fraction.proofs.lcm_within.Goals as goal

pub loop-period-init : goal.loop-period-init
loop-period-init c = record { least = sym least_common_multiple-none; within = c.requires.cap }

pub joint_multiple-requires-clause-a : goal.joint_multiple-requires-clause-a
joint_multiple-requires-clause-a c =
    omega (
      arith,
      least_common_multiple-pos (take c.loop-period.period-index c.args.periods.now)
          (All-take (λ n. 0 < n) c.loop-period.period-index c.args.periods.now c.requires.periods),
      c.loop-period.invariant.least,
    )

pub returns-in-None-clause-beyond : goal.returns-in-None-clause-beyond
returns-in-None-clause-beyond c =
    let beyond : c.args.cap < least_common_multiple (c.loop-period.multiple ∷ get_or c.args.periods.now c.loop-period.period-index 0 ∷ []) =
    c.in-None.ensures.beyond in
    let more = least_common_multiple-take_more c.args.periods.now c.loop-period.period-index 0 c.requires.periods c.loop-period-test.true in
    let grows = least_common_multiple-take c.args.periods.now (c.loop-period.period-index + 1) c.requires.periods in
    let same = rw c.loop-period.invariant.least at beyond in
    omega arith

pub loop-period-preserved : goal.loop-period-preserved
loop-period-preserved c =
    let more = least_common_multiple-take_more c.args.periods.now c.loop-period.period-index 0 c.requires.periods c.loop-period-test.true in
    let next : c.in-Some.next ≡ least_common_multiple (c.loop-period.multiple ∷ get_or c.args.periods.now c.loop-period.period-index 0 ∷ []) =
    c.in-Some.ensures.multiple in
    let same = rw c.loop-period.invariant.least at next in
    record { least = same ∙ sym more; within = c.in-Some.ensures.within }
