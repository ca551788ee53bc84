use Rattle.std.proofs.Common.{◌≡◌, ◌+◌, ◌*◌, ℕ, ap₂, ◌∙◌, arith}
use Rattle.std.specs.Int.{div_ceil}
use Rattle.rm_response.specs.Loads.{work_of}
use Rattle.rm_response.proofs.LoadFits.{none-raised, more-before, more-within}
use Rattle.rm_response.proofs.search.raised.Goals as goal

pub returns-then-work-most_in : goal.returns-then-work-most_in
returns-then-work-most_in c =
    let s = c.args.supply in
    let xs = c.args.loads.now in
    let at = c.loop.invariant in
    let last = c.args.span.last in
    record {
      from = omega (arith, c.args.span.ordered);
      within = omega arith;
      none = none-raised s xs c.args.rest c.args.span.first c.loop.first (last + 1) at.none
          (λ t lt.
          more-within s (c.args.rest + work_of xs c.loop.first) last t
          (omega (arith, c.if-work-most_in.true, c.work_of.ensures.value, c.most_in.ensures.value)) lt);
    }

pub returns-then-next-from : goal.returns-then-next-from
returns-then-next-from c =
    let s = c.args.supply in
    let xs = c.args.loads.now in
    let at = c.loop.invariant in
    let n = c.args.rest + work_of xs c.loop.first in
    let is : c.div_ceil-next.result ≡ div_ceil (n * s.hyper) s.units =
    c.div_ceil-next.ensures ∙ ap₂ (λ (w h : ℕ). div_ceil ((c.args.rest + w) * h) s.units) c.work_of.ensures.value c.from.ensures in
    record {
      from = omega (arith, c.args.span.ordered);
      within = omega arith;
      none = none-raised s xs c.args.rest c.args.span.first c.loop.first (c.args.span.last + 1) at.none
          (λ t lt.
          more-before s n c.div_ceil-next.result t is
          (omega (arith, lt, c.if-next-from.true, c.from-in-loop.ensures)));
    }

pub loop-preserved : goal.loop-preserved
loop-preserved c =
    let s = c.args.supply in
    let xs = c.args.loads.now in
    let at = c.loop.invariant in
    let n = c.args.rest + work_of xs c.loop.first in
    let is : c.div_ceil-next.result ≡ div_ceil (n * s.hyper) s.units =
    c.div_ceil-next.ensures ∙ ap₂ (λ (w h : ℕ). div_ceil ((c.args.rest + w) * h) s.units) c.work_of.ensures.value c.from.ensures in
    record {
      low = omega arith;
      within = omega arith;
      none = none-raised s xs c.args.rest c.args.span.first c.loop.first c.div_ceil-next.result at.none
          (λ t lt. more-before s n c.div_ceil-next.result t is lt);
    }
