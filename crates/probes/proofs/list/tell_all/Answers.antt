use Rattle.std.proofs.Common.{◌<◌, length, sym, ◌∙◌, arith}
use Rattle.probes.proofs.Lists.{stays-at, leaves-at}
use Rattle.probes.proofs.list.tell_all.Goals as goal

pub loop-at-preserved-in-Stay : goal.loop-at-preserved-in-Stay
loop-at-preserved-in-Stay g c =
    let within : c.loop-at.at < length c.loop-at.probes.items =
    omega (arith, c.loop-at-test.true, c.len.ensures, c.loop-at.probes.ok) in
    record {
      within = omega (arith, c.loop-at-test.true, c.len.ensures);
      rest = stays-at g.P.Probe.seen c.args.note.now c.loop-at.probes.items c.loop-at.at c.tell_one.new.probe
          c.index_mut.result.now within c.index_mut.ensures.value c.tell_one.ensures.seen
          (sym c.tell_one.ensures.stay ∙ c.in-Stay.is)
          ∙ c.loop-at.invariant.rest;
    }

pub loop-at-preserved : goal.loop-at-preserved
loop-at-preserved g c =
    let within : c.loop-at.at < length c.loop-at.probes.items =
    omega (arith, c.loop-at-test.true, c.len.ensures, c.loop-at.probes.ok) in
    record {
      within = omega (arith, c.remove.ensures.len, c.loop-at-test.true, c.len.ensures);
      rest = leaves-at g.P.Probe.seen c.args.note.now c.loop-at.probes.items c.remove.new.self.items c.loop-at.at
          c.tell_one.new.probe c.index_mut.result.now within c.index_mut.ensures.value
          (sym c.tell_one.ensures.stay ∙ c.in-Leave.is) c.remove.ensures.items
          ∙ c.loop-at.invariant.rest;
    }
