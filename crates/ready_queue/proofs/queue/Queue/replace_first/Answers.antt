use Rattle.std.proofs.Common.{sym, ap, subst, ◌∙◌, List, length, slice_set, vec_capacity, IsPermutation}
use Rattle.ready_queue.specs.declared.entry.Entry.{Entry}
use Rattle.ready_queue.specs.Entries.{QueueView, IsOfFirst}
use Rattle.ready_queue.specs.Heaps.{CanSink}
use Rattle.ready_queue.proofs.QueueEntries.{replaced_sinks, replaced}
use Rattle.ready_queue.proofs.queue.Queue.replace_first.Goals as goal

pub sink-requires : goal.sink-requires
sink-requires g c =
    subst (λ (l : List Entry). CanSink g.O.Order.comes_before l 0) (sym c.deref_mut.ensures.value)
    (replaced_sinks g.O.Order.comes_before g.met.O.Order.laws (vec_capacity c.self.inside.heap) c.args.e c.self.inside.heap.items c.self.invariant
    (subst (λ (q : QueueView). IsOfFirst c.args.e.task q.entries) (sym c.self.view_is) c.requires))

pub invariant_of-self : goal.invariant_of-self
invariant_of-self g c =
    let after = replaced g.O.Order.comes_before g.met.O.Order.laws (vec_capacity c.self.inside.heap) c.args.e c.self.inside.heap.len
    c.self.inside.heap.items c.sink.new.heap (slice_set c.self.inside.heap.items 0 c.args.e) c.args.self.now c.self.invariant c.self.view_is c.requires
    (sym c.deref_mut.ensures.len ∙ ap length c.deref_mut.ensures.value)
    (subst (λ (l : List Entry). IsPermutation l c.sink.new.heap) c.deref_mut.ensures.value c.sink.ensures.same) c.sink.ensures.heap in
    after.0

pub returns : goal.returns
returns g c =
    let after = replaced g.O.Order.comes_before g.met.O.Order.laws (vec_capacity c.self.inside.heap) c.args.e c.self.inside.heap.len
    c.self.inside.heap.items c.sink.new.heap (slice_set c.self.inside.heap.items 0 c.args.e) c.args.self.now c.self.invariant c.self.view_is c.requires
    (sym c.deref_mut.ensures.len ∙ ap length c.deref_mut.ensures.value)
    (subst (λ (l : List Entry). IsPermutation l c.sink.new.heap) c.deref_mut.ensures.value c.sink.ensures.same) c.sink.ensures.heap in
    record { entries = after.1; out = after.2; limit = ap (λ (q : QueueView). q.limit) c.self.view_is }
