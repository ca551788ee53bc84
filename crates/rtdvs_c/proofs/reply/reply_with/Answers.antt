use Rattle.std.proofs.Common.{◌≡◌, List, map, refl, subst}
use Rattle.std.specs.Prelude.{string_bytes, IsOk}
use Rattle.probes.specs.Tallies.{ProbeView}
use Rattle.words.specs.Reading.{command_of}
use Rattle.statuses.specs.Status.{CountsPuts}
use Rattle.command_files.proofs.GivenLoads.{held-known}
use Rattle.rtdvs_c.specs.Replies.{held_by, shown_shelf}
use Rattle.rtdvs_c.specs.declared.files.CallShelf.{CallShelf}
use Rattle.rtdvs_c.proofs.TopCall.{Left, no-fault, left-none, if-ok, from-empty, is-reply}
use Rattle.rtdvs_c.proofs.reply.reply_with.Goals as goal

pub returns : goal.returns
returns g c =
    let files = held_by c.args.files in
    let asked = command_of (map string_bytes c.args.words.now) in
    let s = c.rtdvs-status.result in
    let text = c.rtdvs-status.new.out.bytes in
    let noted = c.rtdvs-status.new.notes.bytes in
    let after : List ProbeView = map (λ b. (goal.Probe-dyn g (b.vtable, b.value)).seen b.value) c.rtdvs-status.new.probes.items in
    let old : CallShelf = record { files = c.args.files; loaded = c.new.result } in
    let new : CallShelf = c.rtdvs-status.new.shelf in
    let left : IsOk c.ended.result → Left s text = λ ok. record {
      memory = c.ended.ensures.memory ok;
      written = c.ended.ensures.written ok;
      none = left-none s c.new-out.result c.rtdvs-status.new.out (c.ended.ensures.written ok) c.new-out.ensures.bytes c.rtdvs-status.ensures.leaves;
    } in
    let faults : IsOk c.ended.result → c.rtdvs-status.new.out.faults ≡ 0 = λ ok.
    no-fault s c.rtdvs-status.new.out.faults (c.ended.ensures.written ok)
    (subst (λ k. CountsPuts k c.rtdvs-status.new.out.faults s) c.new-out.ensures.faults c.rtdvs-status.ensures.put_count) in
    if-ok c.ended.result (λ ok reply shown. is-reply files asked s text noted old new after c.args.most reply (left ok)
    (from-empty files asked s old new c.new-out.ensures.bytes c.new-out.ensures.faults (faults ok)
    c.new-notes.ensures.bytes c.new-notes.ensures.faults (c.ended.ensures.noted ok) c.requires
    (c.rtdvs-status.ensures.promised files (held-known (shown_shelf old) (shown_shelf new) files refl)))
    c.rtdvs-status.ensures.shown shown) c.ended.ensures.reply
