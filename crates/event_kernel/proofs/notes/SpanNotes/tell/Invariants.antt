use Rattle.std.proofs.Common.{◌≡◌, ◌<◌, ◌≤◌, drop, length}
use Rattle.event_kernel.specs.SpanNotes.{all_booked, CanBook}
use Rattle.event_kernel.specs.Heard.{HasHeard, HasBalked}
use Rattle.event_kernel.proofs.notes.SpanNotes.tell.Given as goal

-- any listener that heard the rest, or balked in it, did so in all notes; the account has room for the rest
abbrev pub invariant-loop-note : goal.invariant-loop-note
invariant-loop-note g l =
    let rest = drop l.note-index l.note-items in
    record {
      heard : (b : g.row.L.Denot) → HasHeard g.L.Listener.heard l.to rest b → HasHeard g.L.Listener.heard l.fn.to l.note-items b;
      balked : (b : g.row.L.Denot) → HasBalked g.L.Listener.heard g.L.Listener.balked l.to rest b
          → HasBalked g.L.Listener.heard g.L.Listener.balked l.fn.to l.note-items b;
      stops : g.L.Listener.stops l.fn.to ≤ g.L.Listener.stops l.to;
      room : CanBook l.account rest l.fn.point;
      booked : all_booked l.account rest l.fn.point ≡ all_booked l.fn.account l.note-items l.fn.point;
      point : l.fn.point < length l.account.by_point;
    }
