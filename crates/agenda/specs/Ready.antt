-- A ready queue, in the order of its scheduler.
use Rattle.dvs_base.specs.declared.kind.Scheduler.TheVariants.{Edf, Rm}
use Rattle.agenda.specs.declared.ready.Ordered.{Ordered}
use Rattle.agenda.specs.declared.ready.Ordered.TheVariants.{Edf as ByDeadline, Rm as ByRate}
use Rattle.agenda.specs.Agenda.{ReadyView}

-- a queue of either order as contracts see it
abbrev pub ready_of : Ordered → ReadyView
ready_of (ByDeadline q) = record { scheduler = Edf; limit = q.limit; entries = q.entries }
ready_of (ByRate q) = record { scheduler = Rm; limit = q.limit; entries = q.entries }
