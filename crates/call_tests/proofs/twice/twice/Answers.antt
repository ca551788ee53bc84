use Rattle.std.proofs.Common.{◌∙◌}
use Rattle.call_tests.proofs.TwoCalls.{puts-later, first-answers, second-answers, both-steady}
use Rattle.call_tests.proofs.twice.twice.Goals as goal

pub returns-clause-held : goal.returns-clause-held
returns-clause-held g c = c.rtdvs-second.ensures.any_files.shelf.held ∙ c.rtdvs-first.ensures.any_files.shelf.held

pub returns-clause-first : goal.returns-clause-first
returns-clause-first g c =
    first-answers (g.S.Shelf.shows c.args.shelf.now) (g.S.Shelf.shows c.rtdvs-first.new.shelf)
    (g.S.Shelf.shows c.rtdvs-second.new.shelf) (g.W.Sink.shows c.args.out.now) (g.W.Sink.shows c.rtdvs-first.new.out)
    (g.W.Sink.shows c.rtdvs-second.new.out) _ _ c.rtdvs-first.ensures.any_files.shelf c.rtdvs-second.ensures.any_files.shelf _
    (puts-later _ _ _ c.rtdvs-second.ensures.put_count) (λ files may. (c.rtdvs-first.ensures.promised files may).answers)

pub returns-clause-second : goal.returns-clause-second
returns-clause-second g c =
    second-answers (g.S.Shelf.shows c.args.shelf.now) (g.S.Shelf.shows c.rtdvs-first.new.shelf)
    (g.S.Shelf.shows c.rtdvs-second.new.shelf) (g.W.Sink.shows c.args.out.now) (g.W.Sink.shows c.rtdvs-first.new.out)
    (g.W.Sink.shows c.rtdvs-second.new.out) _ _ c.rtdvs-first.ensures.any_files.shelf c.rtdvs-second.ensures.any_files.shelf _
    (puts-later _ _ _ c.rtdvs-first.ensures.put_count) (λ files may. (c.rtdvs-second.ensures.promised files may).answers)

pub returns-clause-sure : goal.returns-clause-sure
returns-clause-sure g c =
    both-steady (g.S.Shelf.shows c.args.shelf.now) (g.S.Shelf.shows c.rtdvs-first.new.shelf)
    (g.S.Shelf.shows c.rtdvs-second.new.shelf) (g.W.Sink.shows c.args.out.now) (g.W.Sink.shows c.rtdvs-first.new.out)
    (g.W.Sink.shows c.rtdvs-second.new.out) _ _ c.rtdvs-first.ensures.any_files.shelf c.rtdvs-second.ensures.any_files.shelf
    c.rtdvs-first.ensures.sure_loads c.rtdvs-second.ensures.sure_loads
