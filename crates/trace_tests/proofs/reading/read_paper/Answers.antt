use Rattle.std.proofs.Common.{[], ◌∷◌, refl}
use Rattle.std.specs.Prelude.{codes}
use Rattle.trace_tests.proofs.DistinctNames.{apart}
use Rattle.trace_tests.proofs.reading.read_paper.Goals as goal

pub read_trace-requires-clause-distinct : goal.read_trace-requires-clause-distinct
read_trace-requires-clause-distinct c =
    rw c.in_ok-names.ensures (apart (codes "t1" ∷ codes "t2" ∷ codes "t3" ∷ []) ((refl, (refl, tt)), ((refl, tt), (tt, tt))))
