use Rattle.std.proofs.Common.{[], ◌∷◌, refl}
use Rattle.std.specs.Prelude.{codes}
use Rattle.trace_tests.proofs.DistinctNames.{apart}
use Rattle.trace_tests.proofs.reading.read_pair.Goals as goal

pub read_any-requires-clause-distinct : goal.read_any-requires-clause-distinct
read_any-requires-clause-distinct c = rw c.in_ok-names.ensures (apart (codes "x" ∷ codes "y" ∷ []) ((refl, tt), (tt, tt)))
