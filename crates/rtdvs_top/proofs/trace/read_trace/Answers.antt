use Rattle.std.proofs.Common.{◌≢◌, ℕ, List, ◌∙◌, sym, subst}
use Rattle.std.specs.List.{AllPairs}
use Rattle.replay.proofs.Texts.{names-distinct}
use Rattle.rtdvs_top.proofs.trace.read_trace.Goals as goal

pub read_any-requires-clause-distinct : goal.read_any-requires-clause-distinct
read_any-requires-clause-distinct c =
    subst (λ (names : List (List ℕ)). AllPairs (λ a b. a ≢ b) names) (sym (c.deref.ensures.value ∙ c.in_ok-names.ensures))
    (names-distinct c.args.tasks.now c.as_slice-limits.ensures.limits)
