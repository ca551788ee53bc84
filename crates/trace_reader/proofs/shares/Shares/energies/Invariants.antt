use Rattle.std.proofs.Common.{◌≡◌, ℕ, ◌<◌, length, get_or, None}
use Rattle.std.specs.Prelude.{unwrap_or}
use Rattle.dvs_base.specs.declared.limits.TheConstants.{MOST_TASKS}
use Rattle.trace_reader.proofs.shares.Shares.energies.Given as goal

abbrev pub invariant-loop-i : goal.invariant-loop-i
invariant-loop-i l = record {
  long : length l.energies ≡ MOST_TASKS;
  so_far : (k : ℕ) → k < l.i → get_or l.energies k 0 ≡ unwrap_or (get_or l.self.sums k None) 0;
}
