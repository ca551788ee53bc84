-- The most lines of a run, by evaluation.
use Rattle.std.proofs.Common.{◌≡◌, refl}
use Rattle.dvs_base.specs.declared.kind.Scheduler.TheVariants.{Edf}
use Rattle.dvs_base.specs.declared.kind.Version.TheVariants.{One, Two}
use Rattle.sched_model.proofs.Examples.{paper_example}
use Rattle.trace_writer.specs.RunText.{most_lines}

-- in 16 ticks each of three tasks releases two jobs: 7 * 6 + 5 lines, and in version 2 two more for each task
lines_of_two_jobs_each : (most_lines One (paper_example Edf) 16 ≡ 47) × (most_lines Two (paper_example Edf) 16 ≡ 53)
lines_of_two_jobs_each = (refl, refl)
