use Rattle.freq_table.proofs.Examples.{two_points-limits}
use Rattle.file_tests.proofs.machines.the_first_entry_that_meets_is_picked.Goals as goal

pub of-requires : goal.of-requires
of-requires _ _ = two_points-limits
