-- Why a task set is not admitted under EDF.
use Rattle.std.specs.Prelude.{◌≡◌, ◌*◌, ◌<◌}
use Rattle.sched_model.specs.Plan.{Plan, hyper, top_speed}
use Rattle.sched_model.specs.Tests.{total_rate, IsEdfFeasible}
use Rattle.edf_admit.specs.declared.EdfFault.{EdfFault}
use Rattle.edf_admit.specs.declared.EdfFault.TheVariants.{Denied, NoMemory}

-- the test fails, with the two numbers that show it; or it passes, and memory ran out
abbrev pub IsEdfDenial : Plan → EdfFault → Type 0
IsEdfDenial p (Denied num cap) = (num ≡ total_rate p) × (cap ≡ top_speed p * hyper p) × (cap < num)
IsEdfDenial p NoMemory = IsEdfFeasible p
