-- Draws, and what is made from them, by evaluation.
use Rattle.std.proofs.Common.{◌≡◌, ◌+◌, ◌^◌, [], ◌∷◌, codes, refl}
use Rattle.std.specs.Fmt.{digits}
use Rattle.workload.specs.Draws.{first_state, state_after, draw}
use Rattle.workload.specs.Workload.{made_task, made_tasks, made_row}

-- the first two draws of seed 1: the state becomes 1103527590, and then 377401575
draws_of_one : (draw (first_state 1) 0 ∷ draw (first_state 1) 1 ∷ []) ≡ (16838 ∷ 5758 ∷ [])
draws_of_one = refl

-- the state begins as the seed modulo 2^31
seed_above : draw (first_state (2 ^ 31 + 1)) 0 ≡ 16838
seed_above = refl

-- the first of 32 tasks of seed 1: 16838 % 8 is 6, the place of the period 200; its share is 6250 units, and its worst
-- case 5758 + 1
first_task : made_task (first_state 1) 32 0 ≡ record { name = codes "w1"; period = 200; worst = 5759; offset = 0 }
unfolding digits
first_task = refl

-- the demands are drawn after all tasks: the third and the fourth draw are 10113 and 17515, so jobs 1 and 2 of one
-- task with the worst case 5759 need 10113 % 5760 and 17515 % 5760 units
first_demands :
    (made_row (made_tasks (first_state 1) 1) (state_after (first_state 1) 2) 0
    ∷ made_row (made_tasks (first_state 1) 1) (state_after (first_state 1) 2) 1
    ∷ [])
    ≡ (record { task = 0; job = 1; units = 4353 } ∷ record { task = 0; job = 2; units = 235 } ∷ [])
first_demands = refl
