-- What is left of an allotment, over plain numbers: the allotment, the base, and what the job may still need.
use Rattle.std.proofs.Common.{◌≡◌, ℕ, ◌+◌, ◌-◌, ◌<◌, ◌≤◌, Bool, true, false, arith, if◌then◌else◌}

abbrev pub left_by : Bool → ℕ → ℕ → ℕ → ℕ
left_by done allot base w = if done then 0 else allot - (base - w)

-- at a mark an allotment is wholly left
pub left-marked : (done : Bool) (al base w : ℕ) → base ≡ w
    → al ≤ base → (done ≡ true → w ≡ 0) → left_by done al base w ≡ al
left-marked done al base w e a z = grind arith

-- if a job's base is wholly allotted, a tick of `sh` units takes at least these from what is left
pub left-full : (done done' : Bool) (al base w w' sh : ℕ) → al ≡ base → w ≤ base → w' + sh ≤ w → (done ≡ true → w ≡ 0)
    → (done' ≡ true → w' ≡ 0) → (done ≡ true → done' ≡ true) → left_by done' al base w' + sh ≤ left_by done al base w
left-full done done' al base w w' sh e a b z z' d = grind arith

-- a tick in which a job gets no units doesn't raise what is left
pub left-idle : (done done' : Bool) (al base w w' sh : ℕ) → w' + sh ≤ w → sh ≡ 0 → (done ≡ true → done' ≡ true)
    → left_by done' al base w' + sh ≤ left_by done al base w
left-idle done done' al base w w' sh b z d = grind arith

-- if some is left, the job is incomplete and has some units allotted
pub left-open : (done : Bool) (al base w : ℕ) → 0 < left_by done al base w → (done ≡ false) × (0 < al)
left-open done al base w pos = grind arith
