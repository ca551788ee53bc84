-- The laws of `release`, `due` and `latest`; other proofs use only these.
use Rattle.std.proofs.Common.{◌≡◌, ℕ, zero, suc, ◌+◌, ◌-◌, ◌/◌, ◌<◌, ◌≤◌, true, false, List, [], ◌∷◌, length, refl, inl, inr, nat_le, arith, ap, ◌∙◌, sym, add-mul, one-mul, zero-mul, add-one}
use Rattle.std.proofs.Math.Nat.{le-mul_of_pos_right}
use Rattle.std.proofs.lemmas.Bool.{cases_lt}
use Rattle.std.proofs.lemmas.Bool.Decides.{nat_tests}
use Rattle.sched_model.specs.Plan.{Plan, count, period, offset, worst}
use Rattle.grid_fraction.proofs.Searches.{any_below-found, last_up_to-le, last_up_to-greatest}
use Rattle.grid_fraction.proofs.Ceilings.{quotient}
use Rattle.sched_model.specs.Jobs.{JobDemands, release, due, latest, is_in_window, latest_since, releases_at, is_release, last_release, worst_demand}
use Rattle.sched_model.specs.Ticks.{Tick, exec, share, units_left}

-- from the offset on the jobs are counted by periods, and before it the latest job is job 0
latest-from : (p : Plan) (i t : ℕ) → offset p i ≤ t → latest p i t ≡ (t - offset p i) / period p i + 1
unfolding latest
latest-from p i t since = let on : nat_le (offset p i) t ≡ true = grind (arith, nat_tests) in rw on refl

pub latest-none : (p : Plan) (i t : ℕ) → t < offset p i → latest p i t ≡ 0
unfolding latest
latest-none p i t early = let off : nat_le (offset p i) t ≡ false = grind (arith, nat_tests) in rw off refl

-- job 0 is due at the offset
pub due-none : (p : Plan) (i : ℕ) → due p i 0 ≡ offset p i
unfolding due
due-none p i = omega (arith, zero-mul (period p i))

pub release-none : (p : Plan) (i : ℕ) → offset p i ≤ release p i 0
unfolding release
release-none p i = omega arith

-- a job's number is at most its deadline
pub le-due : (p : Plan) (i k : ℕ) → 0 < period p i → k ≤ due p i k
unfolding due
le-due p i k pos = omega (arith, le-mul_of_pos_right k pos)

-- a job is released when the one before it is due
pub release-suc : (p : Plan) (i k : ℕ) → release p i (k + 1) ≡ due p i k
unfolding release due
release-suc p i k = grind (arith, nat_tests)

pub due-suc : (p : Plan) (i k : ℕ) → due p i (k + 1) ≡ due p i k + period p i
unfolding due
due-suc p i k = omega (arith, add-mul k 1 (period p i), one-mul (period p i))

pub release-due : (p : Plan) (i k : ℕ) → 1 ≤ k → release p i k + period p i ≡ due p i k
release-due p i zero one = absurd (omega arith)
release-due p i (suc k) one = grind (arith, nat_tests, add-one k, due-suc p i k, release-suc p i k)

-- the latest job is the one that is released, unless it is job 0, and not yet due
pub latest-unique : (p : Plan) (i k t : ℕ) → (0 < k → release p i k ≤ t) → t < due p i k → latest p i t ≡ k
unfolding release due
latest-unique p i k t from until = grind (arith, nat_tests, latest-none, quotient, latest-from)

pub latest-is : (p : Plan) (i k t : ℕ) → release p i k ≤ t → t < due p i k → latest p i t ≡ k
latest-is p i k t low high = latest-unique p i k t (λ some. low) high

-- from the first release on the latest job is not job 0

pub latest-pos : (p : Plan) (i t : ℕ) → offset p i ≤ t → 0 < latest p i t
latest-pos p i t since = omega (arith, latest-from p i t since)

pub offset-le : (p : Plan) (i t : ℕ) → 0 < latest p i t → offset p i ≤ t
offset-le p i t some = elim (cases_lt t (offset p i)) [ inl early ↦ absurd (omega (arith, some, latest-none p i t early)) | inr since ↦ since ]

-- the latest job is released by tick t, unless it is job 0, and due later
pub release-le : (p : Plan) (i t : ℕ) → 0 < period p i → 0 < latest p i t → release p i (latest p i t) ≤ t
unfolding release
release-le p i t pos some = grind (arith, nat_tests, offset-le, latest-from)

pub lt-due : (p : Plan) (i t : ℕ) → 0 < period p i → t < due p i (latest p i t)
unfolding due
lt-due p i t pos = grind (arith, nat_tests, cases_lt, latest-none, latest-from)

pub due-le : (p : Plan) (i t : ℕ) → 0 < period p i → 0 < latest p i t → due p i (latest p i t) ≤ t + period p i
due-le p i t pos some = omega (arith, release-le p i t pos some, release-due p i (latest p i t) some)

-- the latest job is due within as many ticks as bound its task's offset and period
pub due-within : (p : Plan) (i t n : ℕ) → 0 < period p i → offset p i ≤ n → period p i ≤ n → due p i (latest p i t) ≤ t + n
due-within p i t n pos first often = grind (arith, due-none p i, due-le)

-- the number of the latest job is at most the tick plus 1
pub latest-small : (p : Plan) (i t : ℕ) → 0 < period p i → latest p i t ≤ t + 1
latest-small p i t pos = go (latest p i t) refl
  where
    go : (k : ℕ) → latest p i t ≡ k → latest p i t ≤ t + 1
    go zero e = omega (arith, e)
    go (suc k) e =
        let here : release p i (latest p i t) ≡ due p i k = ap (release p i) (e ∙ sym (add-one k)) ∙ release-suc p i k in
        omega (arith, e, here, release-le p i t pos (omega (arith, e)), le-due p i k pos)

pub worst_demand-pos : (p : Plan) (i k : ℕ) → 0 < k → worst_demand p i k ≡ worst p i
worst_demand-pos p i k lt = grind arith

pub worst_demand-le : (p : Plan) (i k : ℕ) → worst_demand p i k ≤ worst p i
worst_demand-le p i k = grind arith

pub in_window : (p : Plan) (i t : ℕ) → 0 < period p i → 0 < latest p i t → is_in_window p i (latest p i t) t ≡ true
in_window p i t pos some = grind (arith, nat_tests, release-le p i t pos some, lt-due p i t pos)

-- the latest job stays until its deadline, and the next one follows then
pub latest-stays : (p : Plan) (i t : ℕ) → 0 < period p i → t + 1 < due p i (latest p i t) → latest p i (t + 1) ≡ latest p i t
latest-stays p i t pos h = latest-unique p i (latest p i t) (t + 1) (λ some. omega (arith, release-le p i t pos some)) h

pub latest-next : (p : Plan) (i t : ℕ) → 0 < period p i → t + 1 ≡ due p i (latest p i t) → latest p i (t + 1) ≡ latest p i t + 1
latest-next p i t pos h = grind (arith, latest-unique, release-suc p i (latest p i t), due-suc p i (latest p i t))

-- a tick adds the task's share to what the latest job has had
pub exec-latest : (p : Plan) (x : Tick) (past : List Tick) (i : ℕ) → 0 < period p i → 0 < latest p i (length past)
    → exec p (x ∷ past) i (latest p i (length past)) ≡ exec p past i (latest p i (length past)) + share x i
exec-latest p x past i pos some = rw (in_window p i (length past) pos some) refl

-- job 0 has had nothing
pub exec-none : (p : Plan) (past : List Tick) (i : ℕ) → exec p past i 0 ≡ 0
exec-none p [] i = refl
exec-none p (x ∷ past) i = grind (arith, due-none p i, release-none p i, exec-none p past i)

-- a tick adds the task's share to what the latest job has had, also for job 0 if no task gets more than it needs
pub exec-legal : (p : Plan) (dem : JobDemands) (x : Tick) (past : List Tick) (i : ℕ) → 0 < period p i → dem i 0 ≡ 0 → share x i ≤ units_left p dem past i
    → exec p (x ∷ past) i (latest p i (length past)) ≡ exec p past i (latest p i (length past)) + share x i
exec-legal p dem x past i pos none fits = grind (arith, nat_tests, exec-none, exec-latest)

-- what the latest job needs falls by the task's share, while it stays the latest
pub left-stays : (p : Plan) (dem : JobDemands) (x : Tick) (past : List Tick) (i : ℕ) → 0 < period p i → dem i 0 ≡ 0
    → latest p i (length (x ∷ past)) ≡ latest p i (length past)
    → units_left p dem (x ∷ past) i ≡ units_left p dem past i - share x i
left-stays p dem x past i pos none stays = grind (arith, nat_tests, exec-latest)

-- no job has had anything before its release
pub exec-early : (p : Plan) (past : List Tick) (i k : ℕ) → length past ≤ release p i k → exec p past i k ≡ 0
exec-early p [] i k h = refl
exec-early p (x ∷ past) i k h = grind (arith, exec-early p past i k (omega arith))

-- the last release is at most the present tick
pub last_release-le : (p : Plan) (t : ℕ) → last_release p t ≤ t
last_release-le p t = last_up_to-le t (is_release p)

-- the latest job was released at or before the last release, unless it is job 0
pub released-before : (p : Plan) (i t : ℕ) → 0 < period p i → i < count p → 0 < latest p i t → release p i (latest p i t) ≤ last_release p t
released-before p i t pos lt some =
    last_up_to-greatest t (release p i (latest p i t)) (is_release p) low
    (any_below-found (count p) (λ j. releases_at p j (release p i (latest p i t))) i lt here)
  where
    low : release p i (latest p i t) ≤ t
    low = release-le p i t pos some

    same : latest p i (release p i (latest p i t)) ≡ latest p i t
    same = latest-is p i (latest p i t) (release p i (latest p i t)) (omega arith) (omega (arith, low, lt-due p i t pos))

    here : releases_at p i (release p i (latest p i t)) ≡ true
    here = let e : release p i (latest p i (release p i (latest p i t))) ≡ release p i (latest p i t) = ap (release p i) same in grind (arith, nat_tests, e)

pub latest_since-pos : (p : Plan) (i k : ℕ) → 0 < k → latest_since p i k ≡ release p i k
latest_since-pos p i k some = grind arith

pub latest_since-suc : (p : Plan) (i k : ℕ) → latest_since p i (k + 1) ≡ due p i k
latest_since-suc p i k = latest_since-pos p i (k + 1) (omega arith) ∙ release-suc p i k

pub latest_since-le : (p : Plan) (i t : ℕ) → 0 < period p i → i < count p → latest_since p i (latest p i t) ≤ last_release p t
latest_since-le p i t pos lt = grind (arith, nat_tests, latest_since-pos, released-before)

-- the latest job was the latest at the last release too
pub latest-marked : (p : Plan) (i t : ℕ) → 0 < period p i → i < count p → latest p i (last_release p t) ≡ latest p i t
latest-marked p i t pos lt = grind (arith, nat_tests, last_release-le p t, latest-unique p i, lt-due p i t pos, released-before p i t pos lt)
