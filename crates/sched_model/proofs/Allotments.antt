-- Units handed out in order: each task gets its allotment. A set of tasks is closed under priority if it has, with each
-- task, those before it; it gets the smaller of the room and what it needs.
use Rattle.std.proofs.Common.{◌≡◌, ◌≢◌, ℕ, zero, suc, ◌+◌, ◌<◌, min, Bool, true, false, eqb, ◌||◌, ◌⊎◌, inl, inr, refl, arith, if◌then◌else◌, ap, ◌∙◌, sym, subst, true≢false, nat_le, ◌-◌, ◌≤◌}
use Rattle.std.proofs.lemmas.Bool.{or_left, or_right, or_from}
use Rattle.std.proofs.lemmas.Bool.Decides.{nat_tests}
use Rattle.grid_fraction.specs.Numbers.{sum_where, sum_below}
use Rattle.grid_fraction.proofs.Sums.{sum_below-same, sum_below-add, sum_below-own, sum_below-zero, sum_where-same, sum_below-le}
use Rattle.grid_fraction.proofs.Searches.{below_suc}
use Rattle.sched_model.specs.Priority.{stands_before, sum_before, sum_up_to, SharesOut, allotment}
use Rattle.sched_model.proofs.Orders.{before-self, before-total, split_if, same_not_before, before-trans}
use Rattle.sched_model.specs.Greedy.{IsFirstOpen}

-- of the numbers below m that pass the test, i is the last by the order
pub record IsLastOf (key : ℕ → ℕ) (test : ℕ → Bool) (m i : ℕ) : Type 0 where
  pub below : i < m
  pub passes : test i ≡ true
  pub last : (k : ℕ) → k < m → test k ≡ true → stands_before key i k ≡ false

abbrev pub NonePasses : (ℕ → Bool) → ℕ → Type 0
NonePasses test m = (k : ℕ) → k < m → test k ≡ false

pub last_of : (key : ℕ → ℕ) (test : ℕ → Bool) (m : ℕ) → NonePasses test m ⊎ ((i : ℕ) × IsLastOf key test m i)
last_of key test zero = inl (λ k lt. absurd (omega arith))
last_of key test (suc m) = go (test m) refl (last_of key test m)
  where
    later : (j : ℕ) (b : Bool) → stands_before key j m ≡ b → test m ≡ true → IsLastOf key test m j → (i : ℕ) × IsLastOf key test (suc m) i
    later j true e t r = (
      m,
      record {
        below = omega arith;
        passes = t;
        last = below_suc (λ k. test k ≡ true → stands_before key m k ≡ false) m
            (λ k lt h. grind (arith, nat_tests, r.last k lt h)) (λ h. before-self key m);
      },
    )
    later j false e t r = (
      j,
      record {
        below = omega (arith, r.below);
        passes = r.passes;
        last = below_suc (λ k. test k ≡ true → stands_before key j k ≡ false) m r.last (λ h. e);
      },
    )

    go : (b : Bool) → test m ≡ b → NonePasses test m ⊎ ((i : ℕ) × IsLastOf key test m i) → NonePasses test (suc m) ⊎ ((i : ℕ) × IsLastOf key test (suc m) i)
    go false e (inl none) = inl (below_suc (λ k. test k ≡ false) m none e)
    go true e (inl none) = inr (
      m,
      record {
        below = omega arith;
        passes = e;
        last = below_suc (λ k. test k ≡ true → stands_before key m k ≡ false) m
            (λ k lt h. absurd (true≢false (sym h ∙ none k lt))) (λ h. before-self key m);
      },
    )
    go false e (inr f) = inr (
      f.0,
      record {
        below = omega (arith, f.1.below);
        passes = f.1.passes;
        last = below_suc (λ k. test k ≡ true → stands_before key f.0 k ≡ false) m f.1.last (λ h. absurd (true≢false (sym h ∙ e)));
      },
    )
    go true e (inr f) = inr (later f.0 (stands_before key f.0 m) refl e f.1)

-- the sum over a set without a task is 0
pub sum_where-none : (n : ℕ) (test : ℕ → Bool) (f : ℕ → ℕ) → NonePasses test n → sum_where n test f ≡ 0
sum_where-none n test f none = sum_below-zero n (λ k. if test k then f k else 0) (λ k lt. rw (none k lt) refl)

-- a set that is closed under priority consists of its last task and those before that one
pub sum_where-last : (n : ℕ) (key : ℕ → ℕ) (test : ℕ → Bool) (f : ℕ → ℕ) (i : ℕ)
    → ((j k : ℕ) → j < n → k < n → stands_before key j k ≡ true → test k ≡ true → test j ≡ true)
    → IsLastOf key test n i → sum_where n test f ≡ sum_up_to n key f i
sum_where-last n key test f i down r =
    sum_below-same n (λ k. if test k then f k else 0) (λ k. (if stands_before key k i then f k else 0) + (if eqb k i then f k else 0))
    (λ k lt. split_if (test k) (stands_before key k i) (eqb k i) (f k) (is k lt (eqb k i) refl (test k) refl) (same_not_before key k i))
    ∙ (sum_below-add n (λ k. if stands_before key k i then f k else 0) (λ k. if eqb k i then f k else 0)
    ∙ ap (λ a. sum_before n key f i + a) (sum_below-own n i f r.below))
  where
    is : (k : ℕ) → k < n → (b : Bool) → eqb k i ≡ b → (c : Bool) → test k ≡ c → test k ≡ (stands_before key k i || eqb k i)
    is k lt true e c g =
        let same : i ≡ k = grind (arith, nat_tests) in
        subst (λ m. test m ≡ true) same r.passes ∙ sym (or_right (stands_before key k i) (eqb k i) e)
    is k lt false e true g =
        let other : i ≢ k = λ q. absurd (true≢false (grind (arith, nat_tests))) in
        g ∙ sym (or_left (stands_before key k i) (eqb k i) (before-total key i k other (r.last k lt g)))
    is k lt false e false g =
        g ∙ sym (or_from (stands_before key k i) (eqb k i) (not_before (stands_before key k i) refl) e)
      where
        not_before : (b : Bool) → stands_before key k i ≡ b → stands_before key k i ≡ false
        not_before true q = absurd (true≢false (sym (down k i lt r.below q r.passes) ∙ g))
        not_before false q = q

-- a set that is closed under priority gets the smaller of the room and what it needs
pub down-set-gets : (n : ℕ) (key : ℕ → ℕ) (test : ℕ → Bool) (room : ℕ) (need given : ℕ → ℕ)
    → ((j i : ℕ) → j < n → i < n → stands_before key j i ≡ true → test i ≡ true → test j ≡ true)
    → SharesOut n key room need given → sum_where n test given ≡ min room (sum_where n test need)
down-set-gets n key test room need given down h = go (last_of key test n)
  where
    go : NonePasses test n ⊎ ((i : ℕ) × IsLastOf key test n i) → sum_where n test given ≡ min room (sum_where n test need)
    go (inl none) = omega (arith, sum_where-none n test given none, sum_where-none n test need none)
    go (inr f) =
        sum_where-last n key test given f.0 down f.1
        ∙ (h f.0 f.1.below ∙ ap (λ a. min room a) (sym (sum_where-last n key test need f.0 down f.1)))

-- under EDF: the tasks due by d get the smaller of the room and what they need
pub due_by_gets : (n : ℕ) (due : ℕ → ℕ) (d room : ℕ) (need given : ℕ → ℕ) → SharesOut n due room need given
    → sum_where n (λ k. nat_le (due k) d) given ≡ min room (sum_where n (λ k. nat_le (due k) d) need)
due_by_gets n due d room need given h = grind (arith, nat_tests, down-set-gets n due)

-- what the tasks before i get when `room` units are shared out by the order
pub before_gets : (n : ℕ) (key : ℕ → ℕ) (room : ℕ) (need given : ℕ → ℕ) → SharesOut n key room need given
    → (i : ℕ) → sum_before n key given i ≡ min room (sum_before n key need i)
before_gets n key room need given h i = grind (arith, nat_tests, before-trans key, down-set-gets n key)

-- if units are shared out by the order, each task gets its allotment
pub allotment_of : (n : ℕ) (key : ℕ → ℕ) (room : ℕ) (need given : ℕ → ℕ) → SharesOut n key room need given
    → (i : ℕ) → i < n → given i ≡ allotment n key room need i
allotment_of n key room need given h i lt = grind (arith, nat_tests, before_gets)

-- the allotments share out `room` units by the order
shares_by_rank : (n : ℕ) (key : ℕ → ℕ) (room : ℕ) (need : ℕ → ℕ) (m i : ℕ) → i < n → sum_before n key (λ _. 1) i < m
    → sum_up_to n key (allotment n key room need) i ≡ min room (sum_up_to n key need i)
shares_by_rank n key room need zero i lt small = absurd (omega arith)
shares_by_rank n key room need (suc m) i lt small = go (last_of key (λ k. stands_before key k i) n) (shares_by_rank n key room need m)
  where
    last : (f : ℕ → ℕ) (j : ℕ) → IsLastOf key (λ k. stands_before key k i) n j → sum_before n key f i ≡ sum_up_to n key f j
    last f j = sum_where-last n key (λ k. stands_before key k i) f j (λ m k lm lk b t. before-trans key m k i b t)

    go : NonePasses (λ k. stands_before key k i) n ⊎ ((j : ℕ) × IsLastOf key (λ k. stands_before key k i) n j)
        → ((j : ℕ) → j < n → sum_before n key (λ _. 1) j < m → sum_up_to n key (allotment n key room need) j ≡ min room (sum_up_to n key need j))
        → sum_up_to n key (allotment n key room need) i ≡ min room (sum_up_to n key need i)
    go (inl none) ih =
        omega (
          arith,
          sum_where-none n (λ k. stands_before key k i) (allotment n key room need) none,
          sum_where-none n (λ k. stands_before key k i) need none,
        )
    go (inr f) ih =
        omega (
          arith,
          last (allotment n key room need) f.0 f.1,
          last need f.0 f.1,
          ih f.0 f.1.below (omega (arith, last (λ _. 1) f.0 f.1)),
        )

pub allotment-shares : (n : ℕ) (key : ℕ → ℕ) (room : ℕ) (need : ℕ → ℕ) → SharesOut n key room need (allotment n key room need)
allotment-shares n key room need i lt = shares_by_rank n key room need (suc (sum_before n key (λ _. 1) i)) i lt (omega arith)

-- whether units are shared out by the order depends only on the shares of the tasks
pub shares-same : (n : ℕ) (key : ℕ → ℕ) (room : ℕ) (need a b : ℕ → ℕ) → ((k : ℕ) → k < n → a k ≡ b k)
    → SharesOut n key room need a → SharesOut n key room need b
shares-same n key room need a b e h i lt = grind (arith, nat_tests, sum_where-same)

-- an allotment depends only on the needs of the tasks
pub allotment-same : (n : ℕ) (key : ℕ → ℕ) (room : ℕ) (f g : ℕ → ℕ) → ((j : ℕ) → j < n → f j ≡ g j) → (k : ℕ) → k < n
    → allotment n key room f k ≡ allotment n key room g k
allotment-same n key room f g e k lt = grind (arith, nat_tests, sum_where-same)

-- if j comes before i, the need of the tasks up to j is at most the need of the tasks before i
pub up_to-before : (n : ℕ) (key f : ℕ → ℕ) (j i : ℕ) → j < n → stands_before key j i ≡ true → sum_up_to n key f j ≤ sum_before n key f i
up_to-before n key f j i lt h =
    let own : ℕ → ℕ = λ k. if eqb k j then f k else 0 in
    let a : sum_below n own ≡ f j = sum_below-own n j f lt in
    let b : sum_below n (λ k. (if stands_before key k j then f k else 0) + own k) ≡ sum_before n key f j + sum_below n own =
    sum_below-add n (λ k. if stands_before key k j then f k else 0) own in
    omega (
      arith,
      a,
      b,
      sum_below-le n (λ k. (if stands_before key k j then f k else 0) + own k)
          (λ k. if stands_before key k i then f k else 0) (λ k l. within k (eqb k j) refl (stands_before key k j) refl),
    )
  where
    lem : (a b c : Bool) → (b ≡ true → a ≡ true) → (c ≡ true → (a ≡ true) × (b ≡ false)) → (x : ℕ)
        → (if b then x else 0) + (if c then x else 0) ≤ (if a then x else 0)
    lem a b c p q x = grind (arith, nat_tests)

    within : (k : ℕ) (b : Bool) → eqb k j ≡ b → (c : Bool) → stands_before key k j ≡ c
        → (if stands_before key k j then f k else 0) + (if eqb k j then f k else 0) ≤ (if stands_before key k i then f k else 0)
    within k b e c g = lem (stands_before key k i) (stands_before key k j) (eqb k j)
        (λ q. before-trans key k j i q h) (λ q. (grind (arith, nat_tests), grind (arith, nat_tests))) (f k)

-- How far the units are handed out: `given` are the allotments of the units handed out so far, and `rest` are those
-- that are left of the room. While some are left, each task has all that it needs or nothing.
pub record IsHandedOut (n : ℕ) (key : ℕ → ℕ) (room : ℕ) (need given : ℕ → ℕ) (rest : ℕ) : Type 0 where
  pub rest_in : rest ≤ room
  pub given_is : (i : ℕ) → i < n → given i ≡ allotment n key (room - rest) need i
  pub all_or_none : 0 < rest → (i : ℕ) → i < n → (given i ≡ 0) ⊎ (given i ≡ need i)

-- while some units are left, the first open task has none, and as many are handed out as the tasks before it need
pub handed_before : (n : ℕ) (key : ℕ → ℕ) (room : ℕ) (need given : ℕ → ℕ) (rest : ℕ) → IsHandedOut n key room need given rest → 0 < rest
    → (i : ℕ) → IsFirstOpen n key need given i → (given i ≡ 0) × (room - rest ≡ sum_before n key need i)
handed_before n key room need given rest h pos i o = grind (arith, sum_below-same, before_gets, allotment-shares n key (room - rest) need)

-- at the start nothing is handed out
pub handed-start : (n : ℕ) (key : ℕ → ℕ) (room : ℕ) (need : ℕ → ℕ) → IsHandedOut n key room need (λ _. 0) room
handed-start n key room need = grind (arith, nat_tests)

-- the first open task gets what it needs, as far as units are left
pub handed-step : (n : ℕ) (key : ℕ → ℕ) (room : ℕ) (need given given' : ℕ → ℕ) (rest i : ℕ) → IsHandedOut n key room need given rest → 0 < rest
    → IsFirstOpen n key need given i
    → given' i ≡ given i + min rest (need i - given i)
    → ((k : ℕ) → k < n → k ≢ i → given' k ≡ given k)
    → IsHandedOut n key room need given' (rest - min rest (need i - given i))
handed-step n key room need given given' rest i h pos o here there = record {
  rest_in = omega (arith, h.rest_in);
  given_is = λ k lt. is k lt (eqb k i) refl (stands_before key k i) refl;
  all_or_none = λ pos' k lt. all k lt pos' (eqb k i) refl;
}
  where
    now : (given i ≡ 0) × (room - rest ≡ sum_before n key need i)
    now = handed_before n key room need given rest h pos i o

    is : (k : ℕ) → k < n → (b : Bool) → eqb k i ≡ b → (c : Bool) → stands_before key k i ≡ c
        → given' k ≡ allotment n key (room - (rest - min rest (need i - given i))) need k
    is k lt true e c g =
        let same : i ≡ k = grind (arith, nat_tests) in
        subst (λ m. given' m ≡ allotment n key (room - (rest - min rest (need i - given i))) need m) same
        (omega (arith, here, now.0, now.1, h.rest_in, o.needs))
    is k lt false e true g =
        omega (arith, there k lt (λ q. absurd (true≢false (grind (arith, nat_tests)))), h.given_is k lt, h.rest_in, now.1, up_to-before n key need k i lt g)
    is k lt false e false g =
        let after : stands_before key i k ≡ true = grind (arith, nat_tests) in
        omega (
          arith,
          there k lt (λ q. absurd (true≢false (grind (arith, nat_tests)))),
          h.given_is k lt,
          h.rest_in,
          now.0,
          now.1,
          up_to-before n key need i k o.below after,
        )

    all : (k : ℕ) → k < n → 0 < rest - min rest (need i - given i) → (b : Bool) → eqb k i ≡ b → (given' k ≡ 0) ⊎ (given' k ≡ need k)
    all k lt pos' b e = grind (arith, nat_tests)

-- if no unit is left or no task needs more, each task has its allotment
pub handed-end : (n : ℕ) (key : ℕ → ℕ) (room : ℕ) (need given : ℕ → ℕ) (rest : ℕ) → IsHandedOut n key room need given rest
    → (rest ≡ 0) ⊎ ((k : ℕ) → k < n → need k ≤ given k) → (i : ℕ) → i < n → given i ≡ allotment n key room need i
handed-end n key room need given rest h e i lt = grind (arith, nat_tests)

-- if task j gets some units, each task before it gets all that it needs
pub allotment-full : (n : ℕ) (key : ℕ → ℕ) (room : ℕ) (need : ℕ → ℕ) (k j : ℕ) → k < n → stands_before key k j ≡ true
    → 0 < allotment n key room need j → allotment n key room need k ≡ need k
allotment-full n key room need k j lt h pos = grind (arith, up_to-before)

-- if task j gets less than it needs, each task after it gets no unit
pub allotment-none : (n : ℕ) (key : ℕ → ℕ) (room : ℕ) (need : ℕ → ℕ) (j k : ℕ) → j < n → stands_before key j k ≡ true
    → allotment n key room need j < need j → allotment n key room need k ≡ 0
allotment-none n key room need j k lt h less = grind (arith, up_to-before)

pub allotment-most : (n : ℕ) (key : ℕ → ℕ) (room : ℕ) (need : ℕ → ℕ) (k : ℕ) → allotment n key room need k ≤ need k
allotment-most n key room need k = omega arith
