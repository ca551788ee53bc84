-- Sums over sets of tasks, term by term, and over the level of a task.
use Rattle.std.proofs.Common.{◌≡◌, ℕ, zero, suc, ◌+◌, ◌-◌, ◌*◌, ◌<◌, ◌≤◌, min, Bool, true, refl, arith, if◌then◌else◌, ◌∙◌, sym, subst, mul-zero}
use Rattle.std.proofs.lemmas.Bool.Decides.{nat_tests}
use Rattle.grid_fraction.specs.Numbers.{sum_below, sum_where, greatest_below}
use Rattle.sched_model.specs.Priority.{stands_before, is_up_to, sum_up_to, SharesOut}
use Rattle.grid_fraction.proofs.Sums.{sum_below-same, sum_below-add, sum_below-zero, sum_below-le}
use Rattle.sched_model.proofs.Allotments.{allotment_of, sum_where-last, down-set-gets}

if-mono : (b : Bool) (x y : ℕ) → (b ≡ true → x ≤ y) → (if b then x else 0) ≤ (if b then y else 0)
if-mono b x y h = grind arith

if-plus : (b : Bool) (x y : ℕ) → (if b then x + y else 0) ≡ (if b then x else 0) + (if b then y else 0)
if-plus b x y = grind arith

if-times : (b : Bool) (h x : ℕ) → h * (if b then x else 0) ≡ (if b then h * x else 0)
if-times b h x = grind arith

pub sum_where-mono : (n : ℕ) (test : ℕ → Bool) (f g : ℕ → ℕ) → ((k : ℕ) → k < n → test k ≡ true → f k ≤ g k) → sum_where n test f ≤ sum_where n test g
sum_where-mono n test f g h = grind (arith, nat_tests, if-mono, sum_below-le)

pub sum_where-plus : (n : ℕ) (test : ℕ → Bool) (f g : ℕ → ℕ) → sum_where n test (λ k. f k + g k) ≡ sum_where n test f + sum_where n test g
sum_where-plus n test f g =
    sum_below-same n (λ k. if test k then f k + g k else 0) (λ k. (if test k then f k else 0) + (if test k then g k else 0))
    (λ k lt. if-plus (test k) (f k) (g k))
    ∙ sum_below-add n (λ k. if test k then f k else 0) (λ k. if test k then g k else 0)

pub sum_below-times : (n h : ℕ) (f : ℕ → ℕ) → h * sum_below n f ≡ sum_below n (λ k. h * f k)
sum_below-times zero h f = mul-zero h
sum_below-times (suc n) h f = omega (arith, sum_below-times n h f)

pub sum_where-times : (n h : ℕ) (test : ℕ → Bool) (f : ℕ → ℕ) → h * sum_where n test f ≡ sum_where n test (λ k. h * f k)
sum_where-times n h test f = grind (arith, nat_tests, sum_below-times, sum_below-same, if-times)

pub sum_below-term : (n : ℕ) (f : ℕ → ℕ) (i : ℕ) → i < n → f i ≤ sum_below n f
sum_below-term zero f i lt = absurd (omega arith)
sum_below-term (suc n) f i lt = grind (arith, sum_below-term n f i)

pub sum_where-term : (n : ℕ) (test : ℕ → Bool) (f : ℕ → ℕ) (i : ℕ) → i < n → test i ≡ true → f i ≤ sum_where n test f
sum_where-term n test f i lt on =
    let all = sum_below-term n (λ k. if test k then f k else 0) i lt in
    subst (λ (b : Bool). (if b then f i else 0) ≤ sum_where n test f) on all

-- if each term of g is at most that of f, and the sum of f at most that of g, each term of f is at most that of g
pub sum_where-tight : (n : ℕ) (test : ℕ → Bool) (f g : ℕ → ℕ) → ((k : ℕ) → k < n → g k ≤ f k) → sum_where n test f ≤ sum_where n test g
    → (i : ℕ) → i < n → test i ≡ true → f i ≤ g i
sum_where-tight n test f g below tight i lt on =
    let both : sum_where n test (λ k. g k + (f k - g k)) ≤ sum_where n test f = sum_where-mono n test (λ k. g k + (f k - g k)) f
    (λ k l t. let b = below k l in omega arith) in
    let split = sum_where-plus n test g (λ k. f k - g k) in
    let mine : f i - g i ≤ sum_where n test (λ k. f k - g k) = sum_where-term n test (λ k. f k - g k) i lt on in
    omega (arith, both, split, mine)

pub sum_where-all : (n : ℕ) (test : ℕ → Bool) (f g : ℕ → ℕ) → ((k : ℕ) → k < n → f k ≤ g k) → sum_where n test f ≤ sum_below n g
sum_where-all n test f g h = grind (arith, nat_tests, sum_below-le)

pub sum_where-zero : (n : ℕ) (test : ℕ → Bool) (f : ℕ → ℕ) → ((k : ℕ) → k < n → test k ≡ true → f k ≡ 0) → sum_where n test f ≡ 0
sum_where-zero n test f h = grind (arith, nat_tests, sum_below-zero)

pub up_to-self : (key : ℕ → ℕ) (i : ℕ) → is_up_to key i i ≡ true
up_to-self key i = grind (arith, nat_tests)

pub up_to-trans : (key : ℕ → ℕ) (j k i : ℕ) → stands_before key j k ≡ true → is_up_to key i k ≡ true → is_up_to key i j ≡ true
up_to-trans key j k i h g = grind (arith, nat_tests)

-- the sum over task i and those before it is the sum over those that are up to i
pub sum_up_to-where : (n : ℕ) (key f : ℕ → ℕ) (i : ℕ) → i < n → sum_up_to n key f i ≡ sum_where n (is_up_to key i) f
sum_up_to-where n key f i lt =
    sym (sum_where-last n key (is_up_to key i) f i (λ j k lj lk b t. up_to-trans key j k i b t)
    (record { below = lt; passes = up_to-self key i; last = λ k l on. grind (arith, nat_tests, on) }))

-- a level gets the smaller of the room and what it needs
pub level-gets : (n : ℕ) (key : ℕ → ℕ) (room : ℕ) (need given : ℕ → ℕ) → SharesOut n key room need given
    → (i : ℕ) → sum_where n (is_up_to key i) given ≡ min room (sum_where n (is_up_to key i) need)
level-gets n key room need given h i = grind (arith, nat_tests, down-set-gets n key, up_to-trans key)

-- no task gets more than it needs
pub share-most : (n : ℕ) (key : ℕ → ℕ) (room : ℕ) (need given : ℕ → ℕ) → SharesOut n key room need given
    → (i : ℕ) → i < n → given i ≤ need i
share-most n key room need given h i lt = omega (arith, allotment_of n key room need given h i lt)

pub greatest-above : (n : ℕ) (f : ℕ → ℕ) (i : ℕ) → i < n → f i ≤ greatest_below n f
greatest-above zero f i lt = absurd (omega arith)
greatest-above (suc n) f i lt = grind (arith, greatest-above n f i)

pub greatest-least : (n : ℕ) (f : ℕ → ℕ) (t : ℕ) → ((k : ℕ) → k < n → f k ≤ t) → greatest_below n f ≤ t
greatest-least zero f t h = omega arith
greatest-least (suc n) f t h = omega (arith, greatest-least n f t (λ k lt. h k (omega arith)), h n (omega arith))

pub greatest-same : (n : ℕ) (f g : ℕ → ℕ) → ((k : ℕ) → k < n → f k ≡ g k) → greatest_below n f ≡ greatest_below n g
greatest-same zero f g h = refl
greatest-same (suc n) f g h = omega (arith, greatest-same n f g (λ k lt. h k (omega arith)), h n (omega arith))
