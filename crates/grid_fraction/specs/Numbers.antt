-- Sums, lists, least values and searches over the numbers below n.
use Rattle.std.specs.Prelude.{ℕ, zero, suc, ◌+◌, ◌-◌, ◌/◌, min, max, Bool, true, false, ◌||◌, not, if◌then◌else◌, List, [], ◌∷◌, ◌++◌}

-- f 0 + f 1 + .. + f (n - 1)
abbrev pub sum_below : ℕ → (ℕ → ℕ) → ℕ
sum_below zero f = 0
sum_below (suc n) f = sum_below n f + f n

-- the sum of f over the numbers below n that pass the test
abbrev pub sum_where : ℕ → (ℕ → Bool) → (ℕ → ℕ) → ℕ
sum_where n test f = sum_below n (λ j. if test j then f j else 0)

-- whether some number below n passes the test
abbrev pub any_below : ℕ → (ℕ → Bool) → Bool
any_below zero test = false
any_below (suc n) test = any_below n test || test n

-- whether all numbers below n pass the test
abbrev pub all_below : ℕ → (ℕ → Bool) → Bool
all_below n test = not (any_below n (λ j. not (test j)))

-- the least of f 0 .. f (n - 1), if n is at least 1
abbrev pub least_below : ℕ → (ℕ → ℕ) → ℕ
least_below zero f = 0
least_below (suc zero) f = f 0
least_below (suc (suc n)) f = min (least_below (suc n) f) (f (suc n))

-- the greatest of f 0 .. f (n - 1), and 0 if n is 0
abbrev pub greatest_below : ℕ → (ℕ → ℕ) → ℕ
greatest_below zero f = 0
greatest_below (suc n) f = max (greatest_below n f) (f n)

-- the first of from, from + 1, .. from + n - 1 that passes the test, otherwise from + n
abbrev pub first_from : ℕ → ℕ → (ℕ → Bool) → ℕ
first_from zero from test = from
first_from (suc n) from test = elim (test from) [ true ↦ from | false ↦ first_from n (suc from) test ]

-- the last of the numbers 1 to t that passes the test, and 0 if none does
abbrev pub last_up_to : ℕ → (ℕ → Bool) → ℕ
last_up_to zero test = 0
last_up_to (suc t) test = elim (test (suc t)) [ true ↦ suc t | false ↦ last_up_to t test ]

-- n / d, rounded up
abbrev pub ceil_div : ℕ → ℕ → ℕ
ceil_div n d = (n + (d - 1)) / d

-- f 0, f 1, .. f (n - 1)
abbrev pub list_below : {A : Type 0} → ℕ → (ℕ → A) → List A
list_below zero f = []
list_below (suc n) f = list_below n f ++ f n ∷ []
