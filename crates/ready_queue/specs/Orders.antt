-- Orders on the entries of different tasks.
use Rattle.std.specs.Prelude.{◌≡◌, ◌≢◌, ℕ, Bool, true, false, ◌||◌, ◌&&◌, nat_eq, nat_lt}
use Rattle.std.proofs.Common.{arith}
use Rattle.std.proofs.lemmas.Bool.Decides.{nat_tests}
use Rattle.ready_queue.specs.declared.entry.Entry.{Entry}

-- a strict total order on the entries of different tasks
pub record OrderLaws (before : Entry → Entry → Bool) : Type 0 where
  pub one_way : (a b : Entry) → a.task ≢ b.task → before a b ≡ true → before b a ≡ false
  pub total : (a b : Entry) → a.task ≢ b.task → before a b ≡ false → before b a ≡ true
  pub transitive : (a b c : Entry) → a.task ≢ b.task → b.task ≢ c.task → a.task ≢ c.task
      → before a b ≡ true → before b c ≡ true → before a c ≡ true

-- the order by a key, and among equal keys by the task
abbrev pub before_by : (Entry → ℕ) → Entry → Entry → Bool
before_by key a b = nat_lt (key a) (key b) || (nat_eq (key a) (key b) && nat_lt a.task b.task)

-- the order by any key is a strict total order on the entries of different tasks
pub before_by-laws : (key : Entry → ℕ) → OrderLaws (before_by key)
before_by-laws key = record {
  one_way = λ a b ne h. grind (arith, nat_tests);
  total = λ a b ne h. grind (arith, nat_tests);
  transitive = λ a b c ab bc ac h g. grind (arith, nat_tests);
}

-- the order by the deadline or the next release
abbrev pub due_before : Entry → Entry → Bool
due_before = before_by (λ e. e.due)

-- the order by the deadline is a strict total order on the entries of different tasks
pub due_laws : OrderLaws due_before
due_laws = before_by-laws (λ e. e.due)

-- the order by the period
abbrev pub period_before : Entry → Entry → Bool
period_before = before_by (λ e. e.period)

-- the order by the period is a strict total order on the entries of different tasks
pub period_laws : OrderLaws period_before
period_laws = before_by-laws (λ e. e.period)
