-- The first task in RM order that fails the test, among the tasks seen so far.
use Rattle.std.proofs.Common.{◌≡◌, ℕ, ◌+◌, ◌*◌, ◌<◌, ◌≤◌, Bool, true, false, Option, Some, None, MatchOption, if◌then◌else◌, refl, arith, sym, ◌∙◌, add-one, true≢false}
use Rattle.grid_fraction.proofs.Searches.{below_suc}
use Rattle.sched_model.specs.Plan.{Plan, period, top_speed}
use Rattle.sched_model.specs.Priority.{stands_before, earlier_of}
use Rattle.sched_model.specs.Tests.{level_work}
use Rattle.sched_model.proofs.Orders.{before-self, before-trans}
use Rattle.rm_admit.specs.Denials.{IsOverloaded}

-- no task below m fails the test
abbrev pub NoneBelow : Plan → ℕ → Type 0
NoneBelow p m = (k : ℕ) → k < m → level_work p k ≤ top_speed p * period p k

-- of the tasks below m, task i is the first in RM order that fails the test
pub record IsFirstBelow (p : Plan) (m i : ℕ) : Type 0 where
  pub task : i < m
  pub fails : IsOverloaded p i
  pub first : (k : ℕ) → k < m → stands_before (period p) k i ≡ true → level_work p k ≤ top_speed p * period p k

-- `first` is the first task below m that fails the test, or none does
abbrev pub Known : Plan → ℕ → Option ℕ → Type 0
Known p m first = MatchOption first (NoneBelow p m) (IsFirstBelow p m)

pub known_passes : (p : Plan) (m : ℕ) (first : Option ℕ) → Known p m first → level_work p m ≤ top_speed p * period p m → Known p (m + 1) first
known_passes p m None h pass = rw add-one (below_suc (λ k. level_work p k ≤ top_speed p * period p k) m h pass)
known_passes p m (Some i) h pass = record {
  task = omega (arith, h.task);
  fails = h.fails;
  first = rw add-one (below_suc (λ k. stands_before (period p) k i ≡ true → level_work p k ≤ top_speed p * period p k) m h.first (λ _. pass));
}

pub known_fails : (p : Plan) (m : ℕ) (first : Option ℕ) → Known p m first → IsOverloaded p m → Known p (m + 1) (Some (earlier_of (period p) first m))
known_fails p m None h fail = record {
  task = omega arith;
  fails = fail;
  first = rw add-one (below_suc (λ k. stands_before (period p) k m ≡ true → level_work p k ≤ top_speed p * period p k) m
      (λ k lt b. h k lt) (λ b. absurd (true≢false (sym b ∙ before-self (period p) m))));
}
known_fails p m (Some i) h fail = go (stands_before (period p) m i) refl
  where
    go : (b : Bool) → stands_before (period p) m i ≡ b → IsFirstBelow p (m + 1) (if b then m else i)
    go true e = record {
      task = omega arith;
      fails = fail;
      first = rw add-one (below_suc (λ k. stands_before (period p) k m ≡ true → level_work p k ≤ top_speed p * period p k) m
          (λ k lt b. h.first k lt (before-trans (period p) k m i b e)) (λ b. absurd (true≢false (sym b ∙ before-self (period p) m))));
    }
    go false e = record {
      task = omega (arith, h.task);
      fails = h.fails;
      first = rw add-one (below_suc (λ k. stands_before (period p) k i ≡ true → level_work p k ≤ top_speed p * period p k) m h.first
          (λ b. absurd (true≢false (sym b ∙ e))));
    }
