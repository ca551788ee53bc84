-- What the search for a response finds.
use Rattle.std.proofs.Common.{◌≡◌, ◌⊎◌, inl, inr, ℕ, zero, suc, ◌+◌, ◌*◌, ◌≤◌, ◌<◌, Bool, true, false, refl, arith}
use Rattle.std.proofs.lemmas.Bool.{le-leb, leb-true, cases_lt}
use Rattle.std.proofs.lemmas.Bool.Decides.{nat_tests}
use Rattle.grid_fraction.specs.Numbers.{first_from}
use Rattle.grid_fraction.proofs.Searches.{first_from-before, first_from-most, first_from-none}
use Rattle.sched_model.specs.Plan.{Plan, count, period, top_speed}
use Rattle.sched_model.specs.Priority.{stands_before}
use Rattle.sched_model.proofs.Allotments.{up_to-before}
use Rattle.governor.specs.Worst.{level_work_in}
use Rattle.rm_response_laws.specs.Responses.{is_level_served, IsUnserved, response, HasResponse}
use Rattle.rm_response_laws.specs.HeldWork.{held_work}
use Rattle.rm_response_laws.proofs.BusyStretches.{IsBound}

-- m is where a search of n numbers from `from` on ends: at a number that passes, or past the last one
abbrev EndsAt : ℕ → ℕ → (ℕ → Bool) → ℕ → Type 0
EndsAt n from test m = (from ≤ m) × ((test m ≡ true) ⊎ (m ≡ from + n))

search-ends : (n from : ℕ) (test : ℕ → Bool) → EndsAt n from test (first_from n from test)
search-ends zero from test = (omega arith, inr (omega arith))
search-ends (suc n) from test = go (test from) refl (search-ends n (suc from) test)
  where
    go : (b : Bool) → test from ≡ b → EndsAt n (suc from) test (first_from n (suc from) test)
        → EndsAt (suc n) from test (first_from (suc n) from test)
    go true e r = (rw (e, first_from) (omega arith), inl (rw (e, first_from) e))
    go false e r = (
      rw (e, first_from) (let g = r.0 in omega arith),
      elim r.1 [
        | inl found ↦ inl (rw (e, first_from) found)
        | inr past ↦ inr (rw (e, first_from) (omega (arith, past)))
      ],
    )

-- in fewer ticks than the response the level asks for more than the highest speed does
pub before-response : (p : Plan) (i : ℕ) → IsUnserved p i (response p i)
unfolding response
before-response p i u pos lt =
    let none : is_level_served p i u ≡ false = first_from-before (period p i) 1 u (is_level_served p i) pos lt in
    grind (arith, nat_tests, none)

-- a response bounds the level's busy stretches
pub response-bound : (p : Plan) (i : ℕ) → HasResponse p i → IsBound p i (response p i)
unfolding response
response-bound p i has =
    let ends = search-ends (period p i) 1 (is_level_served p i) in
    record {
      some = (let g = ends.0 in omega arith);
      within = has;
      fits =
          elim ends.1 [
            | inl found ↦ leb-true (level_work_in p (response p i) i) (top_speed p * response p i) found
            | inr past ↦ absurd (omega (arith, past))
          ];
    }

-- the response is at most any number of ticks that serves
response-most : (p : Plan) (i t : ℕ) → 1 ≤ t → level_work_in p t i ≤ top_speed p * t → response p i ≤ t
unfolding response
response-most p i t pos served =
    first_from-most (period p i) 1 t (is_level_served p i) pos (le-leb (level_work_in p t i) (top_speed p * t) served)

-- ticks that serve, if no fewer do, are the response
pub response-is : (p : Plan) (i t : ℕ) → 1 ≤ t → t ≤ period p i → IsUnserved p i t
    → level_work_in p t i ≤ top_speed p * t → response p i ≡ t
response-is p i t pos le un served =
    let most = response-most p i t pos served in
    elim (cases_lt (response p i) t) [
      | inl below ↦
          let bound = response-bound p i (omega arith) in
          let over = un (response p i) bound.some below in
          absurd (omega (arith, bound.fits))
      | inr same ↦ omega arith
    ]

-- if no ticks up to the period serve, there is no response
pub response-none : (p : Plan) (i : ℕ) → IsUnserved p i (suc (period p i)) → response p i ≡ 1 + period p i
unfolding response
response-none p i un =
    first_from-none (period p i) 1 (is_level_served p i)
    (λ u a b. let over = un u a (omega arith) in grind (arith, nat_tests, over))

-- fewer ticks than the response of a task before task i don't serve the level of task i
pub unserved-before : (p : Plan) (i k : ℕ) → k < count p → stands_before (period p) k i ≡ true
    → IsUnserved p i (response p k)
unserved-before p i k h on u pos lt =
    let first = before-response p k u pos lt in
    let within = up_to-before (count p) (period p) (held_work p u) k i h on in
    omega (arith, first, within)
