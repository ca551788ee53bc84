-- How responses become known in RM order, up to the first task without one, and what they say about the plan.
use Rattle.std.proofs.Common.{◌≡◌, ℕ, ◌+◌, ◌<◌, ◌≤◌, Bool, true, false, List, length, drop, length-set, get_or-set_same, get_or-set_other, refl, sym, ◌∙◌, arith, subst, nat_lt}
use Rattle.std.specs.Prelude.{slice_index, slice_set}
use Rattle.std.specs.List.{find}
use borrow.Author.Tests.{ltb-true, lt-ltb}
use Rattle.std.proofs.lemmas.Bool.{cases_eq}
use Rattle.std.proofs.lemmas.Bool.Decides.{nat_tests}
use Rattle.std.proofs.lemmas.List.{ext_get_or, at_drop_more}
use Rattle.grid_fraction.proofs.Searches.{below_suc}
use Rattle.sched_model.specs.Plan.{Plan, count, period, offset}
use Rattle.sched_model.specs.Priority.{stands_before, in_order}
use Rattle.grid_fraction.proofs.Tables.{get-table, length-list_below}
use Rattle.rm_response_laws.specs.Responses.{response, HasResponse, EarlierRespond, IsUnserved, AllRespond, IsFirstDoneAt}
use Rattle.rm_response_laws.proofs.ResponseSearch.{response-bound, unserved-before}
use Rattle.dvs_base.specs.declared.kind.Scheduler.TheVariants.{Rm}
use Rattle.sched_model.specs.Admission.{IsWithinLimits}
use Rattle.task_model.specs.Tasks.{NoneOffset}
use Rattle.rm_response_laws.proofs.ResponseMeaning.{first-at-response}
use Rattle.rm_response.specs.Denials.{responses, AreLeast}
use Rattle.rm_response.specs.Known.{AreAllKnown, late_task}
use Rattle.rm_response.proofs.OrderPlaces.{at-below, at-ordered, at-all}

-- whether a task has no response
abbrev pub is_late : Plan → ℕ → Bool
is_late p i = nat_lt (period p i) (response p i)

-- Of the tasks js the first k have responses, which are their entries, so none of them is the first task without one.
-- Fewer than `from` ticks, which are some, don't serve the level of any of the others.
pub record AreKnown (p : Plan) (js : List ℕ) (k from : ℕ) (entries : List ℕ) : Type 0 where
  pub one_each : length entries ≡ count p
  pub known : (m : ℕ) → m < k → slice_index entries (slice_index js m) ≡ response p (slice_index js m)
  pub timely : (m : ℕ) → m < k → HasResponse p (slice_index js m)
  pub some : 1 ≤ from
  pub unserved : (m : ℕ) → k ≤ m → m < length js → IsUnserved p (slice_index js m) from
  pub found : late_task p ≡ find (is_late p) (drop k js)

module _ (p : Plan) (js : List ℕ) (is : js ≡ in_order (period p) (count p)) (k from : ℕ) (entries : List ℕ)
    (are : AreKnown p js k from entries) where
  abbrev task : ℕ
  task = slice_index js k

  pub earlier : k < length js → EarlierRespond p task
  earlier h = at-all (period p) (count p) js is (λ i. stands_before (period p) i task ≡ true → HasResponse p i) (λ m g before.
      are.timely m (ltb-true m k (sym (at-ordered (period p) (count p) js is m k g h) ∙ before)))

  -- the response of the next task becomes known, and bounds the others from below
  pub known-next : k < length js → HasResponse p task
      → AreKnown p js (k + 1) (response p task) (slice_set entries task (response p task))
  known-next h has =
      let below : task < count p = at-below (period p) (count p) js is k h in
      let in_time : is_late p task ≡ false = grind (arith, nat_tests) in
      record {
        one_each = length-set entries task (response p task) ∙ are.one_each;
        known = λ m lt. grind (arith, get_or-set_same, get_or-set_other, cases_eq (slice_index js m) task, are.known m, below);
        timely = λ m lt. below_suc (λ m. HasResponse p (slice_index js m)) k are.timely has m (omega arith);
        some = (response-bound p task has).some;
        unserved = λ m le lt.
            unserved-before p (slice_index js m) task below
            (at-ordered (period p) (count p) js is k m h lt ∙ lt-ltb k m (omega arith));
        found = are.found ∙ (at_drop_more (find (is_late p)) js k 0 h ∙ rw in_time refl);
      }

  -- at the end all responses are known
  pub known-all : length js ≤ k → AreAllKnown p entries
  known-all end = record {
    all = at-all (period p) (count p) js is (HasResponse p) (λ m lt. are.timely m (omega (arith, lt, end)));
    are =
        ext_get_or 0 entries (responses p) (are.one_each ∙ sym (length-list_below (count p) (response p)))
        (λ i lt.
        let h : i < count p = omega (arith, are.one_each) in
        at-all (period p) (count p) js is (λ i. slice_index entries i ≡ response p i)
        (λ m lt. are.known m (omega (arith, lt, end))) i h
        ∙ sym (get-table (count p) (response p) i 0 h));
  }

-- if each task has a response, each is the least tick at which the task's first job is complete
pub are-least : (p : Plan) → IsWithinLimits p → p.scheduler ≡ Rm → NoneOffset (offset p) (count p)
    → AllRespond p → AreLeast p (responses p)
are-least p lim rm none all i h =
    subst (IsFirstDoneAt p i) (sym (get-table (count p) (response p) i 0 h))
    (first-at-response p lim rm i h none (λ j hj b. all j hj) (all i h))
