-- The loads of the tasks before a task in RM order, and what a fit beside them says of its response.
use Rattle.std.proofs.Common.{◌≡◌, inl, inr, ℕ, ◌+◌, ◌*◌, ◌^◌, ◌<◌, ◌≤◌, List, [], ◌∷◌, ◌++◌, length, take, drop, sym, ◌∙◌, ap, ap₂, subst, arith}
use Rattle.std.specs.Prelude.{All, insert, slice_index}
use Rattle.std.specs.Coded.{le_prop}
use mathlib.Core.HLevel.{is_prop→PathP}
use Rattle.std.proofs.Math.Nat.{le_of_mul-le-mul_left, lt_of_mul-lt-mul_left, mul-le-mul_right}
use Rattle.std.proofs.lemmas.Bool.{cases_lt}
use Rattle.std.proofs.lemmas.Nat.{mul-le}
use Rattle.std.proofs.lemmas.List.{take-append-drop, drop_more, take_more}
use Rattle.std.proofs.lemmas.List.Edits.{length-insert}
use Rattle.std.proofs.lemmas.List.Elements.{All-append, All-cons, All-drop, All-take}
use Rattle.std.proofs.lemmas.List.Sums.{sum_by-cons, sum_by-insert}
use Rattle.grid_fraction.specs.Numbers.{ceil_div}
use Rattle.freq_table.specs.Tables.{last_entry}
use Rattle.freq_table.specs.declared.limits.TheConstants.{TOP_SPEED}
use Rattle.dvs_base.specs.declared.limits.TheConstants.{MOST_TASKS}
use Rattle.task_model.specs.declared.limits.TheConstants.{LONGEST_PERIOD, LONGEST_HYPERPERIOD}
use Rattle.sched_model.specs.Plan.{Plan, count, period, worst, rate, top_speed, hyper}
use Rattle.sched_model.specs.Priority.{sum_before, in_order}
use Rattle.sched_model.specs.Admission.{IsWithinLimits}
use Rattle.sched_model.proofs.Limits.{period_divides}
use Rattle.sched_model.proofs.Orders.{sum_list, sum_list-snoc, sum_before-prefix, length-in_order}
use Rattle.rm_response_laws.specs.Responses.{response, HasResponse, IsUnserved}
use Rattle.rm_response_laws.specs.HeldWork.{held_work}
use Rattle.rm_response_laws.proofs.Ceilings.{ceil-after}
use Rattle.rm_response_laws.proofs.ResponseSearch.{response-bound, response-is, response-none}
use Rattle.rm_response.specs.declared.inputs.Load.{Load}
use Rattle.rm_response.specs.declared.inputs.Supply.{Supply}
use Rattle.rm_response.specs.Supplies.{IsDone, IsFull}
use Rattle.rm_response.specs.Loads.{held, work_of, IsLoadOf, HasRate, AreInTurn, AreBefore, IsAdded}
use Rattle.rm_response.specs.Fits.{IsFirstFit}
use Rattle.rm_response.proofs.OrderPlaces.{at-below}
use Rattle.rm_response.proofs.LoadFits.{held-once, work-later, put-in_turn}

-- the loads are the first k of the tasks js, those of equal periods as one
pub record AreFirst (p : Plan) (js : List ℕ) (k : ℕ) (xs : List Load) : Type 0 where
  pub long : length xs ≤ k
  pub rates : All (HasRate (hyper p)) xs
  pub in_turn : (s : Supply) → IsFull p s → AreInTurn s xs
  pub work : (t : ℕ) → work_of xs t ≡ sum_list (held_work p t) (take k js)

-- what holds of a list's elements and of one more holds of all if that is put in
all-insert : (P : Load → Type 0) (xs : List Load) (k : ℕ) (x : Load) → All P xs → P x → All P (insert xs k x)
all-insert P xs k x all here =
    All-append P (take k xs) (x ∷ drop k xs) (All-take P k xs all) (All-cons P x (drop k xs) here (All-drop P k xs all))

-- the whole processor is one supply
pub full-same : (p : Plan) (s r : Supply) → IsFull p s → IsFull p r → s ≡ r
full-same p s r is are =
    let speed = is.speed_is ∙ sym are.speed_is in
    let long = is.hyper_is ∙ sym are.hyper_is in
    let units = is.units_is ∙ sym are.units_is in
    λ i. record {
      speed = speed i;
      hyper = long i;
      units = units i;
      some_hyper = is_prop→PathP (λ j. 1 ≤ long j) (λ j. le_prop) s.some_hyper r.some_hyper i;
      low_hyper = is_prop→PathP (λ j. long j ≤ LONGEST_HYPERPERIOD) (λ j. le_prop) s.low_hyper r.low_hyper i;
      low_speed = is_prop→PathP (λ j. speed j ≤ TOP_SPEED) (λ j. le_prop) s.low_speed r.low_speed i;
      some_units = is_prop→PathP (λ j. 1 ≤ units j) (λ j. le_prop) s.some_units r.some_units i;
      within = is_prop→PathP (λ j. units j ≤ speed j * long j) (λ j. le_prop) s.within r.within i;
    }

-- a supply that is the whole processor does the highest speed in each tick
full-units : (p : Plan) (s : Supply) → IsFull p s → (t : ℕ) → s.units * t ≡ s.hyper * (top_speed p * t)
full-units p s full t =
    let all : s.units ≡ top_speed p * s.hyper = full.units_is ∙ ap (λ h. top_speed p * h) (sym full.hyper_is) in
    ap (λ u. u * t) all ∙ omega arith

module _ (p : Plan) (lim : IsWithinLimits p) (js : List ℕ) (is : js ≡ in_order (period p) (count p)) (k : ℕ) where
  module _ (xs : List Load) (are : AreFirst p js k xs) (below : k < length js) where
    abbrev j : ℕ
    j = slice_index js k

    -- the work of the first k tasks is that of the tasks before the next
    before-work : (t : ℕ) → work_of xs t ≡ sum_before (count p) (period p) (held_work p t) j
    before-work t =
        let parts : js ≡ take k js ++ j ∷ drop (k + 1) js =
        sym (take-append-drop k js) ∙ ap (λ ys. take k js ++ ys) (drop_more js k 0 below) in
        are.work t ∙ sym (sum_before-prefix (period p) (held_work p t) (count p) j (take k js) (drop (k + 1) js) (sym is ∙ parts))

    pub first-before : AreBefore p j xs
    first-before =
        let tasks = lim.tasks.few in
        let few : length xs ≤ MOST_TASKS = omega (arith, tasks, are.long, ap (length {A = ℕ}) is, length-in_order (period p) (count p)) in
        record {
          few = few;
          loads = λ s full. record {
            few = few;
            rates = subst (λ h. All (HasRate h) xs) (sym full.hyper_is) are.rates;
            in_turn = are.in_turn s full;
          };
          work = before-work;
        }

    -- the next task as a load, if it has a response
    module _ (x : Load) (of : IsLoadOf p j x) (has : HasResponse p j) where
      abbrev n : ℕ
      n = response p j

      served : held n x + work_of xs n ≤ top_speed p * n
      served =
          let bound = response-bound p j has in
          let own : held n x ≡ held_work p n j = ap₂ (λ d w. ceil_div n d * w) of.period_is of.worst_is in
          omega (arith, own, before-work n, bound.fits)

      -- its worst case and those of the loads are within what the processor does in its response
      pub first-low : x.worst + work_of xs 1 ≤ 2 ^ 61
      first-low =
          let bound = response-bound p j has in
          let own = held-once n x bound.some (omega (arith, bound.within, of.period_is)) in
          let point = lim.machine.each (last_entry p.machine) (let m = lim.machine.some in omega arith) in
          let speed : top_speed p ≤ TOP_SPEED = omega (arith, point.low_speed) in
          let most : top_speed p * n ≤ TOP_SPEED * LONGEST_PERIOD =
          mul-le (top_speed p) n TOP_SPEED LONGEST_PERIOD speed (omega (arith, bound.within, of.period_is, x.low_period)) in
          omega (arith, served, own, work-later 1 n xs bound.some, most)

      -- with it, put after some whose periods are at least its response, they are the first k + 1
      pub first-more : (ys : List Load) → IsAdded n x xs ys → AreFirst p js (k + 1) ys
      first-more ys added =
          let y = added.both in
          let others = added.others in
          let joined = added.joined in
          let put = added.put in
          let bound = response-bound p j has in
          let jobs = ap (λ m. worst p j * m) (period_divides p lim j (at-below (period p) (count p) js is k below)) in
          let rate : HasRate (hyper p) x =
          (let all : x.rate * x.period ≡ rate p j * period p j = ap₂ (λ r d. r * d) of.rate_is of.period_is in
          let units : x.worst * hyper p ≡ worst p j * hyper p = ap (λ w. w * hyper p) of.worst_is in
          omega (arith, all, units, jobs)) in
          let rates = joined.rates (hyper p) rate are.rates in
          let within : work_of (y ∷ others) n ≤ top_speed p * n =
          omega (arith, sum_by-cons (held n) y others, joined.work n, served) in
          let new : AreFirst p js (k + 1) (insert others put.place y) = record {
            long = omega (arith, length-insert others put.place y put.within, joined.fewer, are.long);
            rates = all-insert (HasRate (hyper p)) others put.place y rates.1 rates.0;
            in_turn = λ s full.
                let done : IsDone s (work_of (y ∷ others) n) n = omega (arith, mul-le-mul_right s.hyper within, full-units p s full n) in
                put-in_turn s n y others put.place (joined.in_turn s (are.in_turn s full)) bound.some
                (omega (arith, bound.within, joined.same_period, of.period_is)) done put.long;
            work = λ t.
                let sum = sum_list-snoc (held_work p t) (take k js) j in
                let more : sum_list (held_work p t) (take (k + 1) js) ≡ sum_list (held_work p t) (take k js ++ j ∷ []) =
                ap (sum_list (held_work p t)) (take_more js k 0 below) in
                let own : held t x ≡ held_work p t j = ap₂ (λ d w. ceil_div t d * w) of.period_is of.worst_is in
                omega (arith, sum_by-insert (held t) others put.place y, joined.work t, own, are.work t, sum, more);
          } in
          subst (AreFirst p js (k + 1)) (sym put.is) new

module _ (p : Plan) (i : ℕ) (xs : List Load) (before : AreBefore p i xs) where
  pub own-work : (t : ℕ) → 1 ≤ t → t ≤ period p i → held_work p t i ≡ worst p i
  own-work t pos le =
      let one : ceil_div t (period p i) ≡ 1 = ap (λ u. ceil_div u (period p i)) (omega arith) ∙ ceil-after 0 (period p i) t pos le in
      ap (λ n. n * worst p i) one ∙ omega arith

  -- if fewer ticks don't serve the level of task i, the first ticks from there on into which one job of it fits are its
  -- response
  pub first-is : (s : Supply) → IsFull p s → (from job last first : ℕ) → job ≡ worst p i → last ≡ period p i → 1 ≤ from
      → IsUnserved p i from → IsFirstFit s xs job from last first → first ≡ response p i
  first-is s full from job last first own long some un fit =
      elim (cases_lt (period p i) first) [
        | inl past ↦ omega (arith, response-none p i (λ t pos lt. unserved t pos (omega (arith, lt, past))), past, fit.before.within, long)
        | inr within ↦
            let pos : 1 ≤ first = omega (arith, some, fit.before.from) in
            let done = fit.fit (omega (arith, within, long)) in
            let served : job + work_of xs first ≤ top_speed p * first =
            le_of_mul-le-mul_left {k = s.hyper} (omega (arith, done, full-units p s full first)) s.some_hyper in
            sym (response-is p i first pos within unserved (omega (arith, own-work first pos within, own, served, before.work first)))
      ]
    where
      unserved : IsUnserved p i first
      unserved t pos lt =
          elim (cases_lt t from) [
            | inl early ↦ un t pos early
            | inr after ↦
                let more = fit.before.none t after lt in
                let over : top_speed p * t < job + work_of xs t =
                lt_of_mul-lt-mul_left s.hyper (omega (arith, more, full-units p s full t)) in
                omega (arith, own-work t pos (omega (arith, lt, fit.before.within, long)), own, over, before.work t)
          ]
