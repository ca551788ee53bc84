-- Ticks of a span in which one job has every unit, or nobody: any number of them is one step.
use Rattle.std.proofs.Common.{◌≡◌, ℕ, zero, suc, ◌+◌, ◌-◌, ◌*◌, ◌<◌, min, true, false, not, ◌&&◌, ◌||◌, length, set, refl, arith, if◌then◌else◌, ap, ap₂, ◌∙◌, sym, subst, inl, inr, nat_eq, nat_lt, true≢false}
use Rattle.std.specs.Prelude.{Option, None, Some}
use Rattle.std.proofs.lemmas.Bool.Decides.{nat_tests}
use Rattle.std.proofs.lemmas.Bool.{and_right}
use Rattle.std.proofs.lemmas.List.{set-set}
use Rattle.grid_fraction.proofs.Searches.{any_below-none}
use Rattle.grid_fraction.proofs.Least.{least-same}
use Rattle.dvs_base.specs.declared.kind.Scheduler.{Scheduler}
use Rattle.dvs_base.specs.declared.kind.Scheduler.TheVariants.{Edf, Rm}
use Rattle.sched_model.specs.declared.state.Row.{Row}
use Rattle.sched_model.specs.declared.holder.Holder.{Holder}
use Rattle.sched_model.specs.declared.holder.Holder.TheVariants.{Nobody, Held}
use Rattle.sched_model.specs.Plan.{Plan, count}
use Rattle.sched_model.specs.States.{row_at, after_advance, StateView, key_in}
use Rattle.sched_model.specs.Priority.{stands_before}
use Rattle.sched_model.proofs.Orders.{before-self}
use Rattle.sched_model.proofs.PieceLemmas.{same_holder-refl}
use Rattle.governor.specs.Meanings.{OwnDemand}
use Rattle.event_kernel.specs.declared.span_trace.SpanTrace.{SpanTrace}
use Rattle.event_kernel.specs.Segment.{after_segment, is_turn, with_units, after_units, holder_at, IsFirst}
use Rattle.agenda.proofs.StateQueues.{row-here, by-row}
use Rattle.event_kernel.specs.Tickwork.{after_service, gives}
use Rattle.event_kernel.specs.Boundary.{some_due}
use Rattle.event_kernel.specs.declared.progress.Setting.{Setting}
use Rattle.event_kernel.specs.declared.in_force.InForce.{InForce}
use Rattle.event_kernel.proofs.PlanBounds.{parts_of}
use Rattle.event_kernel.specs.Settings.{AreQuiet, IsInSpan, HasWorked, next_event}
use Rattle.event_kernel.proofs.UnitLoop.{HoldsHanded, some-speed, begin, rows-there, turned, idled, full, finished}
use Rattle.event_kernel.proofs.SpanSteps.{goes-on}

-- the units of a tick and of n more
abbrev pub units_in : ℕ → ℕ → ℕ
units_in f zero = f
units_in f (suc n) = units_in f n + f

pub units_in-is : (f n : ℕ) → units_in f n ≡ suc n * f
units_in-is f zero = omega arith
units_in-is f (suc n) = omega (arith, units_in-is f n)

-- a state at a later tick, after units of a task whose job is still not done
abbrev pub run_on : StateView → ℕ → ℕ → ℕ → StateView
run_on s i units to = after_advance (after_service s i units false) to

-- further units of the open segment's holder don't end the segment
module _ (h : Holder) (m : ℕ) (some : 0 < m) (q : SpanTrace) where
  no_turn : is_turn (with_units h m q) h ≡ false
  no_turn = ap (λ b. nat_lt 0 (q.segment.units + m) && not b) (same_holder-refl h) ∙ and_right (nat_lt 0 (q.segment.units + m)) false refl

  more_units : (p : Plan) (s : StateView) (force : InForce) (n : ℕ) → after_units p s force h n (with_units h m q) ≡ with_units h (m + n) q
  more_units p s force n =
      ap (λ b. with_units h n (if b then after_segment p s force (with_units h m q) else with_units h m q)) no_turn
      ∙ ap (λ u. record { segment = record { holder = h; start = q.segment.start; units = u }; notes = q.notes }) (omega arith)

-- the rows after units of the first task whose row is not done, if there is one
module _ (st : StateView) (m : ℕ) (p : Plan) (rows : length st.rows ≡ count p) where
  abbrev served : ℕ → Row
  served i = record (row_at st i) { used = (row_at st i).used + m; done = false }

  first-row : {first : Option ℕ} {i : ℕ} → first ≡ Some i → i < count p → row_at (gives st first m) i ≡ served i
  first-row {first} {i} is lt =
      subst (λ o. row_at (gives st o m) i ≡ served i) (sym is) (row-here st i (served i) (omega (arith, lt, rows)))

  due-on : (first : Option ℕ) → IsFirst p st first → (k : ℕ) → (row_at (gives st first m) k).deadline ≡ (row_at st k).deadline
  due-on None is k = refl
  due-on (Some i) is k =
      by-row st i (served i) (omega (arith, is.below, rows)) (λ j r. r.deadline ≡ (row_at st j).deadline) refl (λ j ne. refl) k

  first-on : (first : Option ℕ) → IsFirst p st first → (a : ℕ) → IsFirst p (after_advance (gives st first m) a) first
  first-on None is a = is
  first-on (Some i) is a = record {
    below = is.below;
    open_job = ap (λ (r : Row). r.done) (first-row {first = Some i} refl is.below);
    first = by-row st i (served i) (omega (arith, is.below, rows))
        (λ k r. k < count p → stands_before (key_in p.scheduler p (run_on st i m a)) k i ≡ true → r.done ≡ true)
        (λ l b. absurd (true≢false (sym b ∙ before-self (key_in p.scheduler p (run_on st i m a)) i)))
        (λ k ne l b. is.first k l (ap₂ (λ x y. nat_lt x y || (nat_eq x y && nat_lt k i)) (key-is p.scheduler k) (key-is p.scheduler i) ∙ b));
  }
    where
      key-is : (s : Scheduler) (k : ℕ) → key_in s p st k ≡ key_in s p (run_on st i m a) k
      key-is Edf k = sym (due-on (Some i) is k)
      key-is Rm k = refl

  holder-on : (first : Option ℕ) → IsFirst p st first → holder_at (gives st first m) first ≡ holder_at st first
  holder-on None is = refl
  holder-on (Some i) is = ap (λ (r : Row). Held i r.job) (first-row {first = Some i} refl is.below)

  -- two steps are one step of both units
  gives-on : (first : Option ℕ) → IsFirst p st first → (n a b : ℕ)
      → after_advance (gives (after_advance (gives st first m) a) first n) b ≡ after_advance (gives st first (m + n)) b
  gives-on None is n a b = refl
  gives-on (Some i) is n a b =
      ap (λ (r : Row). record st { now = b; rows = set (set st.rows i (served i)) i (record r { used = r.used + n; done = false }) })
      (first-row {first = Some i} refl is.below)
      ∙ (ap (λ rows. record st { now = b; rows = rows }) (set-set st.rows i _ _)
      ∙ ap (λ u. record st { now = b; rows = set st.rows i (record (row_at st i) { used = u; done = false }) }) (omega arith))

-- units release no job, so the next event stays
pub event-on : (set : Setting) (st : StateView) (m a : ℕ) (first : Option ℕ) → length st.rows ≡ count set.plan.now → IsFirst set.plan.now st first
    → next_event set st ≡ next_event set (after_advance (gives st first m) a)
event-on set st m a first rows is =
    ap (min set.ticks) (least-same (count set.plan.now) (λ k. (row_at st k).deadline) (λ k. (row_at (gives st first m) k).deadline)
    (λ k lt. sym (due-on st m set.plan.now rows first is k)))

module _ (set : Setting) (force : InForce) where
  open parts_of set use {p, dem}

  abbrev pub f : ℕ
  f = force.speed

  -- no job is released up to the tick n
  abbrev pub QuietTo : ℕ → StateView → Type 0
  QuietTo n st = (k : ℕ) → k < count p → n < (row_at st k).deadline

  -- the first row that is not done has more to do than these units, if there is one
  abbrev NeedsMore : StateView → Option ℕ → ℕ → Type 0
  NeedsMore st first units = (i : ℕ) → first ≡ Some i → (row_at st i).used + units < dem i (row_at st i).job

  some_by : (n : ℕ) → 0 < f → 0 < units_in f n
  some_by zero s = s
  some_by (suc n) s = omega (arith, s)

  module _ {demand : OwnDemand} where
    module _ (t : ℕ) (st : StateView) (trace : SpanTrace) (here : IsInSpan set demand force t st trace) where
      w0 : HoldsHanded demand p dem t f false st trace
      w0 = begin here

      -- the next tick belongs to the span
      next_tick : (st' : StateView) (trace' : SpanTrace) → t + 1 < set.ticks → QuietTo (t + 1) st → st'.now ≡ t + 1
          → ((k : ℕ) → (row_at st' k).deadline ≡ (row_at st k).deadline)
          → HasWorked set demand t st' trace' false → IsInSpan set demand force (t + 1) st' trace'
      next_tick st' trace' lt quiet now due done =
          let none : some_due p st' ≡ false = any_below-none (count p) (λ k. nat_eq (row_at st' k).deadline st'.now)
          (λ k l. (let q = quiet k l in let d = due k in grind (arith, nat_tests, q, d, now))) in
          goes-on set here done none lt

      in_rows : length st.rows ≡ count p
      in_rows = rows-there here w0

      -- one tick of one job, or of nobody
      one : (first : Option ℕ) → IsFirst p st first → NeedsMore st first f → t + 1 < set.ticks → QuietTo (t + 1) st
          → IsInSpan set demand force (t + 1) (after_advance (gives st first f) (t + 1))
          (after_units p st force (holder_at st first) f trace)
      one None all_done short lt quiet =
          next_tick (after_advance st (t + 1)) (after_units p st force Nobody f trace) lt quiet refl (λ k. refl)
          (finished here w0 (inr all_done) (after_units p st force Nobody f trace) (after_advance st (t + 1))
          (idled here w0 (after_units p st force Nobody f trace) (some-speed here) refl) refl)
      one (Some i) first needs lt quiet =
          let short : (row_at st i).used + f < dem i (row_at st i).job = needs i refl in
          let all : f ≡ min f (dem i (row_at st i).job - (row_at st i).used) = omega (arith, short) in
          let part : f < dem i (row_at st i).job - (row_at st i).used = omega (arith, short) in
          let not_whole : false ≡ nat_eq f (dem i (row_at st i).job - (row_at st i).used) = grind (arith, nat_tests, part) in
          let after : SpanTrace = after_units p st force (Held i (row_at st i).job) f trace in
          let w1 : HoldsHanded demand p dem t (f - f) false (after_service st i f false) after =
          turned here w0 i f first all false false (after_service st i f false) after (some-speed here) not_whole refl refl refl in
          next_tick (run_on st i f (t + 1)) after lt quiet refl (due-on st f p in_rows (Some i) first)
          (finished here w1 (inl (omega arith)) after (run_on st i f (t + 1)) (full here w1 (omega arith)) refl)

    -- n + 1 ticks as one step, for any holder of their units
    stays-by : (n t : ℕ) (first : Option ℕ) (st : StateView) (trace : SpanTrace) → IsInSpan set demand force t st trace
        → IsFirst p st first → NeedsMore st first (units_in f n) → t + suc n < set.ticks → QuietTo (t + suc n) st
        → IsInSpan set demand force (t + suc n) (after_advance (gives st first (units_in f n)) (t + suc n))
        (after_units p st force (holder_at st first) (units_in f n) trace)
    stays-by zero t first st trace here is short lt quiet = one t st trace here first is short lt quiet
    stays-by (suc n) t first st trace here is short lt quiet =
        let u : ℕ = units_in f n in
        let m : ℕ = t + suc n in
        let h : Holder = holder_at st first in
        let mid : StateView = after_advance (gives st first u) m in
        let told : SpanTrace = after_units p st force h u trace in
        let rows = in_rows t st trace here in
        let before : IsInSpan set demand force m mid told =
        stays-by n t first st trace here is (λ i e. (let s = short i e in omega (arith, s))) (omega (arith, lt))
        (λ k l. (let q = quiet k l in omega (arith, q))) in
        let more : NeedsMore mid first f = λ i e. (
        let s = short i e in
        let row = first-row st u p rows e (subst (IsFirst p st) e is).below in
        omega (arith, s, ap (λ (r : Row). r.used) row, ap (λ (r : Row). dem i r.job) row)) in
        let next : IsInSpan set demand force (m + 1) (after_advance (gives mid first f) (m + 1))
        (after_units p mid force (holder_at mid first) f told) =
        one m mid told before first (first-on st u p rows first is m) more (omega (arith, lt))
        (λ k l. (let q = quiet k l in let d = due-on st u p rows first is k in omega (arith, q, d))) in
        let traces : after_units p mid force (holder_at mid first) f told
        ≡ after_units p st force h (u + f) trace =
        ap (λ k. after_units p mid force k f told) (holder-on st u p rows first is)
        ∙ more_units h u (some_by n (some-speed here))
        (if is_turn trace h then after_segment p st force trace else trace) p mid force f in
        let later : m + 1 ≡ t + suc (suc n) = omega arith in
        subst (λ k. IsInSpan set demand force k (after_advance (gives st first (u + f)) k) (after_units p st force h (u + f) trace)) later
        (subst (λ s. IsInSpan set demand force (m + 1) s (after_units p st force h (u + f) trace)) (gives-on st u p rows first is f m (m + 1))
        (subst (λ q. IsInSpan set demand force (m + 1) (after_advance (gives mid first f) (m + 1)) q) traces next))

    -- n ticks keep it too
    stays-n : (n t : ℕ) (first : Option ℕ) (st : StateView) (trace : SpanTrace) → 0 < n → IsInSpan set demand force t st trace
        → IsFirst p st first → NeedsMore st first (n * f) → t + n < set.ticks → QuietTo (t + n) st
        → IsInSpan set demand force (t + n) (after_advance (gives st first (n * f)) (t + n))
        (after_units p st force (holder_at st first) (n * f) trace)
    stays-n zero t first st trace some here is short lt quiet = absurd (omega arith)
    stays-n (suc n) t first st trace some here is short lt quiet =
        subst (λ u. IsInSpan set demand force (t + suc n) (after_advance (gives st first u) (t + suc n))
        (after_units p st force (holder_at st first) u trace)) (units_in-is f n)
        (stays-by n t first st trace here is (λ i e. (let s = short i e in omega (arith, s, units_in-is f n))) lt quiet)

-- quiet ticks are one step
pub stays : {demand : OwnDemand} {set : Setting} {force : InForce} {st : StateView} {trace : SpanTrace}
    → IsInSpan set demand force st.now st trace → (first : Option ℕ) {n : ℕ} → IsFirst set.plan.now st first
    → AreQuiet set force st first n → 0 < n → (st' : StateView) (trace' : SpanTrace)
    → st' ≡ after_advance (gives st first (n * force.speed)) (st.now + n)
    → trace' ≡ after_units set.plan.now st force (holder_at st first) (n * force.speed) trace
    → IsInSpan set demand force st'.now st' trace'
stays {demand} {set} {force} {st} {trace} here first {n} is quiet some st' trace' moved traces =
    subst (λ (v : StateView). IsInSpan set demand force v.now v trace') (sym moved)
    (subst
    (λ q. IsInSpan set demand force (st.now + n) (after_advance (gives st first (n * force.speed)) (st.now + n)) q)
    (sym traces)
    (stays-n set force n st.now first st trace some here is quiet.not_done quiet.before_end quiet.no_release))
