-- The units of one tick, handed out to one task after the other.
use Rattle.std.proofs.Common.{◌≡◌, ◌≢◌, ℕ, ◌+◌, ◌-◌, ◌*◌, ◌<◌, ◌≤◌, min, Bool, true, false, not, eqb, ◌&&◌, ◌||◌, List, [], ◌∷◌, ◌++◌, length, replicate, refl, arith, if◌then◌else◌, ap, ap₂, ◌∙◌, sym, subst, append-nil, append_assoc, nat_eq, nat_le, nat_lt, true≢false}
use Rattle.std.specs.Prelude.{count_by}
use Rattle.std.proofs.Math.Bool.{or-true, or-false, not-and_self}
use Rattle.std.proofs.Math.Logic.{⊎_elim}
use Rattle.std.proofs.lemmas.Bool.{cases_eq}
use Rattle.std.proofs.lemmas.Bool.Decides.{nat_tests}
use Rattle.std.proofs.lemmas.List.Folds.{sum_by-replicate}
use Rattle.dvs_base.specs.declared.kind.Scheduler.{Scheduler}
use Rattle.dvs_base.specs.declared.kind.Scheduler.TheVariants.{Edf, Rm}
use Rattle.sched_model.specs.declared.state.Row.{Row}
use Rattle.sched_model.specs.declared.holder.Holder.{Holder}
use Rattle.sched_model.specs.declared.holder.Holder.TheVariants.{Nobody, Held}
use Rattle.grid_fraction.specs.Numbers.{sum_below, any_below, list_below}
use Rattle.sched_model.specs.Plan.{Plan, count, worst}
use Rattle.sched_model.specs.Jobs.{JobDemands, latest, due}
use Rattle.sched_model.specs.Ticks.{Tick, exec, units_left, share}
use Rattle.sched_model.specs.Priority.{in_order, key_of, stands_before, sum_before}
use Rattle.sched_model.specs.Greedy.{IsFirstOpen}
use Rattle.sched_model.specs.Notes.{same_holder, given_units}
use Rattle.sched_model.specs.States.{no_row, row_at, StateView, row_of, state_of, key_in}
use Rattle.grid_fraction.proofs.Sums.{sum_below-zero, sum_below-change}
use Rattle.grid_fraction.proofs.Tables.{get-table, table-same, set-table}
use Rattle.sched_model.proofs.Orders.{before-self, IsAhead, IsOrdered, AreBelow, Stands, first_ahead, stands-in_order, in_order-below, in_order-ordered}
use Rattle.sched_model.proofs.Allotments.{IsHandedOut, handed-start, handed-step, handed_before, up_to-before}
use Rattle.grid_fraction.proofs.Searches.{any_below-none, any_below-same, any_below-found}
use Rattle.sched_model.proofs.States.{row_by}
use Rattle.agenda.specs.Agenda.{IsFirstUndone}
use Rattle.event_kernel.specs.Tickwork.{after_service}
use Rattle.event_kernel.proofs.OpenSegment.{Shows}

pub given_units-same : (job given given' : ℕ → ℕ) (n : ℕ) (js : List ℕ) → AreBelow n js → ((j : ℕ) → j < n → given j ≡ given' j)
    → given_units given job js ≡ given_units given' job js
given_units-same job given given' n [] below same = refl
given_units-same job given given' n (j ∷ js) below same =
    ap₂ (λ m us. replicate m (Held j (job j)) ++ us) (same j below.0) (given_units-same job given given' n js below.1 same)

-- if the tasks after i got no units, their list of units is empty
given_units-after : (key job given : ℕ → ℕ) (n i : ℕ) (js : List ℕ) → AreBelow n js → IsAhead key i js
    → ((j : ℕ) → j < n → stands_before key i j ≡ true → given j ≡ 0) → given_units given job js ≡ []
given_units-after key job given n i [] below ahead none = refl
given_units-after key job given n i (j ∷ js) below ahead none =
    ap₂ (λ m us. replicate m (Held j (job j)) ++ us) (none j below.0 ahead.0) (given_units-after key job given n i js below.1 ahead.1 none)

-- i gets units, before which it had none; none after it has any
given_units-step : (key job given given' : ℕ → ℕ) (n i : ℕ) (pre post : List ℕ) → AreBelow n (pre ++ i ∷ post) → IsOrdered key (pre ++ i ∷ post)
    → given i ≡ 0 → ((j : ℕ) → j < n → j ≢ i → given' j ≡ given j) → ((j : ℕ) → j < n → stands_before key i j ≡ true → given j ≡ 0)
    → given_units given' job (pre ++ i ∷ post) ≡ given_units given job (pre ++ i ∷ post) ++ replicate (given' i) (Held i (job i))
given_units-step key job given given' n i [] post below ordered zero_i others none =
    let here : stands_before key i i ≡ false = before-self key i in
    let nothing : given_units given job post ≡ [] = given_units-after key job given n i post below.1 ordered.0 none in
    let still : given_units given' job post ≡ [] = given_units-after key job given' n i post below.1 ordered.0
    (λ k lt h. others k lt (λ q. absurd (true≢false (sym h ∙ (ap (stands_before key i) q ∙ here)))) ∙ none k lt h) in
    ap (λ us. replicate (given' i) (Held i (job i)) ++ us) still
    ∙ (append-nil (replicate (given' i) (Held i (job i)))
    ∙ sym (ap₂ (λ m us. (replicate m (Held i (job i)) ++ us) ++ replicate (given' i) (Held i (job i))) zero_i nothing))
given_units-step key job given given' n i (j ∷ pre) post below ordered zero_i others none =
    let first : stands_before key j i ≡ true = first_ahead key j i pre post ordered.0 in
    let other : j ≢ i = λ q. absurd (true≢false (sym first ∙ (ap (λ m. stands_before key m i) q ∙ before-self key i))) in
    ap₂ (λ m us. replicate m (Held j (job j)) ++ us) (others j below.0 other)
    (given_units-step key job given given' n i pre post below.1 ordered.1 zero_i others none)
    ∙ sym (append_assoc (replicate (given j) (Held j (job j))) (given_units given job (pre ++ i ∷ post)) (replicate (given' i) (Held i (job i))))

-- one value of a function changed
abbrev pub raised : (ℕ → ℕ) → ℕ → ℕ → ℕ → ℕ
raised given i share k = if eqb k i then given k + share else given k

raised-here : (given : ℕ → ℕ) (i share : ℕ) → raised given i share i ≡ given i + share
raised-here given i share = let here : eqb i i ≡ true = grind (arith, nat_tests) in rw here refl

raised-there : (given : ℕ → ℕ) (i share k : ℕ) → k ≢ i → raised given i share k ≡ given k
raised-there given i share k ne = let other : eqb k i ≡ false = grind (arith, nat_tests, ne) in rw other refl

pub sum-raised : (n : ℕ) (given : ℕ → ℕ) (i share : ℕ) → i < n → sum_below n (raised given i share) ≡ sum_below n given + share
sum-raised n given i share lt =
    omega (
      arith,
      sum_below-change n given (raised given i share) i lt (λ k l ne. raised-there given i share k ne),
      raised-here given i share,
    )

pub count_idle : (i k m : ℕ) → count_by (same_holder (Held i k)) (replicate m Nobody) ≡ 0
count_idle i k m = sum_by-replicate (λ h. if same_holder (Held i k) h then 1 else 0) m Nobody ∙ omega arith

module _ (p : Plan) (dem : JobDemands) (past : List Tick) where
  abbrev pub job : ℕ → ℕ
  job i = latest p i (length past)

  abbrev pub had : ℕ → ℕ
  had i = exec p past i (job i)

  abbrev pub key : ℕ → ℕ
  key = key_of p.scheduler p (length past)

  abbrev pub units_by : (ℕ → ℕ) → List Holder
  units_by given = given_units given job (in_order key (count p))

  -- the state after some units of the tick
  abbrev pub given_row : (ℕ → ℕ) → ℕ → Row
  given_row given i = row_by (due p i (job i)) (job i) (had i + given i) (nat_le (dem i (job i)) (had i + given i)) (worst p i)

  abbrev pub given_state : (ℕ → ℕ) → StateView
  given_state given = record {
    now = length past;
    rows = list_below (count p) (given_row given);
    base_at = (state_of p dem past).base_at;
    base = (state_of p dem past).base;
  }

  abbrev pub ends_in : (ℕ → ℕ) → ℕ → Bool
  ends_in given i = not (nat_le (dem i (job i)) (had i)) && nat_le (dem i (job i)) (had i + given i)

  pub record HasHanded (f : ℕ) (given : ℕ → ℕ) (rest : ℕ) (completed : Bool) (st : StateView) : Type 0 where
    pub handed : IsHandedOut (count p) key f (units_left p dem past) given rest
    pub state : st ≡ given_state given
    pub sum : sum_below (count p) given + rest ≡ f
    pub ends : completed ≡ any_below (count p) (ends_in given)

  -- before the first unit, the state of the tick is the state with no units given
  pub start-state : state_of p dem past ≡ given_state (λ _. 0)
  start-state =
      ap (λ rows. record { now = length past; rows = rows; base_at = (state_of p dem past).base_at; base = (state_of p dem past).base })
      (table-same (count p) (row_of p dem past) (given_row (λ _. 0))
      (λ i lt. (let z : had i ≡ had i + 0 = omega arith in
      ap (λ u. row_by (due p i (job i)) (job i) u (nat_le (dem i (job i)) u) (worst p i)) z)))

  none_ends : (i : ℕ) → ends_in (λ _. 0) i ≡ false
  none_ends i = let z : had i + 0 ≡ had i = omega arith in rw z (not-and_self (nat_le (dem i (job i)) (had i)))

  pub start : (f : ℕ) → HasHanded f (λ _. 0) f false (state_of p dem past)
  start f = record {
    handed = handed-start (count p) key f (units_left p dem past);
    state = start-state;
    sum = omega (arith, sum_below-zero (count p) (λ _. 0) (λ i lt. refl));
    ends = sym (any_below-none (count p) (ends_in (λ _. 0)) (λ i lt. none_ends i));
  }

  laid_none : (js : List ℕ) → given_units (λ _. 0) job js ≡ []
  laid_none [] = refl
  laid_none (j ∷ js) = laid_none js

  pub start-units : units_by (λ _. 0) ≡ []
  start-units = laid_none (in_order key (count p))

  module _ {f rest : ℕ} {given : ℕ → ℕ} {completed : Bool} {st : StateView} (h : HasHanded f given rest completed st) where
    -- each row of the state after some units
    pub row-is : (i : ℕ) → i < count p → row_at st i ≡ given_row given i
    row-is i lt = ap (λ (s : StateView). row_at s i) h.state ∙ get-table (count p) (given_row given) i no_row lt

    pub shows : ((i : ℕ) → i < count p → had i ≤ dem i (job i)) → Shows p dem (length past) st (λ i. had i + given i)
    shows within = record {
      used_is = λ i lt. ap (λ (r : Row). r.used) (row-is i lt);
      done_is = λ i lt. ap (λ (r : Row). r.done) (row-is i lt);
      within = λ i lt. omega (arith, within i lt, h.handed.given_is i lt);
    }

    key-is : (i : ℕ) → i < count p → key_in p.scheduler p st i ≡ key i
    key-is i lt = go p.scheduler
      where
        go : (s : Scheduler) → key_in s p st i ≡ key_of s p (length past) i
        go Edf = ap (λ (r : Row). r.deadline) (row-is i lt)
        go Rm = refl

    all-had : (k : ℕ) → k < count p → (row_at st k).done ≡ true → units_left p dem past k ≤ given k
    all-had k lt d =
        let done_row : nat_le (dem k (job k)) (had k + given k) ≡ true = sym (ap (λ (r : Row). r.done) (row-is k lt)) ∙ d in
        let enough : dem k (job k) ≤ had k + given k = grind (arith, nat_tests) in
        omega (arith, enough)

    -- the first row that is not done is the first open task
    pub first-open : (i : ℕ) → IsFirstUndone p st (count p) i → IsFirstOpen (count p) key (units_left p dem past) given i
    first-open i u = record {
      below = u.below;
      needs =
          let open_row : nat_le (dem i (job i)) (had i + given i) ≡ false = sym (ap (λ (r : Row). r.done) (row-is i u.below)) ∙ u.open_job in
          let short : had i + given i < dem i (job i) = grind (arith, nat_tests) in
          omega (arith, short);
      first = λ k lt b. all-had k lt (u.first k lt
          (ap₂ (λ x y. nat_lt x y || (nat_eq x y && nat_lt k i)) (key-is k lt) (key-is i u.below) ∙ b));
    }

    pub none-open : ((k : ℕ) → k < count p → (row_at st k).done ≡ true) → (k : ℕ) → k < count p → units_left p dem past k ≤ given k
    none-open d k lt = all-had k lt (d k lt)

    -- the units are handed out further after one task gets its share
    pub gives : (next : StateView) (i share : ℕ) (whole now : Bool) → 0 < rest
        → ((i : ℕ) → i < count p → had i ≤ dem i (job i))
        → IsFirstOpen (count p) key (units_left p dem past) given i
        → share ≡ min rest (dem i (job i) - (had i + given i))
        → whole ≡ nat_eq share (dem i (job i) - (had i + given i))
        → next ≡ after_service st i share whole
        → now ≡ (completed || whole)
        → HasHanded f (raised given i share) (rest - share) now next
    gives next i share whole now pos within o se we ne ce = record {
      handed = subst (λ v. IsHandedOut (count p) key f (units_left p dem past) (raised given i share) (rest - v)) (sym short)
          (handed-step (count p) key f (units_left p dem past) given (raised given i share) rest i h.handed pos o
          (raised-here given i share ∙ ap (λ v. given i + v) short) (λ k lt other. raised-there given i share k other));
      state = ne ∙ (ap (λ (s : StateView). after_service s i share whole) h.state
          ∙ ap (λ rows. record { now = length past; rows = rows; base_at = (state_of p dem past).base_at; base = (state_of p dem past).base })
          (set-table (count p) (given_row given) (given_row (raised given i share)) i _ o.below here there));
      sum = omega (arith, sum-raised (count p) given i share o.below, h.sum, se);
      ends = ce ∙ by_whole whole (sym we);
    }
      where
        short : share ≡ min rest (units_left p dem past i - given i)
        short = se ∙ ap (λ v. min rest v) (omega arith)

        needs : had i + given i < dem i (job i)
        needs = omega (arith, o.needs)

        -- the job has all its units exactly if the share is what it lacks
        is_whole : nat_le (dem i (job i)) (had i + given i + share) ≡ nat_eq share (dem i (job i) - (had i + given i))
        is_whole = let low : share ≤ dem i (job i) - (had i + given i) = omega (arith, se) in grind (arith, nat_tests, needs, low)

        raised_is : had i + raised given i share i ≡ had i + given i + share
        raised_is = omega (arith, raised-here given i share)

        here : given_row (raised given i share) i ≡ row_by (row_at (given_state given) i).deadline (row_at (given_state given) i).job
            ((row_at (given_state given) i).used + share) whole (row_at (given_state given) i).worst
        here =
            ap (λ u. row_by (due p i (job i)) (job i) u (nat_le (dem i (job i)) u) (worst p i)) raised_is
            ∙ (ap (λ b. row_by (due p i (job i)) (job i) (had i + given i + share) b (worst p i)) (is_whole ∙ sym we)
            ∙ ap (λ (r : Row). row_by r.deadline r.job (r.used + share) whole r.worst) (sym (get-table (count p) (given_row given) i no_row o.below)))

        there : (k : ℕ) → k < count p → k ≢ i → given_row (raised given i share) k ≡ given_row given k
        there k lt other =
            ap (λ g. row_by (due p k (job k)) (job k) (had k + g) (nat_le (dem k (job k)) (had k + g)) (worst p k)) (raised-there given i share k other)

        not_before : nat_le (dem i (job i)) (had i) ≡ false
        not_before = let lt : had i < dem i (job i) = omega (arith, needs) in grind (arith, nat_tests, lt)

        by_whole : (b : Bool) → nat_eq share (dem i (job i) - (had i + given i)) ≡ b
            → (completed || b) ≡ any_below (count p) (ends_in (raised given i share))
        by_whole true e =
            or-true completed ∙ sym (any_below-found (count p) (ends_in (raised given i share)) i o.below
            (ap₂ (λ a b. not a && b) not_before (ap (λ u. nat_le (dem i (job i)) u) raised_is ∙ (is_whole ∙ e))))
        by_whole false e =
            or-false completed ∙ h.ends ∙ any_below-same (count p) (ends_in given) (ends_in (raised given i share)) (λ k lt. same k (eqb k i) refl)
          where
            still_open : nat_le (dem i (job i)) (had i + given i) ≡ false
            still_open = grind (arith, nat_tests, needs)

            same : (k : ℕ) (b : Bool) → eqb k i ≡ b → ends_in given k ≡ ends_in (raised given i share) k
            same k true q =
                let is_i : i ≡ k = grind (arith, nat_tests) in
                subst (λ m. ends_in given m ≡ ends_in (raised given i share) m) is_i
                (ap (λ b. not (nat_le (dem i (job i)) (had i)) && b)
                (still_open ∙ (sym (is_whole ∙ e) ∙ ap (λ u. nat_le (dem i (job i)) u) (sym raised_is))))
            same k false q =
                let other : k ≢ i = grind (arith, nat_tests) in
                ap (λ g. not (nat_le (dem k (job k)) (had k)) && nat_le (dem k (job k)) (had k + g)) (sym (raised-there given i share k other))

    -- the share of a task is after all units that were given
    pub gives-units : (i share : ℕ) → 0 < rest → IsFirstOpen (count p) key (units_left p dem past) given i
        → units_by (raised given i share) ≡ units_by given ++ replicate share (Held i (job i))
    gives-units i share pos o =
        subst (λ js. given_units (raised given i share) job js ≡ given_units given job js ++ replicate (raised given i share i) (Held i (job i)))
        (sym place.1.1)
        (given_units-step key job given (raised given i share) (count p) i place.0 place.1.0
        (subst (AreBelow (count p)) place.1.1 (in_order-below key (count p))) (subst (IsOrdered key) place.1.1 (in_order-ordered key (count p)))
        now.0 (λ j lt other. raised-there given i share j other)
        (λ j lt b. omega (arith, h.handed.given_is j lt, now.0, now.1, up_to-before (count p) key (units_left p dem past) i j o.below b)))
        ∙ ap (λ m. units_by given ++ replicate m (Held i (job i))) (raised-here given i share ∙ omega (arith, now.0))
      where
        place : Stands i (in_order key (count p))
        place = stands-in_order key (count p) i o.below

        now : (given i ≡ 0) × (f - rest ≡ sum_before (count p) key (units_left p dem past) i)
        now = handed_before (count p) key f (units_left p dem past) given rest h.handed pos i o

  -- what each task has had after the share
  pub gives-had : (given : ℕ → ℕ) (i share k : ℕ)
      → (had k + given k) + count_by (same_holder (Held k (job k))) (replicate share (Held i (job i))) ≡ had k + raised given i share k
  gives-had given i share k =
      ⊎_elim (λ e. (let same : k ≡ i = e in let jobs : job k ≡ job i = ap job same in
      let here : eqb k i ≡ true = grind (arith, nat_tests) in
      let now : raised given i share k ≡ given k + share = rw here refl in
      omega (arith, now, units true (grind (arith, nat_tests)))))
      (λ ne. (let other : nat_eq k i ≡ false = grind (arith, nat_tests, ne) in
      omega (arith, raised-there given i share k ne, units false (ap (λ b. b && nat_eq (job k) (job i)) other)))) (cases_eq k i)
    where
      units : (b : Bool) → (nat_eq k i && nat_eq (job k) (job i)) ≡ b
          → count_by (same_holder (Held k (job k))) (replicate share (Held i (job i))) ≡ share * (if b then 1 else 0)
      units b e =
          sum_by-replicate (λ h. if same_holder (Held k (job k)) h then 1 else 0) share (Held i (job i))
          ∙ ap (λ c. share * (if c then 1 else 0)) e
