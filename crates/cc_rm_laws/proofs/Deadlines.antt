-- Calm states of cycle-conserving RM: the opening state is calm, each boundary keeps it calm, and each job that is due in
-- one is complete.
use Rattle.std.proofs.Common.{◌≡◌, inl, inr, ℕ, suc, ◌+◌, ◌-◌, ◌*◌, ◌<◌, ◌≤◌, true, sym, ◌∙◌, ap, subst, arith, min, Bool, false, List, [], ◌∷◌, refl, if◌then◌else◌}
use Rattle.std.proofs.lemmas.Bool.{cases_lt, cases_Bool, or_parts}
use Rattle.std.specs.List.{list_any}
use Rattle.std.proofs.lemmas.List.{get_or-map}
use Rattle.dvs_base.specs.declared.kind.Scheduler.TheVariants.{Rm}
use Rattle.grid_fraction.specs.Numbers.{sum_where, sum_below}
use Rattle.grid_fraction.proofs.Sums.{sum_where-le, sum_below-same, sum_below-zero}
use Rattle.grid_fraction.proofs.Least.{least-below}
use Rattle.sched_model.specs.Plan.{Plan, count, period, worst}
use Rattle.sched_model.specs.Jobs.{JobDemands, release, due, latest}
use Rattle.sched_model.specs.StaticDemand.{static_speed}
use Rattle.sched_model.specs.Backlog.{backlog}
use Rattle.sched_model.specs.Admission.{IsAdmitted}
use Rattle.sched_model.specs.States.{StateView, row_at, row_wleft, earliest_in, opening}
use Rattle.sched_model.proofs.Limits.{some_period}
use Rattle.sched_model.proofs.JobLaws.{latest-is, latest-unique, latest_since-pos, release-suc, release-due, due-suc}
use Rattle.sched_model.proofs.LevelSums.{sum_where-term, up_to-self, greatest-above, greatest-least, sum_where-mono, sum_where-plus, level-gets}
use Rattle.governor.specs.Steps.{opened_row, after_boundary, wleft_at, release_of, Belongs, each_row, is_due, boundary_row}
use Rattle.governor.proofs.StatesOfDemands.{wleft-most, earliest-from, unborn_done, boundary-by, none_due_at, some_due_at, opening_at, belongs_boundary, decision_boundary, opened_release, earliest-later}
use Rattle.governor.proofs.Ticks.{demand_most}
use Rattle.governor.specs.Rm.{level}
use Rattle.governor.proofs.EdfLaws.{closed_row}
use Rattle.sched_model.specs.declared.state.Row.{Row}
use Rattle.sched_model.specs.Priority.{SharesOut}
use Rattle.sched_model.proofs.Allotments.{allotment-shares, down-set-gets, allotment-most}
use Rattle.cc_rm_laws.specs.Allotments.{base_of, allotted_units, allotted_in, allotment_left_in}
use Rattle.cc_rm_laws.specs.Conditions.{CcRmCalm, LacksNothing}
use Rattle.cc_rm_laws.proofs.Backlog.{lack, lack_after, lack-is, IsQuiet, quiet_row, lack-none, released-lack, after-least, backlog-empties, level_down, backlog-span, backlog-where}

module _ (plan : Plan) (adm : IsAdmitted plan) (dem : JobDemands) (s : StateView) (bel : Belongs plan dem s) where
  pub first-due : (i : ℕ) → i < count plan → earliest_in plan s ≤ (row_at s i).deadline
  first-due i h = least-below (count plan) (λ i. (row_at s i).deadline) i h

  released-by : (i : ℕ) → i < count plan → release_of plan i (row_at s i) ≤ s.base_at
  released-by i h = omega (arith, greatest-above (count plan) (λ j. release_of plan j (row_at s j)) i h, bel.base_at)

  base-by : s.base_at ≤ s.now
  base-by = grind (arith, greatest-least)

  pub allotted-most : (i : ℕ) → allotted_in plan s i ≤ base_of s i
  allotted-most i = allotment-most (count plan) (period plan) (allotted_units plan s) (base_of s) i

  -- the deadline of a row is the deadline of its job
  pub row-due : (i : ℕ) → i < count plan → (row_at s i).deadline ≡ due plan i (row_at s i).job
  row-due i h = bel.deadline i h

  row-release : (i : ℕ) → 0 < (row_at s i).job → release plan i (row_at s i).job ≡ release_of plan i (row_at s i)
  row-release i born = sym (latest_since-pos plan i (row_at s i).job born)

  -- a task has no release between that of its job and its deadline
  quiet-between : (u i : ℕ) → i < count plan → release_of plan i (row_at s i) < u
      → u < (row_at s i).deadline → IsQuiet plan u i
  quiet-between u i h after before k e =
      let job = (row_at s i).job in
      let mine : latest plan i u ≡ job =
      latest-unique plan i job u (λ born. omega (arith, after, row-release i born)) (omega (arith, row-due i h)) in
      let some = some_period plan adm.limits i h in
      let from = release-suc plan i k in
      let until = due-suc plan i k in
      let next : latest plan i u ≡ k + 1 =
      latest-is plan i (k + 1) u (omega (arith, from, e)) (omega (arith, until, e, some)) in
      let same : release plan i (k + 1) ≡ release plan i job = ap (release plan i) (sym next ∙ mine) in
      omega (arith, same, from, e, after, row-release i (omega (arith, mine, next)))

  -- no task has a release between the mark and the earliest deadline
  pub quiet : (u j : ℕ) → s.base_at < u → u < earliest_in plan s → j < count plan → IsQuiet plan u j
  quiet u j after before h = quiet-between u j h (omega (arith, released-by j h)) (omega (arith, first-due j h))

  closes : (i : ℕ) → i < count plan → wleft_at s i ≡ 0 → (row_at s i).done ≡ true
  closes i h none = closed_row (row_at s i) (dem i (row_at s i).job) none
      (bel.open_job i h) (demand_most plan dem s bel i h)

  -- at the earliest deadline nothing is left of the allotments: a level needs at most its worst static backlog
  pub level-most : CcRmCalm plan s → s.now ≡ earliest_in plan s → (i : ℕ) → i < count plan
      → sum_where (count plan) (level plan i) (wleft_at s) ≤ backlog plan (earliest_in plan s) i
  level-most calm at_due i h = grind (arith, sum_where-le)

  empty-level : CcRmCalm plan s → s.now ≡ earliest_in plan s → (i : ℕ) → i < count plan
      → backlog plan (earliest_in plan s) i ≡ 0 → (row_at s i).done ≡ true
  empty-level calm at_due i h none =
      grind (arith, sum_where-term (count plan) (level plan i) (wleft_at s) i h (up_to-self (period plan) i), level-most calm at_due i h)

  module _ (rm : plan.scheduler ≡ Rm) where
    -- a job that the worst static schedule completes between the mark and the earliest deadline is complete there
    emptied : CcRmCalm plan s → s.now ≡ earliest_in plan s → (i : ℕ) → i < count plan → s.base_at < earliest_in plan s
        → 0 < lack_after plan s.base_at i → lack plan (earliest_in plan s) i ≡ 0 → (row_at s i).done ≡ true
    emptied calm at_due i h later pos none =
        let d : ℕ = earliest_in plan s - s.base_at - 1 in
        let place : s.base_at + suc d ≡ earliest_in plan s = omega arith in
        empty-level calm at_due i h
        (subst (λ (u : ℕ). backlog plan u i ≡ 0) place
        (backlog-empties plan adm rm i s.base_at d h (λ u j a b hj. quiet u j a (omega arith) hj) pos
        (subst (λ (u : ℕ). lack plan u i ≡ 0) (sym place) none)))

    -- a job that the worst static schedule has completed by the earliest deadline is complete there
    pub completed-too : CcRmCalm plan s → s.now ≡ earliest_in plan s → (i : ℕ) → i < count plan → 0 < (row_at s i).job
        → release_of plan i (row_at s i) < earliest_in plan s → lack plan (earliest_in plan s) i ≡ 0
        → (row_at s i).done ≡ true
    completed-too calm at_due i h born before none =
        let row = row_at s i in
        let r = s.base_at in
        let by : r ≤ earliest_in plan s = omega (arith, base-by, earliest-from plan adm.limits dem s bel) in
        elim (cases_lt (release_of plan i row) r) [
          | inl earlier ↦ elim (cases_lt 0 (lack plan r i)) [
            | inl lacks ↦
                let apart : r ≡ earliest_in plan s → ⊥ =
                λ e. (let g : lack plan r i ≡ lack plan (earliest_in plan s) i =
                ap (λ (u : ℕ). lack plan u i) e in omega arith) in
                let lt : r < earliest_in plan s = omega arith in
                let still : lack_after plan r i ≡ lack plan r i =
                quiet_row plan adm r i h (quiet-between r i h earlier (omega (arith, first-due i h))) in
                emptied calm at_due i h lt (omega arith) none
            | inr closed ↦ calm.since i h born earlier (let g = lack-is plan r i (omega arith) in omega arith)
          ]
          | inr now_ ↦
              let same : release_of plan i row ≡ r = omega (arith, released-by i h) in
              let whole_job : row.job - 1 + 1 ≡ row.job = omega (arith, born) in
              let back : due plan i (row.job - 1) ≡ r =
              sym (release-suc plan i (row.job - 1)) ∙ ap (release plan i) whole_job ∙ row-release i born ∙ same in
              let whole : lack_after plan r i ≡ worst plan i = released-lack plan adm r i (row.job - 1) h (sym back) in
              elim (cases_lt 0 (worst plan i)) [
                | inl some ↦ emptied calm at_due i h (omega arith) (omega arith) none
                | inr zero_ ↦ closes i h (let g = wleft-most row in let w = bel.of.worst i h in omega arith)
              ]
        ]

    pub cc_rm_completes : CcRmCalm plan s → (i : ℕ) → i < count plan
        → (row_at s i).deadline ≡ s.now → (row_at s i).done ≡ true
    cc_rm_completes calm i h e =
        let row = row_at s i in
        let at_due : s.now ≡ earliest_in plan s =
        omega (arith, earliest-from plan adm.limits dem s bel, first-due i h) in
        elim (cases_lt 0 row.job) [
          | inl born ↦
              let long = release-due plan i row.job born in
              let some = some_period plan adm.limits i h in
              completed-too calm at_due i h born (omega (arith, row-release i born, row-due i h, long, some))
              (lack-none plan adm (earliest_in plan s) i row.job h (omega (arith, row-due i h)))
          | inr unborn ↦ unborn_done plan dem s bel i h (omega arith)
        ]

    -- a release adds no more to what a job may need than to what it lacks in the worst static schedule
    pub row-adds : (j : ℕ) → j < count plan
        → wleft_at (after_boundary plan dem s) j + lack plan s.now j ≤ wleft_at s j + lack_after plan s.now j
    row-adds j h =
        let row = row_at s j in
        boundary-by plan dem s bel j h (λ new. row_wleft new + lack plan s.now j ≤ row_wleft row + lack_after plan s.now j)
        (λ at_now.
        let there : s.now ≡ due plan j row.job = sym at_now ∙ row-due j h in
        let none = lack-none plan adm s.now j row.job h there in
        let whole = released-lack plan adm s.now j row.job h there in
        let w = bel.of.worst j h in
        let small : row_wleft (opened_row plan dem j row) ≤ row.worst = wleft-most (opened_row plan dem j row) in
        omega (arith, none, whole, w, small))
        (λ later. omega (arith, after-least plan adm s.now j h))

-- before the first release all jobs are complete and nothing is left of the allotments
module _ (plan : Plan) where
  opening-done : (i : ℕ) → i < count plan → (row_at (opening plan) i).done ≡ true
  opening-done i h = rw (opening_at plan i h) refl

  pub cc_rm_opens : CcRmCalm plan (opening plan)
  cc_rm_opens = grind (arith, opening-done, sum_below-zero)

-- a boundary where no row is due changes no row
rows-still : (plan : Plan) (dem : JobDemands) (now i : ℕ) (rows : List Row) → list_any (is_due now) rows ≡ false
    → each_row (boundary_row plan dem now) i rows ≡ rows
rows-still plan dem now i [] none = refl
rows-still plan dem now i (row ∷ rows) none =
    let here : is_due now row ≡ false = none_due_at (is_due now) (row ∷ rows) 0 none (omega arith) in
    let head : boundary_row plan dem now i row ≡ row =
    ap (λ (b : Bool). if b then opened_row plan dem i row else row) here in
    let rest = rows-still plan dem now (suc i) rows
    (or_parts (is_due now row) (list_any (is_due now) rows) none).1 in
    λ j. head j ∷ rest j

state-still : (plan : Plan) (dem : JobDemands) (s : StateView)
    → list_any (is_due s.now) s.rows ≡ false → after_boundary plan dem s ≡ s
state-still plan dem s none = grind (arith, rows-still)

module _ (plan : Plan) (adm : IsAdmitted plan) (rm : plan.scheduler ≡ Rm) (dem : JobDemands) (s : StateView)
    (bel : Belongs plan dem s) (calm : CcRmCalm plan s) (some : list_any (is_due s.now) s.rows ≡ true) where
  abbrev marked : StateView
  marked = after_boundary plan dem s

  abbrev room : ℕ
  room = allotted_units plan marked

  bel' : Belongs plan dem marked
  bel' = belongs_boundary plan dem s bel

  at_due : s.now ≡ earliest_in plan s
  at_due = grind (arith, some_due_at, earliest-from, first-due)

  mark_now : marked.base_at ≡ s.now
  mark_now = ap (λ (b : Bool). if b then s.now else s.base_at) some

  later : s.now < earliest_in plan marked
  later = earliest-later plan adm.limits marked (decision_boundary plan dem s adm.limits bel).before

  abbrev gap : ℕ
  gap = earliest_in plan marked - s.now - 1

  place : s.now + suc gap ≡ earliest_in plan marked
  place = omega (arith, later)

  room_is : room ≡ suc gap * static_speed plan
  room_is = let span : earliest_in plan marked - marked.base_at ≡ suc gap =
      omega (arith, mark_now, later) in ap (λ (x : ℕ). x * static_speed plan) span

  base_is : (j : ℕ) → j < count plan → base_of marked j ≡ wleft_at marked j
  base_is j h = grind (arith, get_or-map, bel')

  -- right after the mark an allotment is wholly left
  left_is : (j : ℕ) → j < count plan → allotment_left_in plan marked j ≡ allotted_in plan marked j
  left_is j h = grind (arith, base_is)

  shares : SharesOut (count plan) (period plan) room (base_of marked) (allotted_in plan marked)
  shares = allotment-shares (count plan) (period plan) room (base_of marked)

  where_same : (test : ℕ → Bool) (f g : ℕ → ℕ) → ((j : ℕ) → j < count plan → f j ≡ g j)
      → sum_where (count plan) test f ≡ sum_where (count plan) test g
  where_same test f g e = grind (arith, sum_below-same)

  -- right after the mark the allotments of a level are the smaller of the room and what the level may need
  level_left : (i : ℕ)
      → sum_where (count plan) (level plan i) (allotment_left_in plan marked)
      ≡ min room (sum_where (count plan) (level plan i) (wleft_at marked))
  level_left i =
      where_same (level plan i) (allotment_left_in plan marked) (allotted_in plan marked) left_is
      ∙ (level-gets (count plan) (period plan) room (base_of marked) (allotted_in plan marked) shares i
      ∙ ap (λ (x : ℕ). min room x) (where_same (level plan i) (base_of marked) (wleft_at marked) base_is))

  -- right after the mark a level may need no more than it lacks in the worst static schedule
  level_needs : (i : ℕ) → i < count plan
      → sum_where (count plan) (level plan i) (wleft_at marked)
      ≤ sum_where (count plan) (level plan i) (lack_after plan s.now)
  level_needs i h =
      let n = count plan in
      let lv = level plan i in
      let adds : sum_where n lv (λ j. wleft_at marked j + lack plan s.now j)
      ≤ sum_where n lv (λ j. wleft_at s j + lack_after plan s.now j) =
      sum_where-mono n lv (λ j. wleft_at marked j + lack plan s.now j)
      (λ j. wleft_at s j + lack_after plan s.now j) (λ j hj on. row-adds plan adm dem s bel rm j hj) in
      let left_sum = sum_where-plus n lv (wleft_at marked) (lack plan s.now) in
      let right_sum = sum_where-plus n lv (wleft_at s) (lack_after plan s.now) in
      let old : sum_where n lv (wleft_at s) ≤ sum_where n lv (lack plan s.now) =
      subst (λ (u : ℕ). sum_where n lv (wleft_at s) ≤ sum_where n lv (lack plan u)) (sym at_due)
      (omega (arith, level-most plan adm dem s bel calm at_due i h, backlog-where plan (earliest_in plan s) i h)) in
      omega (arith, adds, left_sum, right_sum, old)

  level_backlog : (i : ℕ) → i < count plan
      → backlog plan (earliest_in plan marked) i ≡ sum_where (count plan) (level plan i) (lack_after plan s.now) - room
  level_backlog i h =
      let n = count plan in
      let lv = level plan i in
      backlog-where plan (earliest_in plan marked) i h
      ∙ (ap (λ (u : ℕ). sum_where n lv (lack plan u)) (sym place)
      ∙ (backlog-span plan adm rm lv (level_down plan i) s.now gap
      (λ u j a b hj. quiet plan adm dem marked bel' u j (omega (arith, mark_now)) (omega (arith, place)) hj)
      ∙ ap (λ (c : ℕ). sum_where n lv (lack_after plan s.now) - c) (sym room_is)))

  marked_since : (i : ℕ) → i < count plan → 0 < (row_at marked i).job
      → release_of plan i (row_at marked i) < marked.base_at → LacksNothing plan marked.base_at i
      → (row_at marked i).done ≡ true
  marked_since i h born before none =
      let row = row_at s i in
      let there : lack plan (earliest_in plan s) i ≡ 0 =
      subst (λ (u : ℕ). lack plan u i ≡ 0) (mark_now ∙ at_due) (lack-is plan marked.base_at i (omega arith) ∙ none) in
      boundary-by plan dem s bel i h (λ new. 0 < new.job → release_of plan i new < s.now → new.done ≡ true)
      (λ at_now b lt. absurd (omega (arith, opened_release plan dem i row (bel.deadline i h), at_now, lt)))
      (λ later_ b lt. completed-too plan adm dem s bel rm calm at_due i h b (omega (arith, at_due, lt)) there)
      born (subst (λ (u : ℕ). release_of plan i (row_at marked i) < u) mark_now before)

  marked_total : sum_below (count plan) (allotment_left_in plan marked)
      ≤ static_speed plan * (earliest_in plan marked - marked.now)
  marked_total =
      let n = count plan in
      let left_sum : sum_below n (allotment_left_in plan marked) ≡ sum_below n (allotted_in plan marked) =
      sum_below-same n (allotment_left_in plan marked) (allotted_in plan marked) left_is in
      let gets : sum_below n (allotted_in plan marked) ≡ min room (sum_below n (base_of marked)) =
      down-set-gets n (period plan) (λ j. true) room (base_of marked)
      (allotted_in plan marked) (λ j k hj hk b on. refl) shares in
      let clock : earliest_in plan marked - marked.now ≡ suc gap = omega (arith, later) in
      let turned : static_speed plan * suc gap ≡ suc gap * static_speed plan = omega arith in
      let fits : static_speed plan * (earliest_in plan marked - marked.now) ≡ room =
      ap (λ (x : ℕ). static_speed plan * x) clock ∙ (turned ∙ sym room_is) in
      omega (arith, left_sum, gets, fits)

  -- a boundary with a release keeps a calm state calm
  marked_calm : CcRmCalm plan marked
  marked_calm = grind (arith, level_left, level_needs, level_backlog, marked_total, marked_since)

pub cc_rm_releases : (plan : Plan) → IsAdmitted plan → plan.scheduler ≡ Rm → (dem : JobDemands) (s : StateView)
    → Belongs plan dem s → CcRmCalm plan s → CcRmCalm plan (after_boundary plan dem s)
cc_rm_releases plan adm rm dem s bel calm =
    elim (cases_Bool (list_any (is_due s.now) s.rows)) [
      | inl some ↦ marked_calm plan adm rm dem s bel calm some
      | inr none ↦ subst (λ (v : StateView). CcRmCalm plan v) (sym (state-still plan dem s none)) calm
    ]
