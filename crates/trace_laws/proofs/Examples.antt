-- A deadline at the last tick, completions that a text says twice or too late, and the shortest and the largest runs
-- within the limits, by evaluation.
use Rattle.std.proofs.Common.{◌≡◌, ◌≤◌, ◌<◌, inl, inr, ℕ, zero, suc, nat_eq, false, List, [], ◌∷◌, ◌++◌, drop, length, get_or, refl, codes, arith, ap, ap₂, ◌∙◌, sym, subst, length-append}
use Rattle.std.proofs.lemmas.Bool.Decides.{nat_tests}
use Rattle.std.specs.Fmt.{digits}
use Rattle.dvs_base.specs.declared.kind.GovernorKind.TheVariants.{Fixed, Cycle, Ahead}
use Rattle.dvs_base.specs.declared.kind.Scheduler.TheVariants.{Edf, Rm}
use Rattle.dvs_base.specs.declared.limits.TheConstants.{MOST_TICKS}
use Rattle.dvs_base.specs.declared.note.Pos.{Pos}
use Rattle.trace_text.specs.TraceLines.{line, done_fields}
use Rattle.sched_model.specs.Plan.{Plan, worst}
use Rattle.sched_model.specs.Jobs.{JobDemands, due, demand_of, worst_demand}
use Rattle.sched_model.proofs.JobLaws.{worst_demand-le}
use Rattle.sched_model.proofs.Examples.{task_of, row, three_speeds, paper_example, late_alone}
use Rattle.trace_laws.specs.DoneLines.{NoDoneLine, IsToldBy, TellsDeadlines}
use Rattle.note_laws.specs.InTime.{IsBy}
use Rattle.trace_laws.specs.RunTraces.{IsLimitedRun}

abbrev position : ℕ → ℕ → Pos
position tick offset = record { tick = tick; offset = offset }

-- a job that is due at the end of the last tick has its line too: the first of t1 is due at tick 8
told_at_the_end : (text : List ℕ) → TellsDeadlines (paper_example Edf) 8 text → IsToldBy (codes "t1") 1 8 text
unfolding due
told_at_the_end text tells = tells 0 1 (omega arith) (omega arith) (omega arith)

-- the lines of a completion of job 1 of a: within tick 0, at the beginning of tick 1, and one unit after that
abbrev end_within : List ℕ
end_within = codes "done 0:5 a 1 7" ++ 10 ∷ []

abbrev end_at_1 : List ℕ
end_at_1 = codes "done 1:0 a 1 7" ++ 10 ∷ []

abbrev end_after_1 : List ℕ
end_after_1 = codes "done 1:1 a 1 7" ++ 10 ∷ []

-- two lines say that the job completes: whichever of them is `told`, the other is before it or after it
said_twice : IsToldBy (codes "a") 1 1 (end_within ++ end_at_1) → ⊥
unfolding digits
said_twice r = other r.before r.none_before r.lines
  where
    other : (before : List (List ℕ)) → NoDoneLine (codes "a") 1 before
        → (end_within ∷ end_at_1 ∷ []) ≡ before ++ r.told ∷ r.after → ⊥
    other [] none e =
        let none_after : NoDoneLine (codes "a") 1 (end_at_1 ∷ []) =
        subst (NoDoneLine (codes "a") 1) (sym (ap (drop 1) e)) r.none_after in
        none_after 0 [] (omega arith) (position 1 0) (7, refl)
    other (l ∷ before) none e =
        none 0 [] (omega arith) (position 0 5) (7, sym (ap (λ (ls : List (List ℕ)). get_or ls 0 []) e))

-- the only line of a list is the one that is `told`
only_line : (l told : List ℕ) (before after : List (List ℕ)) → (l ∷ []) ≡ before ++ told ∷ after → l ≡ told
only_line l told [] after e = ap (λ (ls : List (List ℕ)). get_or ls 0 []) e
only_line l told (b ∷ before) after e =
    absurd (omega (arith, ap length e, length-append before (told ∷ after)))

-- no position by tick 1 has the line of the completion one unit after the beginning of tick 1
no_position : (q : Pos) (used : ℕ) → end_after_1 ≡ line (done_fields q (codes "a") 1 used) → IsBy 1 q → ⊥
unfolding digits
no_position q used e (inl before) =
    let tick : q.tick ≡ 0 = omega (arith, before) in
    let digit : 49 ≡ 48 =
    ap (λ (l : List ℕ). get_or l 5 0) e
    ∙ ap (λ t. get_or (line (done_fields (position t q.offset) (codes "a") 1 used)) 5 0) tick in
    omega (arith, digit)
no_position q used e (inr at_tick) =
    let digit : 49 ≡ 48 =
    ap (λ (l : List ℕ). get_or l 7 0) e
    ∙ ap₂ (λ t o. get_or (line (done_fields (position t o) (codes "a") 1 used)) 7 0) at_tick.0 at_tick.1 in
    omega (arith, digit)

-- so a text with that line alone doesn't say that the job completes by tick 1
said_late : IsToldBy (codes "a") 1 1 end_after_1 → ⊥
said_late r =
    no_position r.at_end r.done.0 (only_line end_after_1 r.told r.before r.after r.lines ∙ r.done.1) r.in_time

-- a run of one tick, in which each job needs its worst case
shortest_run : IsLimitedRun (paper_example Edf) Ahead (worst_demand (paper_example Edf)) 1
shortest_run = record {
  pair = refl;
  some_ticks = omega arith;
  low_ticks = omega arith;
  within = record { most = λ i k lt. worst_demand-le (paper_example Edf) i k; none = λ i. refl };
  few = omega arith;
}

-- one task with period 4 and worst case 4, whose first release is at tick 5; its first job needs 3 units
abbrev short_first : JobDemands
short_first = demand_of (late_alone Rm) (row 0 1 3 ∷ [])

-- a run with as many jobs as a run may have, which are 100000
most_jobs : IsLimitedRun (late_alone Rm) Cycle short_first 400005
most_jobs = record {
  pair = refl;
  some_ticks = omega arith;
  low_ticks = omega arith;
  within = record { most = most; none = λ i. refl };
  few = omega arith;
}
  where
    most : (i k : ℕ) → i < 1 → short_first i k ≤ worst (late_alone Rm) i
    most zero zero lt = omega arith
    most zero (suc zero) lt = omega arith
    most zero (suc (suc k)) lt =
        let later : nat_eq 1 (suc (suc k)) ≡ false = grind (arith, nat_tests) in
        rw later (omega arith)
    most (suc i) k lt = omega (arith, lt)

-- one task with a long period
abbrev rare : Plan
rare = record { tasks = task_of (codes "x") 16777216 4 ∷ []; machine = three_speeds; scheduler = Edf }

-- a run with as many ticks as a run may have
most_ticks : IsLimitedRun rare Fixed (worst_demand rare) MOST_TICKS
most_ticks = record {
  pair = refl;
  some_ticks = omega arith;
  low_ticks = omega arith;
  within = record { most = λ i k lt. worst_demand-le rare i k; none = λ i. refl };
  few = omega arith;
}
