-- Which demands the notes of a schedule fix: the list of these demands, computed note by note, has the same notes, and
-- notes that fit fix a list within the worst cases.
use Rattle.std.proofs.Common.{◌≡◌, max, ◌*◌, ◌-◌, ◌+◌, ◌≤◌, ℕ, zero, suc, Bool, true, false, ◌&&◌, List, [], ◌∷◌, refl, if◌then◌else◌, ap, ◌∙◌, nat_eq, arith, ◌<◌, length, sym, subst, ◌⊎◌, inl, inr}
use Rattle.std.specs.Prelude.{Option, Some, None, unwrap_or, option_map, count_by}
use Rattle.std.specs.Option.{option_or}
use Rattle.std.proofs.Math.Logic.{⊎_elim}
use Rattle.std.proofs.lemmas.Bool.Decides.{nat_tests}
use Rattle.std.specs.List.{AllByRecursion}
use Rattle.dvs_base.specs.declared.note.Note.{Note}
use Rattle.dvs_base.specs.declared.note.Note.TheVariants.{Done}
use Rattle.task_model.specs.DemandRows.{named_units, DemandRow}
use Rattle.sched_model.specs.Plan.{Plan, worst, count}
use Rattle.sched_model.specs.Jobs.{JobDemands, latest, release, demand_of, IsWithin}
use Rattle.sched_model.specs.Ticks.{PublishedDemand, Tick, exec, is_done}
use Rattle.sched_model.specs.Schedule.{IsScheduleBy, schedule_by}
use Rattle.sched_model.specs.Admission.{IsWithinLimits}
use Rattle.sched_model.specs.Notes.{Span, had_by, notes_before_end, notes_of}
use Rattle.sched_model.proofs.NoteSums.{one_if, tells_done, same-numbers}
use Rattle.sched_model.proofs.Spans.{IsLastSpan, IsNow}
use Rattle.sched_model.proofs.Walk.{EachNote, AreFirst, each-note, IsBeforeEnd, notes-each}
use Rattle.dvs_base.proofs.Lists.{each-append}
use Rattle.note_laws.proofs.CountLemmas.{count-next, told-once}
use Rattle.sched_model.proofs.Schedules.{schedule_exists, schedule_unique, exec-most}
use Rattle.demand_list.specs.Demands.{IsDemands, IsRow}
use Rattle.demand_list.proofs.Rows.{worst-listed, worsts-long}
use Rattle.replay_laws.specs.FixedDemands.{fixed_of, first_end, fixed_list}
use Rattle.replay_laws.specs.OwnList.{HasFixedDemands, Asking, ticks_by, notes_by, TellSame, LooksAtNone, IsFit}
use Rattle.replay_laws.proofs.SameNotes.{had-most, same-notes, Alike, IsBlind, same-course}

-- the row of a job has the units of its first completion, without the charge
named-fixed : (p : Plan) (notes : List Note) (i k : ℕ) → 1 ≤ k
    → named_units (fixed_of p notes) i k ≡ option_map (λ used. used - 2 * p.machine.charge) (first_end notes i k)
named-fixed p [] i k some = refl
named-fixed p (Done at_end j zero used ∷ notes) i k some =
    let other : (nat_eq j i && nat_eq 0 k) ≡ false = grind (arith, nat_tests, some) in
    rw other (named-fixed p notes i k some)
named-fixed p (Done at_end j (suc l) used ∷ notes) i k some = go (nat_eq j i && nat_eq (suc l) k) (named-fixed p notes i k some)
  where
    go : (b : Bool) → named_units (fixed_of p notes) i k ≡ option_map (λ n. n - 2 * p.machine.charge) (first_end notes i k)
        → (if b then Some (used - 2 * p.machine.charge) else named_units (fixed_of p notes) i k) ≡ option_map
        (λ n. n - 2 * p.machine.charge) (option_or (if b then Some used else None) (first_end notes i k))
    go true ih = refl
    go false ih = ih
named-fixed p (n ∷ notes) i k some = named-fixed p notes i k some

-- the list that notes fix has the demands that they fix
pub fixed-demand : (p : Plan) → HasFixedDemands p
fixed-demand p notes i zero some = absurd (omega (arith, some))
fixed-demand p notes i (suc k) some =
    ap (λ (o : Option ℕ). unwrap_or (option_map (λ u. u + 2 * p.machine.charge) o) (worst p i))
    (named-fixed p notes i (suc k) some) ∙ go (first_end notes i (suc k))
  where
    go : (o : Option ℕ) → unwrap_or (option_map (λ u. u + 2 * p.machine.charge) (option_map (λ used. used - 2 * p.machine.charge) o)) (worst p i)
        ≡ unwrap_or (option_map (λ used. max used (2 * p.machine.charge)) o) (worst p i)
    go None = refl
    go (Some used) = omega arith

-- if the note is the completion of job k of task i, its units are the job's demand, which the job has had
abbrev pub TellsTrue : ℕ → ℕ → ℕ → ℕ → Note → Type 0
TellsTrue i k need had (Done at_end j l used) = (nat_eq i j && nat_eq k l) ≡ true → (used ≡ need) × (need ≤ had)
TellsTrue i k need had _ = Unit {0}

-- what notes fix of a job: nothing, if none is its completion, and otherwise its demand, which it has had
abbrev pub Fixes : Plan → JobDemands → ℕ → ℕ → ℕ → Option ℕ → ℕ → Type 0
Fixes p dem i k had row ends = ((row ≡ None) × (ends ≡ 0)) ⊎ ((row ≡ Some (dem i k - 2 * p.machine.charge)) × (dem i k ≤ had))

module _ (p : Plan) (dem : JobDemands) (ask : PublishedDemand) (lim : IsWithinLimits p) (i k : ℕ) (inside : i < count p) (some_job : 1 ≤ k) where
  abbrev AreTrue : ℕ → List Note → Type 0
  AreTrue had = AllByRecursion (TellsTrue i k (dem i k) had)

  -- each note of a schedule is true
  pub notes-true : (ticks : List Tick) → IsScheduleBy p dem ask ticks → AreTrue (exec p ticks i k) (notes_of p dem ask ticks)
  notes-true ticks sched =
      each-append (TellsTrue i k (dem i k) (exec p ticks i k)) (notes_before_end p dem ask ticks) _
      (each-note p dem ask lim (TellsTrue i k (dem i k) (exec p ticks i k)) ticks each sched) (tt, tt)
    where
      each : (x : Tick) (past : List Tick) (s : Span) → AreFirst p dem ask (x ∷ past) ticks → IsLastSpan p dem ask x past s
          → EachNote p dem ask (TellsTrue i k (dem i k) (exec p ticks i k)) (IsNow p dem (length past)) s
      each x past s first l = record {
        release = λ j lt. tt;
        empty = λ j lt none mine.
            let same : dem j (latest p j (length s.past)) ≡ dem i k = same-numbers dem i j k (latest p j (length s.past)) mine in
            (omega (arith, same, none), omega (arith, same, none));
        decision = tt;
        idle = λ q units le. tt;
        run = λ q units j m le now. tt;
        done = λ q j m le now whole mine.
            let same : dem j m ≡ dem i k = same-numbers dem i j k m mine in
            let had : had_by p s q j m ≡ had_by p s q i k = same-numbers (had_by p s q) i j k m mine in
            (same, omega (arith, same, had, whole, had-most p s q i k, l.had lim i k inside some_job, first.less i k));
      }

  -- these notes fix nothing of the job if it has no end, and otherwise its demand
  abbrev AreFixed : ℕ → List Note → ℕ → Type 0
  AreFixed had notes ends = Fixes p dem i k had (named_units (fixed_of p notes) i k) ends

  -- true notes fix nothing of a job, or its demand
  pub fixes : (had : ℕ) (notes : List Note) → AreTrue had notes → Fixes p dem i k had (named_units (fixed_of p notes) i k) (count_by (tells_done i k) notes)
  fixes had [] all = inl (refl, refl)
  fixes had (n ∷ notes) all =
      subst (AreFixed had (n ∷ notes)) (sym (count-next (tells_done i k) n notes)) (one n all.0 (fixes had notes all.1))
    where
      none : AreFixed had notes (count_by (tells_done i k) notes) → AreFixed had notes (0 + count_by (tells_done i k) notes)
      none (inl a) = inl (a.0, omega (arith, a.1))
      none (inr b) = inr b

      one : (n : Note) → TellsTrue i k (dem i k) had n → AreFixed had notes (count_by (tells_done i k) notes)
          → AreFixed had (n ∷ notes) (one_if (tells_done i k n) + count_by (tells_done i k) notes)
      one (Done at_end j zero used) tells rest =
          let other : (nat_eq i j && nat_eq k 0) ≡ false = grind (arith, nat_tests, some_job) in
          rw other (none rest)
      one (Done at_end j (suc l) used) tells rest = go (nat_eq i j && nat_eq k (suc l)) refl
        where
          go : (b : Bool) → (nat_eq i j && nat_eq k (suc l)) ≡ b
              → AreFixed had (Done at_end j (suc l) used ∷ notes) (one_if (nat_eq i j && nat_eq k (suc l)) + count_by (tells_done i k) notes)
          go true e =
              let mine : (nat_eq j i && nat_eq (suc l) k) ≡ true = grind (arith, nat_tests, e) in
              let (is, had_it) = tells e in
              inr (
                ap (λ (b : Bool). if b then Some (used - 2 * p.machine.charge) else named_units (fixed_of p notes) i k) mine
                    ∙ ap (λ n. Some (n - 2 * p.machine.charge)) is,
                had_it,
              )
          go false e =
              let other : (nat_eq j i && nat_eq (suc l) k) ≡ false = grind (arith, nat_tests, e) in
              rw (e, other) (none rest)
      one _ tells rest = none rest

module _ (p : Plan) (lim : IsWithinLimits p) (ask : Asking) (blind : IsBlind p ask) where
  -- two demands that the ticks don't distinguish have the same ticks
  same-ticks : (dem other : JobDemands) (ticks : ℕ) → ((i : ℕ) → dem i 0 ≡ 0) → Alike p dem other (ticks_by p ask dem ticks) (length (ticks_by p ask dem ticks))
      → ticks_by p ask other ticks ≡ ticks_by p ask dem ticks
  same-ticks dem other ticks none h =
      let exists = schedule_exists p dem (ask dem) ticks in
      let by_other : IsScheduleBy p other (ask other) (ticks_by p ask dem ticks) =
      same-course p lim dem other none ask blind (ticks_by p ask dem ticks) h exists.0 in
      ap (schedule_by p other (ask other)) (sym exists.1) ∙ sym (schedule_unique p other (ask other) (ticks_by p ask dem ticks) by_other)

  -- two demands that the ticks don't distinguish have the same notes
  same-told : (dem other : JobDemands) (ticks : ℕ) → ((i : ℕ) → dem i 0 ≡ 0) → ((i : ℕ) → other i 0 ≡ 0)
      → Alike p dem other (ticks_by p ask dem ticks) (length (ticks_by p ask dem ticks))
      → notes_by p ask other ticks ≡ notes_by p ask dem ticks
  same-told dem other ticks none none_other h =
      ap (notes_of p other (ask other)) (same-ticks dem other ticks none h)
      ∙ sym (same-notes p lim dem other ask blind (λ i. none i ∙ sym (none_other i)) (ticks_by p ask dem ticks) (schedule_exists p dem (ask dem) ticks).0 h)

  -- two demands for the same notes are not distinguished by the ticks
  alike-told : (dem other : JobDemands) (ticks : List Tick) → TellSame p dem other ticks → Alike p dem other ticks (length ticks)
  alike-told dem other ticks h i zero lt early = (
    λ e. h.none i ∙ sym (h.other_none i),
    λ e. let nothing : dem i 0 ≡ 0 = h.none i in absurd (grind (arith, nat_tests, e, nothing)),
  )
  alike-told dem other ticks h i (suc k) lt early = (h.finished i (suc k) lt (omega arith) early, h.unfinished i (suc k) lt (omega arith) early)

  pub looks-at-none : LooksAtNone p ask
  looks-at-none dem other ticks h =
      let alike : Alike p dem other (ticks_by p ask dem ticks) (length (ticks_by p ask dem ticks)) = alike-told dem other (ticks_by p ask dem ticks) h in
      (same-ticks dem other ticks h.none alike, same-told dem other ticks h.none h.other_none alike)

-- the demand of a job with a row is the row's units and twice the charge
pub demand-row : (p : Plan) (rows : List DemandRow) (i k units : ℕ) → 1 ≤ k → named_units rows i k ≡ Some units
    → demand_of p rows i k ≡ units + 2 * p.machine.charge
demand-row p rows i zero units some e = absurd (omega (arith, some))
demand-row p rows i (suc k) units some e = ap (λ (o : Option ℕ). unwrap_or (option_map (λ u. u + 2 * p.machine.charge) o) (worst p i)) e

pub demand-none : (p : Plan) (rows : List DemandRow) (i k : ℕ) → 1 ≤ k → named_units rows i k ≡ None → demand_of p rows i k ≡ worst p i
demand-none p rows i zero some e = absurd (omega (arith, some))
demand-none p rows i (suc k) some e = ap (λ (o : Option ℕ). unwrap_or (option_map (λ u. u + 2 * p.machine.charge) o) (worst p i)) e

-- the demand of each job from 1 on is at least twice the charge
charge-least : (p : Plan) (rows : List DemandRow) (i k : ℕ) → 1 ≤ k → 2 * p.machine.charge ≤ demand_of p rows i k
charge-least p rows i k some = go (named_units rows i k) refl
  where
    go : (o : Option ℕ) → named_units rows i k ≡ o → 2 * p.machine.charge ≤ demand_of p rows i k
    go None e = omega (arith, demand-none p rows i k some e)
    go (Some units) e = omega (arith, demand-row p rows i k units some e)

module _ (p : Plan) (lim : IsWithinLimits p) (ask : Asking) (blind : IsBlind p ask) (rows : List DemandRow)
    (within : IsWithin p (demand_of p rows)) (t : ℕ) where
  abbrev dem : JobDemands
  dem = demand_of p rows

  abbrev ticks : List Tick
  ticks = ticks_by p ask dem t

  abbrev all_notes : List Note
  all_notes = notes_of p dem (ask dem) ticks

  abbrev own : JobDemands
  own = demand_of p (fixed_of p all_notes)

  is_schedule : IsScheduleBy p dem (ask dem) ticks
  is_schedule = (schedule_exists p dem (ask dem) t).0

  -- the notes fix nothing of a job, or its demand
  pub told : (i k : ℕ) → i < count p → 1 ≤ k → Fixes p dem i k (exec p ticks i k) (named_units (fixed_of p all_notes) i k) (count_by (tells_done i k) all_notes)
  told i k lt some = fixes p dem (ask dem) lim i k lt some (exec p ticks i k) all_notes (notes-true p dem (ask dem) lim i k lt some ticks is_schedule)

  -- the demand that the list has for a job whose completion is among the notes is the job's demand
  pub own-told : (i k : ℕ) → 1 ≤ k → named_units (fixed_of p all_notes) i k ≡ Some (dem i k - 2 * p.machine.charge) → own i k ≡ dem i k
  own-told i k some e = omega (arith, demand-row p (fixed_of p all_notes) i k (dem i k - 2 * p.machine.charge) some e, charge-least p rows i k some)

  -- the completion of a finished job is among the notes once
  pub told-finished : (i k : ℕ) → i < count p → 1 ≤ k → release p i k < length ticks → is_done p dem ticks i k ≡ true → count_by (tells_done i k) all_notes ≡ 1
  told-finished i k lt some early done =
      let most : exec p ticks i k ≤ dem i k = exec-most p dem (ask dem) ticks is_schedule i k lt in
      let whole : exec p ticks i k ≡ dem i k = grind (arith, nat_tests, done, most) in
      told-once p dem (ask dem) lim i k lt some ticks is_schedule early whole

  -- the list that the notes fix and the demands are two demands for the same notes
  pub tell-same : TellSame p dem own ticks
  tell-same = record {
    finished = λ i k lt some early done.
        let once = told-finished i k lt some early done in
        ⊎_elim (λ a. absurd (omega (arith, once, a.1))) (λ b. sym (own-told i k some b.0)) (told i k lt some);
    unfinished = λ i k lt some early open_job.
        let more : exec p ticks i k < dem i k = grind (arith, nat_tests, open_job) in
        ⊎_elim (λ a. omega (arith, more, within.most i k lt, demand-none p (fixed_of p all_notes) i k some a.0))
        (λ b. absurd (omega (arith, more, b.1))) (told i k lt some);
    none = λ i. refl;
    other_none = λ i. refl;
  }

  -- the list that the notes fix has the same notes
  pub own-notes : all_notes ≡ notes_by p ask own t
  own-notes = sym (looks-at-none p lim ask blind dem own t tell-same).1

-- a completion is of a task of the plan
abbrev pub IsOfTask : Plan → Note → Type 0
IsOfTask p (Done at_end i k used) = i < count p
IsOfTask p _ = Unit {0}

module _ (p : Plan) (lim : IsWithinLimits p) (dem : JobDemands) (ask : PublishedDemand) where
  -- each completion is within its worst case, if no demand exceeds its worst case
  pub notes-fit : IsWithin p dem → (ticks : List Tick) → AllByRecursion (IsFit p) (notes_of p dem ask ticks)
  notes-fit within = notes-each p dem ask (IsFit p) fit (λ ticks run idle. tt)
    where
      fit : (n : Note) → IsBeforeEnd p dem n → IsFit p n
      fit (Done at_end i k used) h = omega (arith, h.1, within.most i k h.0)
      fit _ h = tt

  -- each completion is of a task of the plan
  pub notes-of-tasks : (ticks : List Tick) → AllByRecursion (IsOfTask p) (notes_of p dem ask ticks)
  notes-of-tasks = notes-each p dem ask (IsOfTask p) of (λ ticks run idle. tt)
    where
      of : (n : Note) → IsBeforeEnd p dem n → IsOfTask p n
      of (Done at_end i k used) h = h.0
      of _ h = tt

-- the row of a job that fit notes fix is, with the charge, at most its worst case
row-fit : (p : Plan) (i k units : ℕ) (notes : List Note) → AllByRecursion (IsFit p) notes
    → named_units (fixed_of p notes) i k ≡ Some units → units + 2 * p.machine.charge ≤ worst p i
row-fit p i k units [] fit e = absurd cc
row-fit p i k units (Done at_end j (suc l) used ∷ notes) fit e = go (nat_eq j i && nat_eq (suc l) k) refl (row-fit p i k units notes fit.1)
  where
    go : (b : Bool) → (nat_eq j i && nat_eq (suc l) k) ≡ b
        → (named_units (fixed_of p notes) i k ≡ Some units → units + 2 * p.machine.charge ≤ worst p i)
        → units + 2 * p.machine.charge ≤ worst p i
    go true mine rest =
        let task : j ≡ i = grind (arith, nat_tests, mine) in
        let row : Some (used - 2 * p.machine.charge) ≡ Some units =
        sym (ap (λ (b : Bool). if b then Some (used - 2 * p.machine.charge) else named_units (fixed_of p notes) i k)
        mine) ∙ e in
        let is : used - 2 * p.machine.charge ≡ units = ap (λ (o : Option ℕ). unwrap_or o 0) row in
        let most : used ≤ worst p i = subst (λ m. used ≤ worst p m) task fit.0 in
        omega (arith, is, most)
    go false other rest = rest (sym (ap (λ (b : Bool). if b then Some (used - 2 * p.machine.charge) else named_units (fixed_of p notes) i k) other) ∙ e)
row-fit p i k units (n ∷ notes) fit e = row-fit p i k units notes fit.1 e

-- the list that fit notes fix is within the worst cases
pub fixed-within : (p : Plan) (notes : List Note) → AllByRecursion (IsFit p) notes → IsWithin p (demand_of p (fixed_of p notes))
fixed-within p notes fit = record { most = λ i k lt. most i k; none = λ i. refl }
  where
    most : (i k : ℕ) → demand_of p (fixed_of p notes) i k ≤ worst p i
    most i zero = omega arith
    most i (suc k) = go (named_units (fixed_of p notes) i (suc k)) refl
      where
        go : (o : Option ℕ) → named_units (fixed_of p notes) i (suc k) ≡ o → demand_of p (fixed_of p notes) i (suc k) ≤ worst p i
        go None e = omega (arith, demand-none p (fixed_of p notes) i (suc k) (omega arith) e)
        go (Some units) e = omega (arith, demand-row p (fixed_of p notes) i (suc k) units (omega arith) e, row-fit p i (suc k) units notes fit e)

-- the rows that fit completions of the plan's tasks fix are rows of a demand list
rows-fit : (p : Plan) (all notes : List Note) → AllByRecursion (IsFit p) notes → AllByRecursion (IsOfTask p) notes
    → AllByRecursion (IsRow (fixed_list p all).worsts) (fixed_of p notes)
rows-fit p all [] fit of = tt
rows-fit p all (Done at_end j (suc l) used ∷ notes) fit of = (
  record {
    task = omega (arith, worsts-long p.tasks (fixed_list p all) refl, of.0);
    job = omega arith;
    units = omega (arith, fit.0, worst-listed p.tasks (fixed_list p all) refl j of.0);
  },
  rows-fit p all notes fit.1 of.1,
)
rows-fit p all (n ∷ notes) fit of = rows-fit p all notes fit.1 of.1

-- fit completions of the plan's tasks fix a demand list
pub fixed-demands : (p : Plan) → IsWithinLimits p → (notes : List Note) → AllByRecursion (IsFit p) notes
    → AllByRecursion (IsOfTask p) notes → IsDemands (fixed_list p notes)
fixed-demands p lim notes fit of = record {
  few = omega (arith, worsts-long p.tasks (fixed_list p notes) refl, lim.tasks.few);
  each = rows-fit p notes notes fit of;
}
