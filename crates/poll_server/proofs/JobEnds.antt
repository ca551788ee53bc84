-- Where the notes of a schedule have a job as done, and what a listener that keeps the ends of jobs has heard.
use Rattle.std.proofs.Common.{◌≡◌, ℕ, suc, ◌-◌, ◌<◌, ◌≤◌, Bool, true, false, ◌&&◌, List, [], ◌∷◌, length, refl, arith, if◌then◌else◌, ap, ◌∙◌, nat_eq, ◌+◌, zero, replicate, ap₂, sym, subst}
use Rattle.std.specs.Prelude.{count_by, Option, Some, None}
use Rattle.std.specs.List.{AllByRecursion}
use Rattle.std.specs.Option.{option_or}
use Rattle.dvs_base.specs.declared.note.Note.{Note}
use Rattle.dvs_base.specs.declared.note.Note.TheVariants.{Done}
use Rattle.dvs_base.specs.declared.note.Pos.{Pos}
use Rattle.sched_model.specs.Plan.{Plan, count}
use Rattle.sched_model.specs.Jobs.{JobDemands, release, due}
use Rattle.sched_model.specs.Ticks.{PublishedDemand, Tick, at, exec, IsMet}
use Rattle.sched_model.specs.Schedule.{IsScheduleBy}
use Rattle.sched_model.specs.Admission.{IsWithinLimits}
use Rattle.sched_model.specs.Notes.{notes_of}
use Rattle.sched_model.proofs.Limits.{every_period}
use Rattle.sched_model.proofs.NoteSums.{one_if, tells_done}
use Rattle.sched_model.proofs.Schedules.{exec-most, exec-drop}
use Rattle.sched_model.proofs.JobLaws.{release-due}
use Rattle.note_laws.specs.InTime.{IsBy}
use Rattle.note_laws.proofs.CountLemmas.{count-next, none-counted, told-once, told-never, IsInTime, in-time}
use Rattle.dvs_base.proofs.Options.{or-none, or-assoc}
use Rattle.event_kernel.specs.Heard.{HasHeard}
use Rattle.poll_server.specs.Outcomes.{done_position, done_at}
use Rattle.poll_server.specs.declared.ends.Ends.{Ends}
use Rattle.poll_server.specs.Walks.{Hears, end_at}

-- the job is done, at a position not after tick t
abbrev pub IsEndBy : ℕ → Option Pos → Type 0
IsEndBy t (Some at_end) = IsBy t at_end
IsEndBy t None = ⊥

-- if no note says that the job is done, it has no end
pub never-done : (i k : ℕ) (notes : List Note) → AllByRecursion (λ n. tells_done i k n ≡ false) notes → done_at notes i k ≡ None
never-done i k [] none = refl
never-done i k (n ∷ notes) none = rw (off n none.0) (never-done i k notes none.1)
  where
    off : (n : Note) → tells_done i k n ≡ false → done_position n i k ≡ None
    off (Done q j l used) e = rw e refl
    off _ e = refl

-- if some note says that the job is done and each that does is in time, the first such note is
pub ends-by : (t i k : ℕ) (notes : List Note) → 0 < count_by (tells_done i k) notes → AllByRecursion (IsInTime t i k) notes
    → IsEndBy t (done_at notes i k)
ends-by t i k [] some early = absurd (omega arith)
ends-by t i k (n ∷ notes) some early =
    one n early.0 refl (λ none. ends-by t i k notes (omega (arith, count-next (tells_done i k) n notes, some, ap one_if none)) early.1)
  where
    one : (m : Note) → IsInTime t i k m → n ≡ m → (tells_done i k n ≡ false → IsEndBy t (done_at notes i k))
        → IsEndBy t (option_or (done_position m i k) (done_at notes i k))
    one (Done q j l used) by is ih = go (nat_eq i j && nat_eq k l) refl
      where
        go : (b : Bool) → (nat_eq i j && nat_eq k l) ≡ b → IsEndBy t (option_or (if b then Some q else None) (done_at notes i k))
        go true e = by e
        go false e = ih (ap (tells_done i k) is ∙ e)
    one _ by is ih = ih (ap (tells_done i k) is)

-- a schedule of a plan within the limits, and a job of one of its tasks
module _ (p : Plan) (dem : JobDemands) (ask : PublishedDemand) (lim : IsWithinLimits p) (ticks : List Tick)
    (sched : IsScheduleBy p dem ask ticks) (i k : ℕ) (lt : i < count p) (some : 1 ≤ k) where
  abbrev notes : List Note
  notes = notes_of p dem ask ticks

  -- a job that isn't released within the ticks isn't done
  pub ends-never : length ticks ≤ release p i k → done_at notes i k ≡ None
  ends-never later =
      never-done i k notes (none-counted (tells_done i k) notes (told-never p dem ask lim i k lt some ticks sched later))

  -- if the deadlines are met, a job that is due within the ticks is done by then
  pub ends-in-time : IsMet p dem ticks → due p i k ≤ length ticks → IsEndBy (due p i k) (done_at notes i k)
  ends-in-time met within =
      let by : exec p (at (due p i k) ticks) i k ≡ dem i k = met i k lt some within in
      let most : exec p ticks i k ≤ dem i k = exec-most p dem ask ticks sched i k lt in
      let had : exec p ticks i k ≡ dem i k = omega (arith, by, most, exec-drop p i k (length ticks - due p i k) ticks) in
      let began : release p i k < length ticks = omega (arith, release-due p i k some, every_period p lim i, within) in
      let once = told-once p dem ask lim i k lt some ticks sched began had in
      ends-by (due p i k) i k notes (omega (arith, once)) (in-time p dem ask lim i k lt some ticks sched)

-- before any note no job has an end
pub none-told : (n k : ℕ) → end_at (replicate {A = Option Pos} n None) k ≡ None
none-told zero k = refl
none-told (suc n) zero = refl
none-told (suc n) (suc k) = none-told n k

-- the ends after a list of notes: the first end of a job stays
pub record HearsAll (a : Ends) (notes : List Note) (b : Ends) : Type 0 where
  pub task : b.task ≡ a.task
  pub long : length b.ends.items ≡ length a.ends.items
  pub told : (k : ℕ) → k < length a.ends.items
      → end_at b.ends.items k ≡ option_or (end_at a.ends.items k) (done_at notes a.task (k + 1))

hears-more : (a : Ends) (n : Note) (next : Ends) (notes : List Note) (b : Ends) → Hears a n next → HearsAll next notes b
    → HearsAll a (n ∷ notes) b
hears-more a n next notes b first rest = record {
  task = rest.task ∙ first.task;
  long = rest.long ∙ first.long;
  told = λ k lt.
      let low : k < length next.ends.items = subst (λ (l : ℕ). k < l) (sym first.long) lt in
      rest.told k low
      ∙ (ap₂ (λ (o p : Option Pos). option_or o p) (first.told k lt) (ap (λ (task : ℕ). done_at notes task (k + 1)) first.task)
      ∙ or-assoc (end_at a.ends.items k) (done_position n a.task (k + 1)) (done_at notes a.task (k + 1)));
}

pub hears-all : (a : Ends) (notes : List Note) (b : Ends) → HasHeard Hears a notes b → HearsAll a notes b
hears-all a [] b h = record {
  task = ap (λ (e : Ends). e.task) (sym h);
  long = ap (λ (e : Ends). length e.ends.items) (sym h);
  told = λ k lt. ap (λ (e : Ends). end_at e.ends.items k) (sym h) ∙ sym (or-none (end_at a.ends.items k));
}
hears-all a (n ∷ notes) b h = hears-more a n h.0 notes b h.1 (hears-all h.0 notes b h.2)
