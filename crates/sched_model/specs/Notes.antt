-- The segments of a schedule, and its notes in the order of the trace.
use Rattle.std.specs.Prelude.{ℕ, nat_eq, List, [], ◌∷◌, if◌then◌else◌, flat_map, Bool, true, false, ◌&&◌, ◌+◌, count_by, take, ◌/◌, ◌%◌, ◌*◌, length, ◌++◌, ◌-◌, replicate, reverse, sum_by}
use Rattle.dvs_base.specs.declared.note.Note.{Note}
use Rattle.sched_model.specs.declared.holder.Holder.{Holder}
use Rattle.sched_model.specs.declared.holder.Holder.TheVariants.{Held, Nobody}
use Rattle.dvs_base.specs.declared.note.Note.TheVariants.{Release, Done, Run, Idle, Speed, End}
use Rattle.grid_fraction.specs.Numbers.{list_below, sum_below}
use Rattle.dvs_base.specs.declared.note.Pos.{Pos}
use Rattle.freq_table.specs.declared.limits.TheConstants.{MOST_MILLIVOLTS}
use Rattle.sched_model.specs.Plan.{Plan, count, point}
use Rattle.sched_model.specs.Jobs.{JobDemands, latest, releases_at}
use Rattle.sched_model.specs.Ticks.{PublishedDemand, Tick, exec, share}
use Rattle.sched_model.specs.Priority.{key_of, in_order}
use Rattle.sched_model.specs.Decision.{is_decision}

-- the release of task i at tick t, with the completion of its job if its demand is 0; none if it has no release
abbrev pub release_notes : Plan → JobDemands → ℕ → ℕ → List Note
release_notes p dem t i =
    let k = latest p i t in
    if releases_at p i t
    then Release t i k ∷ (if nat_eq (dem i k) 0 then Done (record { tick = t; offset = 0 }) i k 0 ∷ [] else [])
    else []

-- the notes of the releases of tick t, in file order
abbrev pub all_release_notes : Plan → JobDemands → ℕ → List Note
all_release_notes p dem t = flat_map (release_notes p dem t) (list_below (count p) (λ i. i))

-- whether two holders are the same: nobody, or the same job
abbrev pub same_holder : Holder → Holder → Bool
same_holder Nobody Nobody = true
same_holder Nobody (Held j l) = false
same_holder (Held i k) Nobody = false
same_holder (Held i k) (Held j l) = nat_eq i j && nat_eq k l

-- the ticks from one decision instant up to the next: the past at that instant, the entry in force,
-- and the units of all ticks
pub record Span : Type 0 where
  pub past : List Tick
  pub entry : ℕ
  pub units : List Holder

-- the units that job k of task i has had by the end of the first q units of a span
abbrev pub had_by : Plan → Span → ℕ → ℕ → ℕ → ℕ
had_by p s q i k = exec p s.past i k + count_by (same_holder (Held i k)) (take q s.units)

-- the position where unit number q of a span begins; the span begins at tick t0 and has f units a tick
abbrev pub position_of : ℕ → ℕ → ℕ → Pos
position_of t0 f q = record { tick = t0 + q / f; offset = q % f }

-- the energy of `units` running units at entry e
abbrev pub run_energy : Plan → ℕ → ℕ → ℕ
run_energy p e units = let mv = (point p e).millivolts in units * mv * mv * 1000

-- the energy of `units` idle units at entry e
abbrev pub idle_energy : Plan → ℕ → ℕ → ℕ
idle_energy p e units = let mv = (point p e).millivolts in units * mv * mv * p.machine.idle

-- the most energy of one unit: that of a running unit at the highest voltage
abbrev pub most_unit_energy : ℕ
most_unit_energy = MOST_MILLIVOLTS * MOST_MILLIVOLTS * 1000

-- a segment from unit number q of a span on, with the completion of its job if the job then has its demand
abbrev pub segment_notes : Plan → JobDemands → Span → ℕ → ℕ → Holder → List Note
segment_notes p dem s q units Nobody =
    let at_unit = position_of (length s.past) ((point p s.entry).speed) in
    Idle (at_unit q) (at_unit (q + units)) units (idle_energy p s.entry units) ∷ []
segment_notes p dem s q units (Held i k) =
    let at_unit = position_of (length s.past) ((point p s.entry).speed) in
    Run (at_unit q) (at_unit (q + units)) i k units (run_energy p s.entry units)
    ∷ (if nat_eq (had_by p s (q + units) i k) (dem i k) then Done (at_unit (q + units)) i k (dem i k) ∷ [] else [])

-- a number of units in a row with one holder
pub record Piece : Type 0 where
  pub holder : Holder
  pub units : ℕ

-- the notes of the pieces of a span from its unit number q on
abbrev pub pieces_notes : Plan → JobDemands → Span → ℕ → List Piece → List Note
pieces_notes p dem s q [] = []
pieces_notes p dem s q (r ∷ pieces) = segment_notes p dem s q r.units r.holder ++ pieces_notes p dem s (q + r.units) pieces

-- the pieces, with one more unit before the first
abbrev pub before_pieces : Holder → List Piece → List Piece
before_pieces h [] = record { holder = h; units = 1 } ∷ []
before_pieces h (r ∷ pieces) =
    if same_holder h r.holder
    then record { holder = h; units = r.units + 1 } ∷ pieces
    else record { holder = h; units = 1 } ∷ r ∷ pieces

-- a list of units cut into its longest runs with one holder
abbrev pub pieces_of : List Holder → List Piece
pieces_of [] = []
pieces_of (h ∷ hs) = before_pieces h (pieces_of hs)

-- the notes from a decision instant up to the next: the releases, the speed and the segments
abbrev pub span_notes : Plan → JobDemands → PublishedDemand → Span → List Note
span_notes p dem ask s =
    all_release_notes p dem (length s.past)
    ++ Speed (length s.past) ((point p s.entry).speed) ((ask s.past).num) ((ask s.past).den)
    ∷ pieces_notes p dem s 0 (pieces_of s.units)

-- the energy that a note gives for a running segment; 0 for other notes
abbrev pub run_energy_told : Note → ℕ
run_energy_told (Run from to i k units energy) = energy
run_energy_told _ = 0

-- the energy that a note gives for an idle segment; 0 for other notes
abbrev pub idle_energy_told : Note → ℕ
idle_energy_told (Idle from to units energy) = energy
idle_energy_told _ = 0

-- the units that the tasks of a list get, one task after another; `job` is each task's job
abbrev pub given_units : (ℕ → ℕ) → (ℕ → ℕ) → List ℕ → List Holder
given_units given job tasks = flat_map (λ i. replicate (given i) (Held i (job i))) tasks

-- the units of the tick x: each task's in priority order, then the idle ones
abbrev pub tick_units : Plan → List Tick → Tick → List Holder
tick_units p past x =
    let t = length past in
    given_units (share x) (λ i. latest p i t) (in_order (key_of p.scheduler p t) (count p))
    ++ replicate ((point p x.entry).speed - sum_below (count p) (share x)) Nobody

-- the spans, with the units `us` added at the end of the last one
abbrev pub spans_with : List Holder → List Span → List Span
spans_with us [] = []
spans_with us (s ∷ spans) = record { past = s.past; entry = s.entry; units = s.units ++ us } ∷ spans

-- the spans of a list of ticks, the last one first
abbrev pub spans_of : Plan → JobDemands → List Tick → List Span
spans_of p dem [] = []
spans_of p dem (x ∷ past) =
    if is_decision p dem past
    then record { past = past; entry = x.entry; units = tick_units p past x } ∷ spans_of p dem past
    else spans_with (tick_units p past x) (spans_of p dem past)

-- the notes of a list of ticks without the end
unfoldable pub notes_before_end : Plan → JobDemands → PublishedDemand → List Tick → List Note
notes_before_end p dem ask ticks = flat_map (span_notes p dem ask) (reverse (spans_of p dem ticks))

-- the notes of a list of ticks, with the end and its sums of energy
abbrev pub notes_of : Plan → JobDemands → PublishedDemand → List Tick → List Note
notes_of p dem ask ticks =
    let notes = notes_before_end p dem ask ticks in
    notes ++ End (length ticks) (sum_by run_energy_told notes) (sum_by idle_energy_told notes) ∷ []
