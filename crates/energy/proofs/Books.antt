-- The account of some notes: what one more note adds to its sums, and that there is room for it.
use Rattle.std.proofs.Common.{◌≡◌, ◌≢◌, ℕ, zero, suc, ◌+◌, ◌<◌, Bool, nat_eq, List, [], ◌∷◌, ◌++◌, length, refl, arith, add-one, ap, ap₂, ◌∙◌, sym, subst, if◌then◌else◌, get_or, replicate, length-set, ◌≤◌, ◌^◌, true, false, map}
use Rattle.std.specs.Prelude.{map, sum_by, count_by, slice_index}
use Rattle.std.proofs.lemmas.List.{map-append}
use Rattle.std.proofs.lemmas.List.Sums.{sum_by_push, sum_by-cons}
use Rattle.std.proofs.lemmas.Grind.{replicate_next}
use Rattle.std.proofs.lemmas.Bool.Decides.{nat_tests}
use Rattle.dvs_base.specs.declared.note.Note.{Note}
use Rattle.dvs_base.specs.declared.note.Note.TheVariants.{Release, Speed, Run, Idle, Done, End}
use Rattle.grid_fraction.specs.Numbers.{list_below}
use Rattle.grid_fraction.proofs.Counts.{count-append, one-or-none}
use Rattle.sched_model.specs.Notes.{run_energy_told, idle_energy_told}
use Rattle.sched_model.specs.Totals.{is_released, is_finished, is_decided}
use Rattle.sched_model.proofs.Schedules.{length-list_below}
use Rattle.grid_fraction.proofs.Tables.{get-table, set-table, table-same}
use Rattle.energy.specs.Books.{Books, Told, energy_at_point, books_of, with_more_at, account_after, HasTask, HasRoom}
use Rattle.dvs_base.specs.NoteTasks.{energy_of_task}

-- the notes that were told, without their entries
abbrev pub noted : List Told → List Note
noted told = map (λ (t : Told). t.0) told

-- the account with these sums and tables
abbrev pub books_by : ℕ → ℕ → ℕ → ℕ → ℕ → List ℕ → List ℕ → Books
books_by run idle released finished decisions tasks points = record {
  totals = record { run = run; idle = idle; released = released; finished = finished; decisions = decisions };
  by_task = tasks;
  by_point = points;
}

-- a table raised by `more` at place i is the table of a function that is greater by `more` only there
raised-table : (n i more : ℕ) (f g : ℕ → ℕ) → i < n → g i ≡ f i + more → ((k : ℕ) → k < n → k ≢ i → g k ≡ f k)
    → with_more_at (list_below n f) i more ≡ list_below n g
raised-table n i more f g lt here there =
    set-table n f g i (get_or (list_below n f) i 0 + more) lt (here ∙ ap (λ v. v + more) (sym (get-table n f i 0 lt))) there

module _ (tasks points : ℕ) (told : List Told) (note : Note) (e : ℕ) where
  abbrev more : List Told
  more = told ++ (note, e) ∷ []

  abbrev notes : List Note
  notes = noted told

  sum-more : (f : Note → ℕ) → sum_by f (noted more) ≡ sum_by f notes + f note
  sum-more f = ap (sum_by f) (map-append (λ (t : Told). t.0) told ((note, e) ∷ [])) ∙ sum_by_push f notes note

  count-more : (test : Note → Bool) → count_by test (noted more) ≡ count_by test notes + (if test note then 1 else 0)
  count-more test = ap (count_by test) (map-append (λ (t : Told). t.0) told ((note, e) ∷ [])) ∙ (count-append test notes (note ∷ []) ∙ omega arith)

  task-more : (i : ℕ) → sum_by (λ (t : Told). energy_of_task i t.0) more ≡ sum_by (λ (t : Told). energy_of_task i t.0) told + energy_of_task i note
  task-more i = sum_by_push (λ (t : Told). energy_of_task i t.0) told (note, e)

  point-more : (k : ℕ) → sum_by (energy_at_point k) more ≡ sum_by (energy_at_point k) told + energy_at_point k (note, e)
  point-more k = sum_by_push (energy_at_point k) told (note, e)

  abbrev task_sum : ℕ → ℕ
  task_sum i = sum_by (λ (t : Told). energy_of_task i t.0) told

  abbrev point_sum : ℕ → ℕ
  point_sum k = sum_by (energy_at_point k) told

  -- what the note adds to each sum and to each table
  pub record Adds (run idle released finished decisions : ℕ) (by_task by_point : List ℕ) : Type 0 where
    pub run_is : run ≡ sum_by run_energy_told notes + run_energy_told note
    pub idle_is : idle ≡ sum_by idle_energy_told notes + idle_energy_told note
    pub released_is : released ≡ count_by is_released notes + (if is_released note then 1 else 0)
    pub finished_is : finished ≡ count_by is_finished notes + (if is_finished note then 1 else 0)
    pub decisions_is : decisions ≡ count_by is_decided notes + (if is_decided note then 1 else 0)
    pub by_task_is : by_task ≡ list_below tasks (λ i. task_sum i + energy_of_task i note)
    pub by_point_is : by_point ≡ list_below points (λ k. point_sum k + energy_at_point k (note, e))

  books-more : (run idle released finished decisions : ℕ) (by_task by_point : List ℕ) → Adds run idle released finished decisions by_task by_point
      → books_by run idle released finished decisions by_task by_point ≡ books_of tasks points more
  books-more run idle released finished decisions by_task by_point a = λ i. record {
    totals = record {
      run = (a.run_is ∙ sym (sum-more run_energy_told)) i;
      idle = (a.idle_is ∙ sym (sum-more idle_energy_told)) i;
      released = (a.released_is ∙ sym (count-more is_released)) i;
      finished = (a.finished_is ∙ sym (count-more is_finished)) i;
      decisions = (a.decisions_is ∙ sym (count-more is_decided)) i;
    };
    by_task = (a.by_task_is ∙ table-same tasks (λ i. task_sum i + energy_of_task i note) _ (λ k lt. sym (task-more k))) i;
    by_point = (a.by_point_is ∙ table-same points (λ k. point_sum k + energy_at_point k (note, e)) _ (λ k lt. sym (point-more k))) i;
  }

-- a table to which nothing is added stays
same-table : (n : ℕ) (f g : ℕ → ℕ) → ((k : ℕ) → k < n → g k ≡ 0) → list_below n f ≡ list_below n (λ k. f k + g k)
same-table n f g h = table-same n f (λ k. f k + g k) (λ k lt. omega (arith, h k lt))

-- a table to which something is added at one place is raised there
added-table : (n i more : ℕ) (f : ℕ → ℕ) → i < n → with_more_at (list_below n f) i more ≡ list_below n (λ k. f k + (if nat_eq i k then more else 0))
added-table n i more f lt =
    raised-table n i more f (λ k. f k + (if nat_eq i k then more else 0)) lt (grind (arith, nat_tests)) (λ k l ne. grind (arith, nat_tests))

-- the energy of a note is added to the sum of its entry
point-table : (points e : ℕ) (note : Note) (told : List Told) → e < points
    → with_more_at (list_below points (λ k. sum_by (energy_at_point k) told)) e (run_energy_told note + idle_energy_told note)
    ≡ list_below points (λ k. sum_by (energy_at_point k) told + energy_at_point k (note, e))
point-table points e note told lt = added-table points e (run_energy_told note + idle_energy_told note) (λ k. sum_by (energy_at_point k) told) lt

none-at-point : (k e : ℕ) (note : Note) → run_energy_told note + idle_energy_told note ≡ 0 → energy_at_point k (note, e) ≡ 0
none-at-point k e note none = grind (arith, nat_tests, none)

-- a note without energy adds to no table
books-still : (tasks points : ℕ) (told : List Told) (note : Note) (e released finished decisions : ℕ) → run_energy_told note ≡ 0 → idle_energy_told note ≡ 0
    → ((i : ℕ) → energy_of_task i note ≡ 0)
    → released ≡ count_by is_released (noted told) + (if is_released note then 1 else 0)
    → finished ≡ count_by is_finished (noted told) + (if is_finished note then 1 else 0)
    → decisions ≡ count_by is_decided (noted told) + (if is_decided note then 1 else 0)
    → books_by (sum_by run_energy_told (noted told)) (sum_by idle_energy_told (noted told)) released finished decisions
    (list_below tasks (task_sum tasks points told note e)) (list_below points (point_sum tasks points told note e))
    ≡ books_of tasks points (told ++ (note, e) ∷ [])
books-still tasks points told note e released finished decisions run idle task r f d =
    books-more tasks points told note e _ _ released finished decisions _ _ record {
      run_is = omega (arith, run);
      idle_is = omega (arith, idle);
      released_is = r;
      finished_is = f;
      decisions_is = d;
      by_task_is = same-table tasks _ _ (λ k lt. task k);
      by_point_is = same-table points _ _ (λ k lt. none-at-point k e note (omega (arith, run, idle)));
    }

-- the account of some notes, with one more, is the account of all of them
pub booked-sums : (tasks points : ℕ) (told : List Told) (note : Note) (e : ℕ) → HasTask (books_of tasks points told) note → e < points
    → account_after (books_of tasks points told) note e ≡ books_of tasks points (told ++ (note, e) ∷ [])
booked-sums tasks points told (Release t i k) e h lt =
    books-still tasks points told (Release t i k) e _ _ _ refl refl (λ k. refl) refl (omega arith) (omega arith)
booked-sums tasks points told (Speed t f num den) e h lt =
    books-still tasks points told (Speed t f num den) e _ _ _ refl refl (λ k. refl) (omega arith) (omega arith) refl
booked-sums tasks points told (Run from to i k units energy) e h lt = books-more tasks points told (Run from to i k units energy) e _ _ _ _ _ _ _ record {
  run_is = refl;
  idle_is = omega arith;
  released_is = omega arith;
  finished_is = omega arith;
  decisions_is = omega arith;
  by_task_is = added-table tasks i energy (λ i. sum_by (λ (t : Told). energy_of_task i t.0) told)
      (omega (arith, length-list_below tasks (λ i. sum_by (λ (t : Told). energy_of_task i t.0) told)));
  by_point_is = (let e : energy + 0 ≡ energy = omega arith in ap (with_more_at (list_below points (λ k. sum_by (energy_at_point k) told)) _) (sym e))
      ∙ point-table points e (Run from to i k units energy) told lt;
}
booked-sums tasks points told (Idle from to units energy) e h lt = books-more tasks points told (Idle from to units energy) e _ _ _ _ _ _ _ record {
  run_is = omega arith;
  idle_is = refl;
  released_is = omega arith;
  finished_is = omega arith;
  decisions_is = omega arith;
  by_task_is = same-table tasks _ _ (λ k lt. refl);
  by_point_is = (let e : 0 + energy ≡ energy = omega arith in ap (with_more_at (list_below points (λ k. sum_by (energy_at_point k) told)) _) (sym e))
      ∙ point-table points e (Idle from to units energy) told lt;
}
booked-sums tasks points told (Done q i k used) e h lt =
    books-still tasks points told (Done q i k used) e _ _ _ refl refl (λ k. refl) (omega arith) refl (omega arith)
booked-sums tasks points told (End t run idle) e h lt =
    books-still tasks points told (End t run idle) e _ _ _ refl refl (λ k. refl) (omega arith) (omega arith) (omega arith)

-- an account that had the sums over some notes has, after one more, the sums over them and it
pub sums-after : (old new : Books) (note : Note) (e : ℕ) → HasTask old note → e < length old.by_point → new ≡ account_after old note e
    → (tasks points : ℕ) (told : List Told) → old ≡ books_of tasks points told → new ≡ books_of tasks points (told ++ (note, e) ∷ [])
sums-after old new note e h lt is tasks points told was =
    is ∙ (ap (λ b. account_after b note e) was
    ∙ booked-sums tasks points told note e (subst (λ b. HasTask b note) was h)
    (omega (arith, ap (λ (b : Books). length b.by_point) was, length-list_below points (λ k. sum_by (energy_at_point k) told))))

-- an account without notes has tables of zeros
pub zeros-table : (n : ℕ) → replicate {A = ℕ} n 0 ≡ list_below n (λ i. 0)
zeros-table zero = refl
zeros-table (suc n) = ap (λ m. replicate {A = ℕ} m 0) (sym (add-one n)) ∙ (replicate_next {X = ℕ} n 0 ∙ ap (λ xs. xs ++ 0 ∷ []) (zeros-table n))

pub no-books : (tasks points : ℕ) → books_by 0 0 0 0 0 (replicate tasks 0) (replicate points 0) ≡ books_of tasks points []
no-books tasks points = ap₂ (books_by 0 0 0 0 0) (zeros-table tasks) (zeros-table points)

-- a note changes neither the number of tasks nor that of entries
pub booked-tasks : (b : Books) (note : Note) (e : ℕ) → length (account_after b note e).by_task ≡ length b.by_task
booked-tasks b (Run from to i k units energy) e = length-set b.by_task i (get_or b.by_task i 0 + energy)
booked-tasks b _ e = refl

pub booked-points : (b : Books) (note : Note) (e : ℕ) → length (account_after b note e).by_point ≡ length b.by_point
booked-points b (Run from to i k units energy) e = length-set b.by_point e (get_or b.by_point e 0 + energy)
booked-points b (Idle from to units energy) e = length-set b.by_point e (get_or b.by_point e 0 + energy)
booked-points b _ e = refl

-- the energy of a task is at most that of all running segments
task-most : (i : ℕ) (told : List Told) → sum_by (λ (t : Told). energy_of_task i t.0) told ≤ sum_by run_energy_told (noted told)
task-most i [] = omega arith
task-most i (t ∷ told) =
    omega (
      arith,
      sum_by-cons (λ (t : Told). energy_of_task i t.0) t told,
      sum_by-cons run_energy_told t.0 (noted told),
      task-most i told,
      one t.0,
    )
  where
    one : (n : Note) → energy_of_task i n ≤ run_energy_told n
    one (Run from to j k units energy) = grind (arith, nat_tests)
    one _ = omega arith

-- the energy at an entry is at most that of all segments
point-most : (e : ℕ) (told : List Told) → sum_by (energy_at_point e) told ≤ sum_by run_energy_told (noted told) + sum_by idle_energy_told (noted told)
point-most e [] = omega arith
point-most e (t ∷ told) =
    omega (
      arith,
      sum_by-cons (energy_at_point e) t told,
      sum_by-cons run_energy_told t.0 (noted told),
      sum_by-cons idle_energy_told t.0 (noted told),
      point-most e told,
      one (nat_eq t.1 e),
    )
  where
    one : (b : Bool) → (if b then run_energy_told t.0 + idle_energy_told t.0 else 0) ≤ run_energy_told t.0 + idle_energy_told t.0
    one true = omega arith
    one false = omega arith

-- a count over the notes is at most their number
count-most : (test : Note → Bool) (told : List Told) → count_by test (noted told) ≤ length told
count-most test [] = omega arith
count-most test (t ∷ told) = omega (arith, count-append test (t.0 ∷ []) (noted told), count-most test told, one-or-none (test t.0))

-- there is room for a note if the sum of all energies and the number of notes are low
pub has-room : (tasks points : ℕ) (told : List Told) (note : Note) (e : ℕ) → HasTask (books_of tasks points told) note → e < points
    → length told + 1 < 2 ^ 64
    → sum_by run_energy_told (noted told) + sum_by idle_energy_told (noted told) + (run_energy_told note + idle_energy_told note) < 2 ^ 128
    → HasRoom (books_of tasks points told) note e
has-room tasks points told note e task lt few low = go note task low
  where
    at_task : (i : ℕ) → i < length (books_of tasks points told).by_task
        → slice_index (books_of tasks points told).by_task i ≤ sum_by run_energy_told (noted told)
    at_task i l =
        let there : i < tasks = omega (arith, l, length-list_below tasks (λ i. sum_by (λ (t : Told). energy_of_task i t.0) told)) in
        omega (arith, get-table tasks (λ i. sum_by (λ (t : Told). energy_of_task i t.0) told) i 0 there, task-most i told)

    at_point : slice_index (books_of tasks points told).by_point e ≤ sum_by run_energy_told (noted told) + sum_by idle_energy_told (noted told)
    at_point = omega (arith, get-table points (λ k. sum_by (energy_at_point k) told) e 0 lt, point-most e told)

    go : (n : Note) → HasTask (books_of tasks points told) n
        → sum_by run_energy_told (noted told) + sum_by idle_energy_told (noted told) + (run_energy_told n + idle_energy_told n) < 2 ^ 128
        → HasRoom (books_of tasks points told) n e
    go (Release tick i k) own fits = omega (arith, few, count-most is_released told)
    go (Speed tick speed num den) own fits = omega (arith, few, count-most is_decided told)
    go (Run from to i k units energy) own fits = (omega (arith, fits), omega (arith, fits, at_task i own), omega (arith, fits, at_point))
    go (Idle from to units energy) own fits = (omega (arith, fits), omega (arith, fits, at_point))
    go (Done q i k used) own fits = omega (arith, few, count-most is_finished told)
    go (End ticks run idle) own fits = tt

-- the energies of the tasks are the sums over the notes without their entries
pub task-sums : (n : ℕ) (told : List Told)
    → list_below n (λ i. sum_by (λ (t : Told). energy_of_task i t.0) told) ≡ list_below n (λ i. sum_by (energy_of_task i) (noted told))
task-sums n told = table-same n _ (λ i. sum_by (energy_of_task i) (noted told)) (λ i lt. each i told)
  where
    each : (i : ℕ) (ts : List Told) → sum_by (λ (t : Told). energy_of_task i t.0) ts ≡ sum_by (energy_of_task i) (noted ts)
    each i [] = refl
    each i (t ∷ ts) =
        omega (
          arith,
          sum_by-cons (λ (u : Told). energy_of_task i u.0) t ts,
          sum_by-cons (energy_of_task i) t.0 (noted ts),
          each i ts,
        )
