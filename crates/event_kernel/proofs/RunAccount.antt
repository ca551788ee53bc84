-- An account over the notes of a run.
use Rattle.std.proofs.Common.{◌≡◌, ℕ, ◌<◌, List, [], ◌∷◌, ◌++◌, length, arith, ap, ◌∙◌, sym, subst, append-nil, append_assoc, length-append}
use Rattle.std.specs.Prelude.{sum_by}
use Rattle.std.specs.List.{AllByRecursion}
use Rattle.std.proofs.lemmas.List.{map-append, length-map}
use Rattle.std.proofs.lemmas.List.Sums.{sum_by-append, sum_by-cons}
use Rattle.dvs_base.specs.declared.note.Note.{Note}
use Rattle.dvs_base.specs.declared.note.Note.TheVariants.{Release, Run, Done}
use Rattle.grid_fraction.specs.Numbers.{list_below}
use Rattle.sched_model.specs.Plan.{Plan, count}
use Rattle.sched_model.specs.Notes.{run_energy_told, idle_energy_told}
use Rattle.sched_model.specs.Totals.{totals_of}
use Rattle.sched_model.proofs.Schedules.{length-list_below}
use Rattle.note_laws.proofs.FewNotes.{IsNoteIn}
use Rattle.energy.specs.Books.{Books, Told, books_of, account_after, energy_at_point, HasTask, HasRoom}
use Rattle.dvs_base.specs.NoteTasks.{energy_of_task}
use Rattle.energy.proofs.Books.{booked-sums, has-room, task-sums}
use Rattle.event_kernel.specs.SpanNotes.{all_booked, CanBook, HasBooked}
use Rattle.event_kernel.proofs.NoteRoom.{AreBooked}

-- what holds of each note of a list holds of a note in it
note-there : (P : Note → Type 0) (xs : List Note) (n : Note) (rest : List Note) → AllByRecursion P (xs ++ n ∷ rest) → P n
note-there P [] n rest h = h.0
note-there P (x ∷ xs) n rest h = note-there P xs n rest h.1

module _ (p : Plan) where
  abbrev points : ℕ
  points = length p.machine.points

  -- the account after one more note
  booked-next : (b : Books) (notes : List Note) (n : Note) (e : ℕ) → HasBooked p b notes → HasTask b n → e < points
      → HasBooked p (account_after b n e) (notes ++ n ∷ [])
  booked-next b notes n e h task lt = record {
    told = h.told ++ (n, e) ∷ [];
    notes_are = map-append (λ (t : Told). t.0) h.told ((n, e) ∷ []) ∙ ap (λ ns. ns ++ n ∷ []) h.notes_are;
    books = ap (λ (c : Books). account_after c n e) h.books
        ∙ booked-sums (count p) points h.told n e (subst (λ (c : Books). HasTask c n) h.books task) lt;
  }

  -- the account has the task of the next note, and room for it
  note-fits : (b : Books) (notes : List Note) (n : Note) (rest : List Note) (e : ℕ) → HasBooked p b notes → AreBooked p (notes ++ n ∷ rest)
      → e < points → HasTask b n × HasRoom b n e
  note-fits b notes n rest e h all lt =
      let own = of n (note-there (IsNoteIn p) notes n rest all.each) in (
        subst (λ (c : Books). HasTask c n) (sym h.books) own,
        subst (λ (c : Books). HasRoom c n e) (sym h.books) (has-room (count p) points h.told n e own lt
            (omega (arith, all.few, length-append notes (n ∷ rest), ap length h.notes_are, length-map h.told (λ (t : Told). t.0)))
            (omega (
              arith,
              all.energy,
              ap (sum_by run_energy_told) h.notes_are,
              ap (sum_by idle_energy_told) h.notes_are,
              sum_by-append run_energy_told notes (n ∷ rest),
              sum_by-append idle_energy_told notes (n ∷ rest),
              sum_by-cons run_energy_told n rest,
              sum_by-cons idle_energy_told n rest,
            ))),
      )
    where
      long : length (books_of (count p) points h.told).by_task ≡ count p
      long = length-list_below (count p) (λ i. sum_by (λ (t : Told). energy_of_task i t.0) h.told)

      of : (m : Note) → IsNoteIn p m → HasTask (books_of (count p) points h.told) m
      of (Release tick i k) l = omega (arith, l, long)
      of (Run from to i k units energy) l = omega (arith, l, long)
      of (Done q i k used) l = omega (arith, l, long)
      of _ l = tt

  -- notes that fit can all be added to the account, and it has them then
  pub book-all : (ns : List Note) (b : Books) (notes : List Note) (e : ℕ) → HasBooked p b notes → AreBooked p (notes ++ ns) → e < points
      → CanBook b ns e × HasBooked p (all_booked b ns e) (notes ++ ns)
  book-all [] b notes e h all lt = (tt, subst (HasBooked p b) (sym (append-nil notes)) h)
  book-all (n ∷ ns) b notes e h all lt =
      let room = note-fits b notes n ns e h all lt in
      let one : notes ++ n ∷ ns ≡ (notes ++ n ∷ []) ++ ns = sym (append_assoc notes (n ∷ []) ns) in
      let more = book-all ns (account_after b n e) (notes ++ n ∷ []) e (booked-next b notes n e h room.0 lt) (subst (AreBooked p) one all) lt in
      ((room.0, room.1, more.0), subst (HasBooked p (all_booked (account_after b n e) ns e)) (sym one) more.1)

  -- an account has a sum for each entry
  pub booked-points : (b : Books) (notes : List Note) → HasBooked p b notes → length b.by_point ≡ points
  booked-points b notes h = ap (λ (c : Books). length c.by_point) h.books ∙ length-list_below points (λ e. sum_by (energy_at_point e) h.told)

  pub booked-totals : (b : Books) (notes : List Note) → HasBooked p b notes → b.totals ≡ totals_of notes
  booked-totals b notes h = ap (λ (c : Books). c.totals) h.books ∙ ap totals_of h.notes_are

  pub booked-tasks : (b : Books) (notes : List Note) → HasBooked p b notes → b.by_task ≡ list_below (count p) (λ i. sum_by (energy_of_task i) notes)
  booked-tasks b notes h =
      ap (λ (c : Books). c.by_task) h.books ∙ (task-sums (count p) h.told
      ∙ ap (λ ns. list_below (count p) (λ i. sum_by (energy_of_task i) ns)) h.notes_are)
