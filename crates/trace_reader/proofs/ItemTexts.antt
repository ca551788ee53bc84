-- A line that is read is the line of its item, and the line of any item is read.
use Rattle.std.proofs.lemmas.Bool.Decides.{nat_tests}
use Rattle.std.proofs.Common.{arith}
use Rattle.std.proofs.Common.{◌≡◌, ℕ, ◌^◌, ◌<◌, true, List, [], ◌∷◌, length, Some, Result, Ok, refl, ap, subst, ◌∙◌, if◌then◌else◌}
use Rattle.std.specs.Prelude.{decimal, codes}
use Rattle.std.specs.Option.{ok_or}
use Rattle.std.specs.Str.{bytes_eq}
use Rattle.std.proofs.lemmas.Option.{same_Some}
use Rattle.std.proofs.lemmas.Slice.Eq.{bytes_eq-Decides}
use Rattle.trace_text.specs.TraceLines.{fields_of}
use Rattle.dvs_base.specs.declared.note.Note.TheVariants.{Release, Speed, Run, Idle, Done, End}
use Rattle.dvs_base.specs.declared.kind.Version.{Version}
use Rattle.dvs_base.specs.Parts.{name_of, two_of, three_of}
use Rattle.trace_reader.specs.declared.line.Item.{Item}
use Rattle.trace_reader.specs.declared.line.Item.TheVariants.{Told, Share}
use Rattle.trace_reader.specs.declared.trace.TraceKind.{TraceKind}
use Rattle.trace_reader.specs.declared.trace.TraceKind.TheVariants as kind
use Rattle.trace_text.specs.TraceText.{has_task_lines}
use Rattle.trace_reader.specs.Fields.{four_of, six_of}
use Rattle.trace_reader.specs.Items.{release_in, speed_in, run_in, idle_in, done_in, end_in, energy_in, item_of}
use Rattle.trace_reader.specs.Traces.{IsNoteOf}
use Rattle.dvs_base.proofs.Checks.{step-ok, ok-is, ok_or-ok, two-is}
use Rattle.trace_reader.proofs.FieldTexts.{AreApart, read-step, if-ok, whole_in-text, whole_in-found, wide_in-text, wide_in-found, position_in-text, position_in-found, fraction_in-text, fraction_in-found, task_in-text, task_in-found}

-- the fields of an item's line
abbrev pub item_fields : List (List ℕ) → Item → List (List ℕ)
item_fields names (Told n) = fields_of names n
item_fields names (Share i energy) = codes "energy" ∷ name_of names i ∷ decimal energy ∷ []

-- the item's numbers fit in their types, its task is below c, and the version has lines for tasks if it is an energy
abbrev pub IsItemOf : Version → ℕ → Item → Type 0
IsItemOf v c (Told n) = IsNoteOf c n
IsItemOf v c (Share i energy) = (has_task_lines v ≡ true) × (i < c) × (energy < 2 ^ 128)

-- the fields are those of the item, which the version has
abbrev pub Found : Version → List (List ℕ) → List (List ℕ) → Item → Type 0
Found v names fields item = (fields ≡ item_fields names item) × IsItemOf v (length names) item

three-is : (ps : List (List ℕ)) (p : List ℕ × List ℕ × List ℕ) → three_of ps ≡ Some p → ps ≡ p.0 ∷ p.1 ∷ p.2 ∷ []
three-is (a ∷ b ∷ c ∷ []) p e = subst (λ (q : List ℕ × List ℕ × List ℕ). a ∷ b ∷ c ∷ [] ≡ q.0 ∷ q.1 ∷ q.2 ∷ []) (same_Some (a, b, c) p e) refl
three-is _ p e = absurd cc

pub four-is : (ps : List (List ℕ)) (p : List ℕ × List ℕ × List ℕ × List ℕ) → four_of ps ≡ Some p → ps ≡ p.0 ∷ p.1 ∷ p.2 ∷ p.3 ∷ []
four-is (a ∷ b ∷ c ∷ d ∷ []) p e = subst (λ (q : List ℕ × List ℕ × List ℕ × List ℕ). a ∷ b ∷ c ∷ d ∷ [] ≡ q.0 ∷ q.1 ∷ q.2 ∷ q.3 ∷ [])
    (same_Some (a, b, c, d) p e) refl
four-is _ p e = absurd cc

six-is : (ps : List (List ℕ)) (p : List ℕ × List ℕ × List ℕ × List ℕ × List ℕ × List ℕ) → six_of ps ≡ Some p → ps ≡ p.0 ∷ p.1 ∷ p.2 ∷ p.3 ∷ p.4 ∷ p.5 ∷ []
six-is (a ∷ b ∷ c ∷ d ∷ f ∷ g ∷ []) p e = grind (arith, nat_tests, same_Some)
six-is _ p e = absurd cc

abbrev read_item : Item → Result Item TraceKind
read_item item = Ok item

-- what is made is what was read, so it may have its fields and limits
found-as : (v : Version) (names fields : List (List ℕ)) (made item : Item) → read_item made ≡ read_item item → Found v names fields made
    → Found v names fields item
found-as v names fields made item e h = subst (Found v names fields) (ok-is {F = TraceKind} made item e) h

release-found : (v : Version) (names fields : List (List ℕ)) (item : Item) → release_in names fields ≡ Ok item → Found v names (codes "release" ∷ fields) item
unfolding release_in
release-found v names fields item e =
    let a = step-ok _ _ item e in
    let tick = read-step (whole_in-found a.0.0) a.2 in
    let task = read-step (task_in-found names a.0.1) tick.2 in
    let job = read-step (whole_in-found a.0.2) task.2 in
    let are = three-is fields a.0 (ok_or-ok (three_of fields) kind.Word a.0 a.1) in
    found-as v names _ _ item job.2 (cc (are, tick.1.0, task.1.0, job.1.0), (tick.1.1, task.1.1, job.1.1))

speed-found : (v : Version) (names fields : List (List ℕ)) (item : Item) → speed_in fields ≡ Ok item → Found v names (codes "speed" ∷ fields) item
unfolding speed_in
speed-found v names fields item e =
    let a = step-ok _ _ item e in
    let tick = read-step (whole_in-found a.0.0) a.2 in
    let speed = read-step (whole_in-found a.0.1) tick.2 in
    let demand = read-step (fraction_in-found a.0.2) speed.2 in
    let are = three-is fields a.0 (ok_or-ok (three_of fields) kind.Word a.0 a.1) in
    found-as v names _ _ item demand.2 (cc (are, tick.1.0, speed.1.0, demand.1.0), (tick.1.1, speed.1.1, demand.1.1, demand.1.2))

run-found : (v : Version) (names fields : List (List ℕ)) (item : Item) → run_in names fields ≡ Ok item → Found v names (codes "run" ∷ fields) item
unfolding run_in
run-found v names fields item e =
    let a = step-ok _ _ item e in
    let from = read-step (position_in-found a.0.0) a.2 in
    let to = read-step (position_in-found a.0.1) from.2 in
    let task = read-step (task_in-found names a.0.2) to.2 in
    let job = read-step (whole_in-found a.0.3) task.2 in
    let units = read-step (whole_in-found a.0.4) job.2 in
    let energy = read-step (wide_in-found a.0.5) units.2 in
    let are = six-is fields a.0 (ok_or-ok (six_of fields) kind.Word a.0 a.1) in
    found-as v names _ _ item energy.2 (
      ap (λ ps. codes "run" ∷ ps) are
          ∙ (λ j. codes "run" ∷ from.1.0 j ∷ to.1.0 j ∷ task.1.0 j ∷ job.1.0 j ∷ units.1.0 j ∷ energy.1.0 j ∷ []),
      (from.1.1, to.1.1, task.1.1, job.1.1, units.1.1, energy.1.1),
    )

idle-found : (v : Version) (names fields : List (List ℕ)) (item : Item) → idle_in fields ≡ Ok item → Found v names (codes "idle" ∷ fields) item
unfolding idle_in
idle-found v names fields item e =
    let a = step-ok _ _ item e in
    let from = read-step (position_in-found a.0.0) a.2 in
    let to = read-step (position_in-found a.0.1) from.2 in
    let units = read-step (whole_in-found a.0.2) to.2 in
    let energy = read-step (wide_in-found a.0.3) units.2 in
    let are = four-is fields a.0 (ok_or-ok (four_of fields) kind.Word a.0 a.1) in
    found-as v names _ _ item energy.2 (cc (are, from.1.0, to.1.0, units.1.0, energy.1.0), (from.1.1, to.1.1, units.1.1, energy.1.1))

done-found : (v : Version) (names fields : List (List ℕ)) (item : Item) → done_in names fields ≡ Ok item → Found v names (codes "done" ∷ fields) item
unfolding done_in
done-found v names fields item e =
    let a = step-ok _ _ item e in
    let at_end = read-step (position_in-found a.0.0) a.2 in
    let task = read-step (task_in-found names a.0.1) at_end.2 in
    let job = read-step (whole_in-found a.0.2) task.2 in
    let used = read-step (whole_in-found a.0.3) job.2 in
    let are = four-is fields a.0 (ok_or-ok (four_of fields) kind.Word a.0 a.1) in
    found-as v names _ _ item used.2 (
      ap (λ ps. codes "done" ∷ ps) are ∙ (λ j. codes "done" ∷ at_end.1.0 j ∷ task.1.0 j ∷ job.1.0 j ∷ used.1.0 j ∷ []),
      (at_end.1.1, task.1.1, job.1.1, used.1.1),
    )

end-found : (v : Version) (names fields : List (List ℕ)) (item : Item) → end_in fields ≡ Ok item → Found v names (codes "end" ∷ fields) item
unfolding end_in
end-found v names fields item e =
    let a = step-ok _ _ item e in
    let ticks = read-step (whole_in-found a.0.0) a.2 in
    let run = read-step (wide_in-found a.0.1) ticks.2 in
    let idle = read-step (wide_in-found a.0.2) run.2 in
    let are = three-is fields a.0 (ok_or-ok (three_of fields) kind.Word a.0 a.1) in
    found-as v names _ _ item idle.2 (cc (are, ticks.1.0, run.1.0, idle.1.0), (ticks.1.1, run.1.1, idle.1.1))

share-found : (v : Version) (names fields : List (List ℕ)) (item : Item) → energy_in v names fields ≡ Ok item → Found v names (codes "energy" ∷ fields) item
unfolding energy_in
share-found v names fields item e =
    let a = step-ok _ _ item e in
    let had = if-ok (has_task_lines v) (ok_or (two_of fields) kind.Word) kind.Word a.0 a.1 in
    let task = read-step (task_in-found names a.0.0) a.2 in
    let energy = read-step (wide_in-found a.0.1) task.2 in
    let are = two-is fields a.0 (ok_or-ok (two_of fields) kind.Word a.0 had.1) in
    found-as v names _ _ item energy.2 (cc (are, task.1.0, energy.1.0), (had.0, task.1.1, energy.1.1))

-- reading an item by the word that its line begins with
module _ (v : Version) (names fields : List (List ℕ)) (word : List ℕ) (item : Item) where
  worded : (text : List ℕ) (here rest : Result Item TraceKind) → (if bytes_eq word text then here else rest) ≡ Ok item
      → (here ≡ Ok item → Found v names (text ∷ fields) item) → (rest ≡ Ok item → Found v names (word ∷ fields) item)
      → Found v names (word ∷ fields) item
  worded text here rest e found later = grind (arith, nat_tests, bytes_eq-Decides)

  word-found : item_of v names (word ∷ fields) ≡ Ok item → Found v names (word ∷ fields) item
  unfolding item_of
  word-found e =
      worded (codes "release") _ _ e (release-found v names fields item) (λ e.
      worded (codes "speed") _ _ e (speed-found v names fields item) (λ e.
      worded (codes "run") _ _ e (run-found v names fields item) (λ e.
      worded (codes "idle") _ _ e (idle-found v names fields item) (λ e.
      worded (codes "done") _ _ e (done-found v names fields item) (λ e.
      worded (codes "end") _ _ e (end-found v names fields item) (λ e.
      worded (codes "energy") _ _ e (share-found v names fields item) (λ e. absurd cc)))))))

-- fields that are read as an item are those of the item's line
pub item_of-found : (v : Version) (names fields : List (List ℕ)) (item : Item) → item_of v names fields ≡ Ok item → Found v names fields item
unfolding item_of
item_of-found v names [] item e = absurd cc
item_of-found v names (word ∷ fields) item e = word-found v names fields word item e

-- the fields of an item's line are read as the item
pub item_of-text : (v : Version) (names : List (List ℕ)) (item : Item) → AreApart names → IsItemOf v (length names) item
    → item_of v names (item_fields names item) ≡ Ok item
unfolding item_of release_in speed_in run_in idle_in done_in end_in energy_in
item_of-text v names (Told (Release t i k)) apart h = rw (whole_in-text t h.0, task_in-text names i apart h.1, whole_in-text k h.2) refl
item_of-text v names (Told (Speed t f num den)) apart h = rw (whole_in-text t h.0, whole_in-text f h.1, fraction_in-text num den h.2 h.3) refl
item_of-text v names (Told (Run from to i k units energy)) apart h = grind (arith, nat_tests, position_in-text, task_in-text, whole_in-text, wide_in-text)
item_of-text v names (Told (Idle from to units energy)) apart h =
    rw (position_in-text from h.0, position_in-text to h.1, whole_in-text units h.2, wide_in-text energy h.3) refl
item_of-text v names (Told (Done q i k used)) apart h =
    rw (position_in-text q h.0, task_in-text names i apart h.1, whole_in-text k h.2, whole_in-text used h.3) refl
item_of-text v names (Told (End t run idle)) apart h = rw (whole_in-text t h.0, wide_in-text run h.1, wide_in-text idle h.2) refl
item_of-text v names (Share i energy) apart h = rw (h.0, task_in-text names i apart h.1, wide_in-text energy h.2) refl
