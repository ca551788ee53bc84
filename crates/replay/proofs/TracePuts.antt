-- The lines of a trace that were put note by note.
use Rattle.std.proofs.Common.{◌≡◌, ℕ, ◌+◌, ◌^◌, ◌<◌, ◌≤◌, true, List, [], ◌∷◌, ◌++◌, length, get_or, take, drop, map, Result, refl, sym, ap, ap₂, ◌∙◌, subst, arith, append-nil, add-one, drop-cons}
use Rattle.std.specs.Prelude.{flat_map, slice_index}
use Rattle.std.proofs.lemmas.List.{length-map, take_more, take-append-drop}
use Rattle.std.proofs.lemmas.List.Concat.{flat_map-append}
use Rattle.dvs_base.specs.declared.kind.Version.{Version}
use Rattle.dvs_base.specs.declared.kind.Version.TheVariants.{One, Two}
use Rattle.dvs_base.specs.declared.limits.TheConstants.{MOST_TASKS}
use Rattle.dvs_base.specs.declared.note.Note.{Note}
use Rattle.dvs_base.specs.declared.note.Note.TheVariants.{End}
use Rattle.dvs_base.specs.Outside.{SinkView}
use Rattle.dvs_base.specs.Parts.{name_of}
use Rattle.dvs_base.specs.WritesText.{Wrote, WroteSome, WritesText}
use Rattle.dvs_base.proofs.TextPuts.{wrote-then, wrote-then-some, wrote-some-more, writes-then}
use Rattle.grid_fraction.specs.Numbers.{list_below}
use Rattle.task_model.specs.declared.task.Task.{Task}
use Rattle.sched_model.specs.Plan.{Plan, count, names}
use Rattle.trace_text.specs.TraceLines.{note_text}
use Rattle.trace_text.specs.TraceText.{NotedLine, line_of_note, unnoted_line, task_energy, share_text, shares_from, for_tasks, has_task_lines, head_lines, lines_of_note, note_lines, text_of_lines}
use Rattle.trace_writer.specs.RunText.{task_texts}
use Rattle.trace_reader.specs.Traces.{TraceView, text_of, HasShares}
use Rattle.trace_writer.specs.UnnotedLines.{sum_lines}
use Rattle.replay.specs.NotePuts.{sums_before, lines_with}
use Rattle.trace_writer.proofs.SumLines.{shares-below}
use Rattle.trace_writer.proofs.WrittenLines.{text-append}

module _ (v : Version) (p : Plan) (energies : List ℕ) where
  -- the lines of a note, as those before its own and its own
  lines-text : (n : Note) → text_of_lines (lines_with v p energies n)
      ≡ text_of_lines (sums_before v p energies n) ++ note_text (names p) n
  lines-text n =
      text-append (sums_before v p energies n) (line_of_note (names p) n ∷ [])
      ∙ ap (λ (t : List ℕ). text_of_lines (sums_before v p energies n) ++ t) (append-nil (note_text (names p) n))

  -- the lines before a note's own were put in part
  pub part-before : (a b : SinkView) (n : Note) → WroteSome a b (text_of_lines (sums_before v p energies n))
      → WroteSome a b (text_of_lines (lines_with v p energies n))
  part-before a b n s =
      subst (λ (t : List ℕ). WroteSome a b t) (sym (lines-text n))
      (wrote-some-more a b (text_of_lines (sums_before v p energies n)) (note_text (names p) n) s)

  -- the lines before a note's own were put, and then its own as the result says
  pub own-after : {T E : Type 0} (a b c : SinkView) (n : Note) (t : List ℕ) (r : Result T E) → t ≡ note_text (names p) n
      → Wrote a b (text_of_lines (sums_before v p energies n)) → WritesText b c t r
      → WritesText a c (text_of_lines (lines_with v p energies n)) r
  own-after a b c n t r is w x =
      subst (λ (u : List ℕ). WritesText a c u r)
      (ap (λ (u : List ℕ). text_of_lines (sums_before v p energies n) ++ u) is ∙ sym (lines-text n))
      (writes-then a b c (text_of_lines (sums_before v p energies n)) t r w x)

  -- the text of the lines of some notes
  abbrev pub text : List Note → List ℕ
  text notes = text_of_lines (flat_map (lines_with v p energies) notes)

  text-both : (xs ys : List Note) → text (xs ++ ys) ≡ text xs ++ text ys
  text-both xs ys =
      ap text_of_lines (flat_map-append (lines_with v p energies) xs ys)
      ∙ text-append (flat_map (lines_with v p energies) xs) (flat_map (lines_with v p energies) ys)

  -- the lines of one more note were put
  pub next-note : (a b c : SinkView) (notes : List Note) (i : ℕ) (d : Note) → i < length notes → Wrote a b (text (take i notes))
      → Wrote b c (text_of_lines (lines_with v p energies (get_or notes i d))) → Wrote a c (text (take (i + 1) notes))
  next-note a b c notes i d lt w x =
      let n = get_or notes i d in
      let own = lines_with v p energies n in
      let more : text (take (i + 1) notes) ≡ text (take i notes) ++ text_of_lines own =
      ap text (take_more notes i d lt)
      ∙ (text-both (take i notes) (n ∷ [])
      ∙ ap (λ (ls : List NotedLine). text (take i notes) ++ text_of_lines ls) (append-nil own)) in
      subst (λ (t : List ℕ). Wrote a c t) (sym more) (wrote-then a b c (text (take i notes)) (text_of_lines own) w x)

  -- the lines of a note were put in part, and nothing after them
  pub part-note : (a b c : SinkView) (notes : List Note) (i : ℕ) (d : Note) → i < length notes → Wrote a b (text (take i notes))
      → WroteSome b c (text_of_lines (lines_with v p energies (get_or notes i d))) → WroteSome a c (text notes)
  part-note a b c notes i d lt w x =
      let n = get_or notes i d in
      let own = text_of_lines (lines_with v p energies n) in
      let rest = drop (i + 1) notes in
      let split : notes ≡ take i notes ++ n ∷ rest =
      sym (take-append-drop i notes) ∙ ap (λ (l : List Note). take i notes ++ l) (rw add-one (drop-cons notes i d lt)) in
      let whole : text notes ≡ text (take i notes) ++ (own ++ text rest) =
      ap text split
      ∙ (text-both (take i notes) (n ∷ rest)
      ∙ ap (λ (t : List ℕ). text (take i notes) ++ t)
      (text-append (lines_with v p energies n) (flat_map (lines_with v p energies) rest))) in
      subst (λ (t : List ℕ). WroteSome a c t) (sym whole)
      (wrote-then-some a b c (text (take i notes)) (own ++ text rest) w (wrote-some-more b c own (text rest) x))

-- the lines of energies that are those of the tasks over some notes
pub sums-are : (v : Version) (p : Plan) (energies : List ℕ) (notes : List Note)
    → (has_task_lines v ≡ true → (i : ℕ) → i < count p → slice_index energies i ≡ task_energy notes i)
    → sum_lines v p energies ≡ for_tasks v (shares_from notes 0 (names p))
sums-are One p energies notes same = refl
sums-are Two p energies notes same =
    let ns = names p in
    let long : length ns ≡ count p = length-map p.tasks (λ (t : Task). t.name) in
    ap (map unnoted_line)
    (ap (λ n. list_below n (λ i. share_text (name_of ns i) (slice_index energies i))) (sym long)
    ∙ shares-below notes ns 0 (λ i. slice_index energies i)
    (λ k m e lt. same refl k (omega (arith, lt, long)) ∙ ap (task_energy notes) (omega (arith, e))))

-- the lines of notes by the energies of the tasks are their lines among all notes
pub lines-among : (v : Version) (p : Plan) (energies : List ℕ) (all : List Note)
    → sum_lines v p energies ≡ for_tasks v (shares_from all 0 (names p)) → (notes : List Note)
    → flat_map (lines_with v p energies) notes ≡ flat_map (lines_of_note v (names p) all) notes
lines-among v p energies all same [] = refl
lines-among v p energies all same (n ∷ notes) =
    ap₂ (λ (x y : List NotedLine). x ++ y) (own n) (lines-among v p energies all same notes)
  where
    own : (n : Note) → lines_with v p energies n ≡ lines_of_note v (names p) all n
    own (End t run idle) = ap (λ (ls : List NotedLine). ls ++ line_of_note (names p) (End t run idle) ∷ []) same
    own n = refl

module _ (v : Version) (p : Plan) (t : TraceView) where
  -- the lines before the notes
  abbrev head : List NotedLine
  head = head_lines v t.plan.scheduler t.plan.governor t.plan.ticks (task_texts p)

  -- the lines of the notes
  abbrev rest : List NotedLine
  rest = note_lines v (names p) t.notes

  -- the text of the trace in the version
  abbrev whole : List ℕ
  whole = text_of (names p) (task_texts p) (record t { version = v })

  -- numbers that are the energies of the tasks if these are below 2^128 are them, for a trace whose energies are
  pub energies-are : (notes : List Note) (energies : List ℕ) → notes ≡ t.notes → count p ≤ MOST_TASKS
      → HasShares v (length (names p)) t.notes
      → ((i : ℕ) → i < MOST_TASKS → task_energy notes i < 2 ^ 128 → slice_index energies i ≡ task_energy notes i)
      → has_task_lines v ≡ true → (i : ℕ) → i < count p → slice_index energies i ≡ task_energy t.notes i
  energies-are notes energies same few shares each has i lt =
      let long : length (names p) ≡ count p = length-map p.tasks (λ (t : Task). t.name) in
      let below : task_energy t.notes i < 2 ^ 128 = shares has i (omega (arith, lt, long)) in
      subst (λ (ns : List Note). slice_index energies i ≡ task_energy ns i) same
      (each i (omega (arith, lt, few)) (subst (λ (ns : List Note). task_energy ns i < 2 ^ 128) (sym same) below))

  -- the head was put in part
  pub head-part : (a b : SinkView) (lines : List NotedLine) → lines ≡ head → WroteSome a b (text_of_lines lines) → WroteSome a b whole
  head-part a b lines is s =
      subst (λ (x : List ℕ). WroteSome a b x)
      (ap (λ (ls : List NotedLine). text_of_lines ls ++ text_of_lines rest) is ∙ sym (text-append head rest))
      (wrote-some-more a b (text_of_lines lines) (text_of_lines rest) s)

  -- the head was put, and then the lines of the notes as the result says
  pub whole-put : {T E : Type 0} (a b c : SinkView) (lines : List NotedLine) (notes : List Note) (energies : List ℕ) (r : Result T E)
      → lines ≡ head → notes ≡ t.notes
      → (has_task_lines v ≡ true → (i : ℕ) → i < count p → slice_index energies i ≡ task_energy t.notes i)
      → Wrote a b (text_of_lines lines) → WritesText b c (text v p energies notes) r → WritesText a c whole r
  whole-put a b c lines notes energies r is same each w x =
      let among = lines-among v p energies t.notes (sums-are v p energies t.notes each) t.notes in
      let tail : text v p energies notes ≡ text_of_lines rest = ap (text v p energies) same ∙ ap text_of_lines among in
      subst (λ (y : List ℕ). WritesText a c y r)
      (ap₂ (λ (y z : List ℕ). y ++ z) (ap text_of_lines is) tail ∙ sym (text-append head rest))
      (writes-then a b c (text_of_lines lines) (text v p energies notes) r w x)
