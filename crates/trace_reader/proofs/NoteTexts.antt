-- The notes that are read are those of their text, and the text of any notes is read.
use Rattle.std.proofs.lemmas.Bool.Decides.{nat_tests}
use Rattle.std.proofs.Common.{◌≡◌, ℕ, zero, suc, ◌+◌, ◌-◌, ◌^◌, ◌<◌, ◌≤◌, Bool, true, false, List, [], ◌∷◌, ◌++◌, length, drop, Result, Ok, Err, refl, sym, ap, ap₂, subst, ◌∙◌, append_assoc, arith, if◌then◌else◌}
use Rattle.std.specs.Prelude.{nat_le, ◌==◌, flat_map}
use Rattle.std.specs.List.{AllByRecursion, join_with_byte}
use Rattle.std.proofs.lemmas.Bool.{cases_lt, eq-eqb, eqb-true, le-leb, leb-true}
use Rattle.std.proofs.lemmas.List.{append-nil}
use Rattle.dvs_base.specs.Parts.{joined, name_of}
use Rattle.trace_text.specs.TraceLines.{note_text}
use Rattle.trace_text.proofs.Unspaced.{AreUnspaced}
use Rattle.trace_text.specs.TraceText.{has_task_lines, share_text, task_energy}
use Rattle.dvs_base.specs.declared.note.Note.{Note}
use Rattle.dvs_base.specs.declared.note.Note.TheVariants.{End}
use Rattle.dvs_base.specs.declared.kind.Version.{Version}
use Rattle.dvs_base.specs.declared.limits.TheConstants.{MOST_LINES}
use Rattle.trace_reader.specs.declared.line.Item.{Item}
use Rattle.trace_reader.specs.declared.line.Item.TheVariants.{Told, Share}
use Rattle.trace_reader.specs.declared.trace.TraceFault.{TraceFault}
use Rattle.trace_reader.specs.declared.trace.TraceFault.TheVariants.{Refused}
use Rattle.trace_reader.specs.declared.trace.TraceKind.{TraceKind}
use Rattle.trace_reader.specs.declared.trace.TraceKind.TheVariants as kind
use Rattle.trace_reader.specs.Fields.{parts}
use Rattle.trace_reader.specs.Heads.{line_at, at_line}
use Rattle.trace_reader.specs.Items.{item_of}
use Rattle.trace_reader.specs.TraceFile.{SoFar, energy_line_count, is_in_order, is_right_share, next_item, with_item, ends, is_nothing, notes_from}
use Rattle.trace_reader.specs.Traces.{IsNoteOf, is_end}
use Rattle.trace_reader.proofs.FieldTexts.{AreApart, if-ok, if-made}
use Rattle.dvs_base.proofs.Checks.{step-ok, ok-is}
use Rattle.trace_text.proofs.Lined.{spaced}
use Rattle.trace_reader.proofs.ItemTexts.{item_fields, IsItemOf, item_of-text}
use Rattle.trace_reader.proofs.LineTexts.{AreNames, IsLineOf, line_at-found, join-line, item_text, item-found, unspaced-item, cut-line, read-line, parts-fields, lengths-item}
use Rattle.trace_reader.proofs.ShareTexts.{shares, rest_text, shares-told, shares-next, HaveNoEnd}

pub at_line-ok : {A : Type 0} (n : ℕ) (r : Result A TraceKind) (x : A) → at_line n r ≡ Ok x → r ≡ Ok x
at_line-ok n (Ok y) x e = ap Ok (ok-is {F = TraceFault} y x e)
at_line-ok n (Err k) x e = absurd cc

-- the item of the next line, with the checks that it passed
record IsNextItem (v : Version) (names : List (List ℕ)) (s : SoFar) (fields : List (List ℕ)) (item : Item) : Type 0 where
  read : item_of v names fields ≡ Ok item
  order : is_in_order s.energies_read (energy_line_count v names) item ≡ true
  right : is_right_share s.notes item ≡ true

next_item-found : (v : Version) (names : List (List ℕ)) (s : SoFar) (fields : List (List ℕ)) (item : Item)
    → next_item v names s fields ≡ Ok item → IsNextItem v names s fields item
unfolding next_item
next_item-found v names s fields item e = grind (arith, nat_tests, if-made, if-ok, step-ok)

-- the notes `all` that are read from line n on: those so far, `body` and the last, with their text and its limits
pub record Reads (v : Version) (names : List (List ℕ)) (n : ℕ) (s : SoFar) (ps : List (List ℕ)) (all : List Note) : Type 0 where
  pub body : List Note
  pub last : Note
  pub whole : all ≡ s.notes ++ (body ++ last ∷ [])
  pub no_end : HaveNoEnd body
  pub end : is_end last ≡ true
  pub each : AllByRecursion (IsNoteOf (length names)) (body ++ last ∷ [])
  pub none : 0 < s.energies_read → body ≡ []
  pub text : join_with_byte 10 ps ≡ rest_text v names s.energies_read s.notes body last
  pub widths : (i : ℕ) → s.energies_read ≤ i → i < energy_line_count v names → task_energy (s.notes ++ body) i < 2 ^ 128
  pub lines : n + (length body + (energy_line_count v names - s.energies_read)) ≤ MOST_LINES

nothing-is : (ps : List (List ℕ)) → is_nothing ps ≡ true → ps ≡ [] ∷ []
nothing-is ([] ∷ []) e = refl
nothing-is _ e = absurd cc

-- the item of a note ends the run if the note does
ends-told : (n : Note) → ends (Told n) ≡ is_end n
ends-told (End t run idle) = refl
ends-told _ = refl

order-told : (energies_read w : ℕ) (n : Note) (b : Bool) → is_end n ≡ b
    → is_in_order energies_read w (Told n) ≡ (if b then nat_le w energies_read else energies_read == 0)
order-told energies_read w (End t run idle) b e = ap (λ (c : Bool). if c then nat_le w energies_read else energies_read == 0) e
order-told energies_read w _ b e = ap (λ (c : Bool). if c then nat_le w energies_read else energies_read == 0) e

pub note-line : (names : List (List ℕ)) (n : Note) → note_text names n ≡ item_text names (Told n)
unfolding note_text
note-line names n = refl

-- reading the last note
read-last : (v : Version) (names : List (List ℕ)) (n : ℕ) (s : SoFar) (text : List ℕ) (rest : List (List ℕ)) (last : Note) (all : List Note)
    → is_end last ≡ true
    → IsLineOf n (text ∷ rest) text rest → IsNextItem v names s (parts 32 text) (Told last) → is_nothing rest ≡ true
    → s.notes ++ last ∷ [] ≡ all → Reads v names n s (text ∷ rest) all
read-last v names n s text rest last all end read item nothing whole =
    let found = item-found v names text (Told last) item.read in
    let energies_read : energy_line_count v names ≤ s.energies_read =
    leb-true (energy_line_count v names) s.energies_read (sym (order-told s.energies_read (energy_line_count v names) last true end) ∙ item.order) in
    let line : join_with_byte 10 (text ∷ rest) ≡ note_text names last =
    join-line text rest read.more ∙ (ap (λ ps. text ++ 10 ∷ join_with_byte 10 ps) (nothing-is rest nothing) ∙ (found.0 ∙ sym (note-line names last))) in
    record {
      body = [];
      last = last;
      whole = sym whole;
      no_end = tt;
      end = end;
      each = (found.1, tt);
      none = λ _. refl;
      text = line ∙ ap (λ ls. joined ls ++ note_text names last) (sym (shares-told v names (s.notes ++ []) s.energies_read energies_read));
      widths = λ i low high. absurd (omega arith);
      lines = omega (arith, read.few);
    }

-- reading a note before the last
read-note : (v : Version) (names : List (List ℕ)) (n : ℕ) (s : SoFar) (text : List ℕ) (rest : List (List ℕ)) (note : Note) (all : List Note)
    → is_end note ≡ false
    → IsLineOf n (text ∷ rest) text rest → IsNextItem v names s (parts 32 text) (Told note)
    → Reads v names (n + 1) (record { notes = s.notes ++ note ∷ []; energies_read = s.energies_read }) rest all → Reads v names n s (text ∷ rest) all
read-note v names n s text rest note all other read item more =
    let found = item-found v names text (Told note) item.read in
    let none : s.energies_read ≡ 0 = eqb-true s.energies_read 0 (sym (order-told s.energies_read (energy_line_count v names) note false other) ∙ item.order) in
    let joined_notes : (s.notes ++ note ∷ []) ++ more.body ≡ s.notes ++ note ∷ more.body = append_assoc s.notes (note ∷ []) more.body in
    let tail : List ℕ = joined (drop s.energies_read (shares v names (s.notes ++ note ∷ more.body))) ++ note_text names more.last in
    let line : join_with_byte 10 (text ∷ rest) ≡ note_text names note ++ join_with_byte 10 rest =
    join-line text rest read.more
    ∙ (sym (append_assoc text (10 ∷ []) (join_with_byte 10 rest)) ∙ ap (λ t. t ++ join_with_byte 10 rest) (found.0 ∙ sym (note-line names note))) in
    record {
      body = note ∷ more.body;
      last = more.last;
      whole = more.whole ∙ append_assoc s.notes (note ∷ []) (more.body ++ more.last ∷ []);
      no_end = (other, more.no_end);
      end = more.end;
      each = (found.1, more.each);
      none = λ some. absurd (omega arith);
      text = line ∙ (ap (λ t. note_text names note ++ t) (more.text
          ∙ ap (λ ns. flat_map (note_text names) more.body ++ (joined (drop s.energies_read (shares v names ns)) ++ note_text names more.last)) joined_notes)
          ∙ sym (append_assoc (note_text names note) (flat_map (note_text names) more.body) tail));
      widths = λ i low high. subst (λ ns. task_energy ns i < 2 ^ 128) joined_notes (more.widths i low high);
      lines = omega (arith, more.lines);
    }

-- if a choice between a number and 0 is above another number, the number was chosen
pub wanted-some : (b : Bool) (energies_read n : ℕ) → energies_read < (if b then n else 0) → (b ≡ true) × (energies_read < n)
wanted-some true energies_read n lt = (refl, lt)
wanted-some false energies_read n lt = absurd (omega arith)

share-facts : (v : Version) (names : List (List ℕ)) (notes : List Note) (energies_read : ℕ) → has_task_lines v ≡ true → energies_read < length names
    → (energy_line_count v names ≡ length names) × (drop energies_read (shares v names notes)
    ≡ share_text (name_of names energies_read) (task_energy notes energies_read) ∷ drop (energies_read + 1) (shares v names notes))
share-facts v names notes energies_read e lt = rw e (refl, shares-next names notes energies_read lt)

-- the energy of task j is below 2^128, if that of task `energies_read` is and those after it are
share-widths : (notes body : List Note) (energies_read j energy : ℕ) → body ≡ []
    → energy ≡ task_energy notes energies_read → energy < 2 ^ 128 → energies_read ≤ j
    → (energies_read + 1 ≤ j → task_energy (notes ++ body) j < 2 ^ 128) → task_energy (notes ++ []) j < 2 ^ 128
share-widths notes body energies_read j energy none sum fits low later = grind (arith, nat_tests, append-nil, cases_lt)

-- reading the energy of a task
read-share : (v : Version) (names : List (List ℕ)) (n : ℕ) (s : SoFar) (text : List ℕ) (rest : List (List ℕ)) (i energy : ℕ) (all : List Note)
    → IsLineOf n (text ∷ rest) text rest → IsNextItem v names s (parts 32 text) (Share i energy)
    → (s.energies_read < energy_line_count v names → Reads v names (n + 1) (record { notes = s.notes; energies_read = s.energies_read + 1 }) rest all)
    → Reads v names n s (text ∷ rest) all
read-share v names n s text rest i energy all read item next =
    let found = item-found v names text (Share i energy) item.read in
    let place : i ≡ s.energies_read = eqb-true i s.energies_read item.order in
    let sum : energy ≡ task_energy s.notes i = eqb-true energy (task_energy s.notes i) item.right in
    let within : s.energies_read < length names = omega (arith, found.1.1) in
    let facts = share-facts v names (s.notes ++ []) s.energies_read found.1.0 within in
    let wide : s.energies_read < energy_line_count v names = omega (arith, facts.0) in
    let more = next wide in
    let none : more.body ≡ [] = more.none (omega arith) in
    let here : share_text (name_of names i) energy ≡ share_text (name_of names s.energies_read) (task_energy (s.notes ++ []) s.energies_read) =
    ap₂ (λ j e. share_text (name_of names j) e) place (sum ∙ ap₂ (λ ns j. task_energy ns j) (sym (append-nil s.notes)) place) in
    let line : join_with_byte 10 (text ∷ rest) ≡ share_text (name_of names i) energy ++ join_with_byte 10 rest =
    join-line text rest read.more ∙ (sym (append_assoc text (10 ∷ []) (join_with_byte 10 rest)) ∙ ap (λ t. t ++ join_with_byte 10 rest) found.0) in
    let left : List (List ℕ) = drop (s.energies_read + 1) (shares v names (s.notes ++ [])) in
    record {
      body = [];
      last = more.last;
      whole = more.whole ∙ ap (λ b. s.notes ++ (b ++ more.last ∷ [])) none;
      no_end = tt;
      end = more.end;
      each = subst (λ b. AllByRecursion (IsNoteOf (length names)) (b ++ more.last ∷ [])) none more.each;
      none = λ _. refl;
      text = line ∙ (ap₂ (λ t u. t ++ u) here (more.text ∙ ap (λ b. rest_text v names (s.energies_read + 1) s.notes b more.last) none)
          ∙ (sym (append_assoc (share_text (name_of names s.energies_read) (task_energy (s.notes ++ []) s.energies_read)) (joined left)
          (note_text names more.last))
          ∙ ap (λ ls. joined ls ++ note_text names more.last) (sym facts.1)));
      widths = λ j low high. share-widths s.notes more.body s.energies_read j energy none (sum ∙ ap (task_energy s.notes) place) found.1.2 low
          (λ later. more.widths j later high);
      lines = omega (arith, more.lines);
    }

-- what is read after the line of an item
abbrev after_item : Version → List (List ℕ) → ℕ → SoFar → List (List ℕ) → Item → Result (List Note) TraceFault
after_item v names n s rest item =
    if ends item then (if is_nothing rest then Ok ((with_item s item).notes) else Err (Refused (n + 1) kind.AfterEnd))
    else notes_from v names (n + 1) (with_item s item) rest

item-step : (v : Version) (names : List (List ℕ)) (n : ℕ) (s : SoFar) (text : List ℕ) (rest : List (List ℕ)) (item : Item) (all : List Note)
    → IsLineOf n (text ∷ rest) text rest → IsNextItem v names s (parts 32 text) item
    → after_item v names n s rest item ≡ Ok all
    → ((t : SoFar) → notes_from v names (n + 1) t rest ≡ Ok all → Reads v names (n + 1) t rest all) → Reads v names n s (text ∷ rest) all
item-step v names n s text rest (Share i energy) all read item e later = read-share v names n s text rest i energy all read item
    (λ _. later (record { notes = s.notes; energies_read = s.energies_read + 1 }) e)
item-step v names n s text rest (Told note) all read item e later = grind (arith, nat_tests, ends-told, if-made, read-last, read-note)

-- a line that was read is the first part, with the parts after it
line-pair : (n : ℕ) (text : List ℕ) (rest : List (List ℕ)) (p : List ℕ × List (List ℕ)) → line_at n (text ∷ rest) ≡ Ok p
    → IsLineOf n (text ∷ rest) text rest × (p.0 ≡ text)
line-pair n text rest p e = grind (arith, nat_tests, line_at-found)

-- the notes that are read are those of their text
pub notes_from-found : (v : Version) (names : List (List ℕ)) (n : ℕ) (s : SoFar) (ps : List (List ℕ)) (all : List Note)
    → notes_from v names n s ps ≡ Ok all → Reads v names n s ps all
unfolding notes_from
notes_from-found v names n s [] all e = absurd cc
notes_from-found v names n s (text ∷ rest) all e =
    let a = step-ok _ _ all e in
    let b = step-ok _ _ all a.2 in
    let line = line-pair n text rest a.0 a.1 in
    let item = next_item-found v names s (parts 32 a.0.0) b.0 (at_line-ok n (next_item v names s (parts 32 a.0.0)) b.0 b.1) in
    item-step v names n s text rest b.0 all line.0 (subst (λ t. IsNextItem v names s (parts 32 t) b.0) line.1 item) b.2
    (λ t later. notes_from-found v names (n + 1) t rest all later)

-- what the reader answers after the last line, which is line n - 1
abbrev pub answer : ℕ → List Note → List ℕ → Result (List Note) TraceFault
answer n all more = if is_nothing (parts 10 more) then Ok all else Err (Refused n kind.AfterEnd)

module _ (v : Version) (names : List (List ℕ)) (named : AreNames names) (apart : AreApart names) where
  -- the line of an item that may come next is read
  item-next : (n : ℕ) (s : SoFar) (item : Item) (more : List ℕ) → IsItemOf v (length names) item → n ≤ MOST_LINES
      → is_in_order s.energies_read (energy_line_count v names) item ≡ true → is_right_share s.notes item ≡ true
      → notes_from v names n s (parts 10 (item_text names item ++ more)) ≡ after_item v names n s (parts 10 more) item
  unfolding notes_from next_item
  item-next n s item more fits few order right =
      let fields : List (List ℕ) = item_fields names item in
      let unspaced : AllByRecursion AreUnspaced fields = unspaced-item names named item in
      let read : item_of v names fields ≡ Ok item = item_of-text v names item apart fits in
      let line : line_at n (spaced fields ∷ parts 10 more) ≡ Ok (spaced fields, parts 10 more) =
      ap (line_at n) (sym (cut-line fields more unspaced))
      ∙ read-line n fields more unspaced few (lengths-item v (length names) names item named fits) in
      let checked : next_item v names s (parts 32 (spaced fields)) ≡ Ok item =
      rw (parts-fields v names fields item read unspaced, read, order, right) refl in
      ap (notes_from v names n s) (cut-line fields more unspaced) ∙ rw (line, checked) refl

  end-after : (n : ℕ) (s : SoFar) (last : Note) (more : List ℕ) → is_end last ≡ true
      → after_item v names n s (parts 10 more) (Told last) ≡ answer (n + 1) (s.notes ++ last ∷ []) more
  end-after n s last more end = rw (ends-told last ∙ end) refl

  -- the text of the last note is read
  last-text : (n : ℕ) (s : SoFar) (last : Note) (more : List ℕ) → is_end last ≡ true → IsNoteOf (length names) last
      → energy_line_count v names ≤ s.energies_read → n ≤ MOST_LINES
      → notes_from v names n s (parts 10 (note_text names last ++ more)) ≡ answer (n + 1) (s.notes ++ last ∷ []) more
  last-text n s last more end fits energies_read few =
      ap (λ t. notes_from v names n s (parts 10 (t ++ more))) (note-line names last)
      ∙ (item-next n s (Told last) more fits few
      (order-told s.energies_read (energy_line_count v names) last true end ∙ le-leb (energy_line_count v names) s.energies_read energies_read) refl
      ∙ end-after n s last more end)

  -- the text of the energies that are left and the last note is read
  shares-text : (k n : ℕ) (s : SoFar) (last : Note) (more : List ℕ) → energy_line_count v names - s.energies_read ≡ k → is_end last ≡ true
      → IsNoteOf (length names) last
      → ((i : ℕ) → s.energies_read ≤ i → i < energy_line_count v names → task_energy s.notes i < 2 ^ 128) → n + k ≤ MOST_LINES
      → notes_from v names n s (parts 10 ((joined (drop s.energies_read (shares v names s.notes)) ++ note_text names last) ++ more)) ≡ answer
      (n + k + 1) (s.notes ++ last ∷ []) more
  shares-text zero n s last more left end fits widths few = grind (arith, nat_tests, last-text, shares-told)
  shares-text (suc k) n s last more left end fits widths few =
      let wide : s.energies_read < energy_line_count v names = omega arith in
      let two = wanted-some (has_task_lines v) s.energies_read (length names) wide in
      let facts = share-facts v names s.notes s.energies_read two.0 two.1 in
      let energy : ℕ = task_energy s.notes s.energies_read in
      let item : Item = Share s.energies_read energy in
      let next : SoFar = record { notes = s.notes; energies_read = s.energies_read + 1 } in
      let rest : List ℕ = joined (drop (s.energies_read + 1) (shares v names s.notes)) ++ note_text names last in
      let text : (joined (drop s.energies_read (shares v names s.notes)) ++ note_text names last) ++ more ≡ item_text names item ++ (rest ++ more) =
      ap (λ ls. (joined ls ++ note_text names last) ++ more) facts.1
      ∙ (ap (λ t. t ++ more) (append_assoc (item_text names item) (joined (drop (s.energies_read + 1) (shares v names s.notes))) (note_text names last))
      ∙ append_assoc (item_text names item) rest more) in
      let later = shares-text k (n + 1) next last more (omega arith) end fits (λ i low high. widths i (omega arith) high) (omega arith) in
      let here : n + 1 + k + 1 ≡ n + suc k + 1 = omega arith in
      ap (λ t. notes_from v names n s (parts 10 t)) text
      ∙ (item-next n s item (rest ++ more) (two.0, two.1, widths s.energies_read (omega arith) wide) (omega arith)
      (eq-eqb s.energies_read s.energies_read refl) (eq-eqb energy energy refl)
      ∙ (later ∙ ap (λ m. answer m (s.notes ++ last ∷ []) more) here))

  note-after : (n : ℕ) (s : SoFar) (note : Note) (rest : List (List ℕ)) → is_end note ≡ false
      → after_item v names n s rest (Told note) ≡ notes_from v names (n + 1) (record { notes = s.notes ++ note ∷ []; energies_read = s.energies_read }) rest
  note-after n s note rest other = rw (ends-told note ∙ other) refl

  -- the text of the notes, the energies and the last note is read
  pub notes_from-text : (n : ℕ) (s : SoFar) (body : List Note) (last : Note) (more : List ℕ) → s.energies_read ≡ 0
      → HaveNoEnd body → is_end last ≡ true
      → AllByRecursion (IsNoteOf (length names)) (body ++ last ∷ [])
      → ((i : ℕ) → i < energy_line_count v names → task_energy (s.notes ++ body) i < 2 ^ 128) → n + (length body + energy_line_count v names) ≤ MOST_LINES
      → notes_from v names n s (parts 10 (rest_text v names s.energies_read s.notes body last ++ more)) ≡ answer
      (n + (length body + energy_line_count v names) + 1) (s.notes ++ (body ++ last ∷ [])) more
  notes_from-text n s [] last more none no_end end each widths few =
      let same : s.notes ++ [] ≡ s.notes = append-nil s.notes in
      let here : n + energy_line_count v names + 1 ≡ n + (0 + energy_line_count v names) + 1 = omega arith in
      ap (λ ns. notes_from v names n s (parts 10 ((joined (drop s.energies_read (shares v names ns)) ++ note_text names last) ++ more))) same
      ∙ (shares-text (energy_line_count v names) n s last more (omega arith) end each.0
      (λ i low high. subst (λ ns. task_energy ns i < 2 ^ 128) same (widths i high)) (omega arith)
      ∙ ap (λ m. answer m (s.notes ++ last ∷ []) more) here)
  notes_from-text n s (note ∷ body) last more none no_end end each widths few =
      let next : SoFar = record { notes = s.notes ++ note ∷ []; energies_read = s.energies_read } in
      let regrouped : (s.notes ++ note ∷ []) ++ body ≡ s.notes ++ note ∷ body = append_assoc s.notes (note ∷ []) body in
      let front : List ℕ = flat_map (note_text names) body in
      let tail : List ℕ = joined (drop s.energies_read (shares v names (s.notes ++ note ∷ body))) ++ note_text names last in
      let text : rest_text v names s.energies_read s.notes (note ∷ body) last ++ more
      ≡ item_text names (Told note) ++ (rest_text v names s.energies_read next.notes body last ++ more) =
      ap (λ t. t ++ more) (append_assoc (note_text names note) front tail)
      ∙ (append_assoc (note_text names note) (front ++ tail) more
      ∙ ap₂ (λ t ns. t ++ ((front ++ (joined (drop s.energies_read (shares v names ns)) ++ note_text names last)) ++ more))
      (note-line names note) (sym regrouped)) in
      let later = notes_from-text (n + 1) next body last more none no_end.1 end each.1
      (λ i high. subst (λ ns. task_energy ns i < 2 ^ 128) (sym regrouped) (widths i high)) (omega arith) in
      let here : n + 1 + (length body + energy_line_count v names) + 1 ≡ n + (suc (length body) + energy_line_count v names) + 1 = omega arith in
      let whole : (s.notes ++ note ∷ []) ++ (body ++ last ∷ []) ≡ s.notes ++ note ∷ (body ++ last ∷ []) =
      append_assoc s.notes (note ∷ []) (body ++ last ∷ []) in
      ap (λ t. notes_from v names n s (parts 10 t)) text
      ∙ (item-next n s (Told note) (rest_text v names s.energies_read next.notes body last ++ more) each.0 (omega arith)
      (order-told s.energies_read (energy_line_count v names) note false no_end.0 ∙ eq-eqb s.energies_read 0 none) refl
      ∙ (note-after n s note (parts 10 (rest_text v names s.energies_read next.notes body last ++ more)) no_end.0
      ∙ (later ∙ ap₂ (λ m ns. answer m ns more) here whole)))
