-- Lines written one after another.
use Rattle.std.proofs.Common.{◌≡◌, ℕ, ◌+◌, ◌<◌, ◌≤◌, List, [], ◌∷◌, ◌++◌, map, length, length-append, Result, Ok, Err, refl, ap, sym, ◌∙◌, subst, arith, append-nil, append_assoc, ◌⊎◌, inl, inr, zero, suc, eq-or-lt_of_le, le_of_suc-le-suc, true≢false}
use Rattle.std.proofs.lemmas.List.{map-append}
use Rattle.grid_fraction.specs.Numbers.{list_below}
use Rattle.grid_fraction.proofs.Sums.{list_below-more}
use Rattle.trace_text.specs.TraceLines.{line, fields_of, note_text}
use Rattle.std.specs.Prelude.{IsErr, IsOk, OnErr, if◌then◌else◌}
use Rattle.std.proofs.lemmas.List.Concat.{flat_map-append}
use Rattle.dvs_base.specs.declared.kind.Version.{Version}
use Rattle.dvs_base.specs.declared.kind.Version.TheVariants.{One, Two}
use Rattle.dvs_base.specs.declared.note.Note.{Note}
use Rattle.dvs_base.specs.Outside.{SinkView, Rose}
use Rattle.dvs_base.proofs.TextPuts.{wrote-none, wrote-then, wrote-then-some, wrote-some-more}
use Rattle.probes.specs.Tallies.{ProbeView, told_all, told_notes}
use Rattle.probes.specs.Outputs.{Outputs}
use Rattle.trace_text.specs.TraceText.{NotedLine, unnoted_line, line_of_note, has_task_lines, for_tasks, text_of_lines, notes_of_lines}
use Rattle.trace_writer.specs.Lines.{WroteLines, StoppedIn, WritesLines}
use Rattle.trace_writer.specs.UnnotedLines.{WroteUnnoted, StoppedUnnoted, WritesUnnoted}
use Rattle.dvs_base.specs.WritesText.{Wrote, WroteSome, WritesText}

told-append : (xs ys : List Note) (ps : List ProbeView) → told_notes (xs ++ ys) ps ≡ told_notes ys (told_notes xs ps)
told-append [] ys ps = refl
told-append (x ∷ xs) ys ps = told-append xs ys (told_all x ps)

pub text-append : (xs ys : List NotedLine) → text_of_lines (xs ++ ys) ≡ text_of_lines xs ++ text_of_lines ys
text-append xs ys = flat_map-append (λ (l : NotedLine). l.text) xs ys

pub notes-append : (xs ys : List NotedLine) → notes_of_lines (xs ++ ys) ≡ notes_of_lines xs ++ notes_of_lines ys
notes-append xs ys = flat_map-append (λ (l : NotedLine). l.notes) xs ys

-- if the writing stopped in a line, a first part of the lines' text was written
pub stopped-some : {a b : Outputs} {lines : List NotedLine} → StoppedIn a b lines → WroteSome a.sink b.sink (text_of_lines lines)
stopped-some {a} {b} s =
    subst (λ (t : List ℕ). WroteSome a.sink b.sink t) (sym (ap text_of_lines s.whole ∙ text-append s.done (s.line ∷ s.rest)))
    (wrote-then-some a.sink s.middle b.sink (text_of_lines s.done) (s.line.text ++ text_of_lines s.rest) s.before.wrote
    (wrote-some-more s.middle b.sink s.line.text (text_of_lines s.rest) s.part))

-- no lines leave the sink and the probes as they are
pub no-lines : (a : Outputs) → WroteLines a a []
no-lines a = record { wrote = wrote-none a.sink; told = refl }

-- lines that were written whole, and then further lines that were, are written whole together
pub lines-then : {a b c : Outputs} (xs ys : List NotedLine) → WroteLines a b xs → WroteLines b c ys → WroteLines a c (xs ++ ys)
lines-then {a} {b} {c} xs ys w x = record {
  wrote = subst (λ (t : List ℕ). Wrote a.sink c.sink t) (sym (text-append xs ys))
      (wrote-then a.sink b.sink c.sink (text_of_lines xs) (text_of_lines ys) w.wrote x.wrote);
  told = x.told ∙ (ap (told_notes (notes_of_lines ys)) w.told ∙ (sym (told-append (notes_of_lines xs) (notes_of_lines ys) a.probes)
      ∙ ap (λ (ns : List Note). told_notes ns a.probes) (sym (notes-append xs ys))));
}

-- lines that were written whole, and then further lines in part, are written in part together
pub lines-then-some : {a b c : Outputs} (xs ys : List NotedLine) → WroteLines a b xs → StoppedIn b c ys → StoppedIn a c (xs ++ ys)
lines-then-some xs ys w x = record {
  done = xs ++ x.done;
  line = x.line;
  rest = x.rest;
  whole = ap (λ (ls : List NotedLine). xs ++ ls) x.whole ∙ sym (append_assoc xs x.done (x.line ∷ x.rest));
  middle = x.middle;
  before = lines-then xs x.done w x.before;
  part = x.part;
}

-- lines that were written in part are a part of more lines
pub lines-some-more : {a b : Outputs} (xs ys : List NotedLine) → StoppedIn a b xs → StoppedIn a b (xs ++ ys)
lines-some-more xs ys x = record {
  done = x.done;
  line = x.line;
  rest = x.rest ++ ys;
  whole = ap (λ (ls : List NotedLine). ls ++ ys) x.whole ∙ append_assoc x.done (x.line ∷ x.rest) ys;
  middle = x.middle;
  before = x.before;
  part = x.part;
}

-- lines were written whole and then further lines as the result says: so were both together
pub writes-then : {T E : Type 0} {a b : Outputs} (c : Outputs) (xs ys : List NotedLine) (r : Result T E) → WroteLines a b xs → WritesLines b c ys r
    → WritesLines a c (xs ++ ys) r
writes-then c xs ys (Ok v) w x = lines-then xs ys w x
writes-then c xs ys (Err e) w x = lines-then-some xs ys w x

-- lines that were written in part are written as an error says
pub stopped-exit : {T E : Type 0} {a b : Outputs} {ls : List NotedLine} (r : Result T E) → IsErr r → StoppedIn a b ls → WritesLines a b ls r
stopped-exit (Ok v) is s = absurd (true≢false (sym is))
stopped-exit (Err e) is s = s

-- equal lines are written alike
pub lines-as : {T E : Type 0} (a b : Outputs) {xs ys : List NotedLine} (r : Result T E) → xs ≡ ys → WritesLines a b xs r → WritesLines a b ys r
lines-as a b r same w = subst (λ (ls : List NotedLine). WritesLines a b ls r) same w

pub some-as : {a b : Outputs} {xs ys : List NotedLine} → xs ≡ ys → StoppedIn a b xs → StoppedIn a b ys
some-as {a} {b} same w = subst (λ (ls : List NotedLine). StoppedIn a b ls) same w

pub all-as : {a b : Outputs} {xs ys : List NotedLine} → xs ≡ ys → WroteLines a b xs → WroteLines a b ys
all-as {a} {b} same w = subst (λ (ls : List NotedLine). WroteLines a b ls) same w

-- one line that was put, whose notes the probes were told
one-line : {a b : Outputs} (l : NotedLine) → Wrote a.sink b.sink l.text → b.probes ≡ told_notes l.notes a.probes → WroteLines a b (l ∷ [])
one-line {a} {b} l w t = record {
  wrote = subst (λ (x : List ℕ). Wrote a.sink b.sink x) (sym (append-nil l.text)) w;
  told = t ∙ ap (λ (ns : List Note). told_notes ns a.probes) (sym (append-nil l.notes));
}

one-line-part : {a b : Outputs} (l : NotedLine) → WroteSome a.sink b.sink l.text → b.probes ≡ a.probes → StoppedIn a b (l ∷ [])
one-line-part {a} {b} l w t = record {
  done = [];
  line = l;
  rest = [];
  whole = refl;
  middle = a.sink;
  before = record { wrote = wrote-none a.sink; told = t };
  part = w;
}

-- the line of a note was put, and then the probes were told the note
pub line-told : {a b : Outputs} (names : List (List ℕ)) (n : Note) → Wrote a.sink b.sink (note_text names n) → b.probes ≡ told_all n a.probes
    → WroteLines a b (line_of_note names n ∷ [])
line-told names n w t = one-line (line_of_note names n) w t

-- the line of a note was put in part, and the probes were told nothing
pub line-untold : {T E : Type 0} {a b : Outputs} (names : List (List ℕ)) (n : Note) (r : Result T E) → IsErr r
    → WroteSome a.sink b.sink (note_text names n) → b.probes ≡ a.probes → WritesLines a b (line_of_note names n ∷ []) r
line-untold names n r is w t = stopped-exit r is (one-line-part (line_of_note names n) w t)

-- each line of a note has bytes
pub note-some : (names : List (List ℕ)) (n : Note) → 0 < length (note_text names n)
unfolding note_text
note-some names n = line-some (fields_of names n)
  where
    line-some : (fields : List (List ℕ)) → 0 < length (line fields)
    line-some [] = omega arith
    line-some (field ∷ []) = omega (arith, length-append field (10 ∷ []))
    line-some (field ∷ other ∷ fields) = omega (arith, length-append field (32 ∷ line (other ∷ fields)))

-- what lines that were written say of the sink
module _ {T E : Type 0} (a b : Outputs) (lines : List NotedLine) where
  pub writes-sure : (r : Result T E) → WritesLines a b lines r → length (text_of_lines lines) ≤ a.sink.sure → IsOk r
  writes-sure (Ok v) w le = refl
  writes-sure (Err e) w le = absurd (omega (arith, (stopped-some w).unsure, le))

  pub writes-later : (r : Result T E) → WritesLines a b lines r → a.sink.faults ≤ b.sink.faults
  writes-later (Ok v) w = omega (arith, w.wrote.steady)
  writes-later (Err e) w = (stopped-some w).later

  pub writes-rose : (r : Result T E) → WritesLines a b lines r → OnErr r (Rose a.sink.faults b.sink.faults)
  writes-rose (Ok v) w = tt
  writes-rose (Err e) w = (stopped-some w).rose

-- what lines of no note say of the sink: their text was written, or a first part of it
pub unnoted-whole : {a b : SinkView} {lines : List NotedLine} → WroteUnnoted a b lines → Wrote a b (text_of_lines lines)
unnoted-whole w = (w []).wrote

pub unnoted-part : {a b : SinkView} {lines : List NotedLine} → StoppedUnnoted a b lines → WroteSome a b (text_of_lines lines)
unnoted-part s = stopped-some (s [])

-- a line of no note, by its text, was put as the result says
pub puts-line : {T E : Type 0} (a b : SinkView) (line text : List ℕ) (r : Result T E) → line ≡ text → WritesText a b line r
    → WritesUnnoted a b (unnoted_line text ∷ []) r
puts-line a b line text (Ok v) is w ps = one-line (unnoted_line text) (subst (λ (t : List ℕ). Wrote a b t) is w) refl
puts-line a b line text (Err e) is w ps = one-line-part (unnoted_line text) (subst (λ (t : List ℕ). WroteSome a b t) is w) refl

-- one more line of texts that are a function of their number
pub below-next : {a b c : SinkView} (f : ℕ → List ℕ) (i : ℕ) → WroteUnnoted a b (map unnoted_line (list_below i f))
    → WroteUnnoted b c (unnoted_line (f i) ∷ []) → WroteUnnoted a c (map unnoted_line (list_below (i + 1) f))
below-next f i w x ps =
    all-as (sym (ap (map unnoted_line) (list_below-more i f) ∙ map-append unnoted_line (list_below i f) (f i ∷ [])))
    (lines-then (map unnoted_line (list_below i f)) (unnoted_line (f i) ∷ []) (w ps) (x ps))

below-stop : {a b : Outputs} (f : ℕ → List ℕ) (i n : ℕ) → i < n → StoppedIn a b (map unnoted_line (list_below i f) ++ unnoted_line (f i) ∷ [])
    → StoppedIn a b (map unnoted_line (list_below n f))
below-stop f i zero lt s = absurd (omega (arith, lt))
below-stop {a} {b} f i (suc n) lt s =
    some-as (sym (map-append unnoted_line (list_below n f) (f n ∷ []))) (go (eq-or-lt_of_le (le_of_suc-le-suc lt)) (λ l. below-stop f i n l s))
  where
    go : (i ≡ n) ⊎ (i < n) → (i < n → StoppedIn a b (map unnoted_line (list_below n f)))
        → StoppedIn a b (map unnoted_line (list_below n f) ++ unnoted_line (f n) ∷ [])
    go (inl e) more = subst (λ (k : ℕ). StoppedIn a b (map unnoted_line (list_below k f) ++ unnoted_line (f k) ∷ [])) e s
    go (inr l) more = lines-some-more (map unnoted_line (list_below n f)) (unnoted_line (f n) ∷ []) (more l)

-- the lines for the tasks, by their number: there are none in a version without such lines
for-below : (v : Version) (n : ℕ) (f : ℕ → List ℕ) {m : ℕ} → m ≡ (if has_task_lines v then n else 0)
    → map unnoted_line (list_below m f) ≡ for_tasks v (list_below n f)
for-below One n f is = ap (λ (m : ℕ). map unnoted_line (list_below m f)) is
for-below Two n f is = ap (λ (m : ℕ). map unnoted_line (list_below m f)) is

pub below-stopped : {T E : Type 0} {a b c : SinkView} (v : Version) (f : ℕ → List ℕ) {i m : ℕ} (n : ℕ) (r : Result T E) → IsErr r → i < m
    → m ≡ (if has_task_lines v then n else 0) → WroteUnnoted a b (map unnoted_line (list_below i f))
    → StoppedUnnoted b c (unnoted_line (f i) ∷ []) → WritesUnnoted a c (for_tasks v (list_below n f)) r
below-stopped v f {i} {m} n r is lt number w x ps =
    stopped-exit r is (some-as (for-below v n f number)
    (below-stop f i m lt (lines-then-some (map unnoted_line (list_below i f)) (unnoted_line (f i) ∷ []) (w ps) (x ps))))

pub below-all : {a b : SinkView} (v : Version) (f : ℕ → List ℕ) {i : ℕ} (n : ℕ) → i ≡ (if has_task_lines v then n else 0)
    → WroteUnnoted a b (map unnoted_line (list_below i f)) → WroteUnnoted a b (for_tasks v (list_below n f))
below-all v f n number w ps = all-as (for-below v n f number) (w ps)
