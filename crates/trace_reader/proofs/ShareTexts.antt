-- The lines of the tasks' energies, and the notes before the last one.
use Rattle.std.proofs.lemmas.Bool.Decides.{nat_tests}
use Rattle.std.proofs.Common.{◌≡◌, ℕ, zero, suc, ◌+◌, ◌<◌, ◌≤◌, true, false, List, [], ◌∷◌, ◌++◌, length, drop, refl, ap, ap₂, ◌∙◌, append_assoc, arith}
use Rattle.std.specs.Prelude.{flat_map}
use Rattle.std.specs.List.{AllByRecursion}
use Rattle.std.proofs.lemmas.Grind.{flat_map-append}
use Rattle.std.proofs.lemmas.List.{append-nil, drop_all}
use Rattle.dvs_base.specs.Parts.{joined, name_of}
use Rattle.trace_text.specs.TraceLines.{note_text}
use Rattle.trace_text.specs.TraceText.{lines_of_note, note_lines, text_of_lines, share_text, task_energy, shares_from}
use Rattle.trace_reader.specs.Heads.{version_task_lines}
use Rattle.dvs_base.specs.declared.note.Note.{Note}
use Rattle.dvs_base.specs.declared.note.Note.TheVariants.{End}
use Rattle.dvs_base.specs.declared.kind.Version.{Version}
use Rattle.trace_reader.specs.TraceFile.{energy_line_count}
use Rattle.trace_reader.specs.Traces.{is_end}
use Rattle.trace_reader.proofs.EnergySums.{energy-more}
use Rattle.trace_reader.proofs.WholeText.{length-shares, lines-by, text-for}

-- the energy lines that a version has
abbrev pub shares : Version → List (List ℕ) → List Note → List (List ℕ)
shares v names notes = version_task_lines v (shares_from notes 0 names)

-- the text of `body` and the last note, after the notes `before` and the energies of `energies_read` tasks
abbrev pub rest_text : Version → List (List ℕ) → ℕ → List Note → List Note → Note → List ℕ
rest_text v names energies_read before body last =
    flat_map (note_text names) body ++ (joined (drop energies_read (shares v names (before ++ body))) ++ note_text names last)

pub energy-end : (notes : List Note) (n : Note) (i : ℕ) → is_end n ≡ true → task_energy (notes ++ n ∷ []) i ≡ task_energy notes i
energy-end notes (End t run idle) i e = energy-more notes (End t run idle) i ∙ omega arith
energy-end notes _ i e = absurd cc

-- notes with equal energies of tasks have equal energy lines
pub shares-same : (a b : List Note) (i : ℕ) (names : List (List ℕ)) → ((j : ℕ) → task_energy a j ≡ task_energy b j)
    → shares_from a i names ≡ shares_from b i names
shares-same a b i [] same = refl
shares-same a b i (name ∷ names) same = ap₂ (λ e rest. share_text name e ∷ rest) (same i) (shares-same a b (i + 1) names same)

-- once all energies were read, no energy line is left
pub shares-told : (v : Version) (names : List (List ℕ)) (notes : List Note) (energies_read : ℕ) → energy_line_count v names ≤ energies_read
    → drop energies_read (shares v names notes) ≡ []
shares-told v names notes energies_read h = drop_all energies_read (shares v names notes) (omega (arith, length-shares v names notes, h))

drop-from : (notes : List Note) (i j : ℕ) (names : List (List ℕ)) → j < length names
    → drop j (shares_from notes i names) ≡ share_text (name_of names j) (task_energy notes (i + j)) ∷ drop (suc j) (shares_from notes i names)
drop-from notes i j [] lt = absurd (omega arith)
drop-from notes i zero (name ∷ names) lt = ap (λ k. share_text name (task_energy notes k) ∷ shares_from notes (i + 1) names) (omega arith)
drop-from notes i (suc j) (name ∷ names) lt =
    drop-from notes (i + 1) j names (omega arith)
    ∙ ap (λ k. share_text (name_of names j) (task_energy notes k) ∷ drop (suc j) (shares_from notes (i + 1) names)) (omega arith)

-- the next energy line is that of task `energies_read`
pub shares-next : (names : List (List ℕ)) (notes : List Note) (energies_read : ℕ) → energies_read < length names
    → drop energies_read (shares_from notes 0 names)
    ≡ share_text (name_of names energies_read) (task_energy notes energies_read) ∷ drop (energies_read + 1) (shares_from notes 0 names)
shares-next names notes energies_read lt = grind (arith, nat_tests, drop-from)

-- none of the notes ends the run
abbrev pub HaveNoEnd : List Note → Type 0
HaveNoEnd = AllByRecursion (λ n. is_end n ≡ false)

-- the text of notes that don't end the run, before others, is their lines and then the others' text
told-body : (v : Version) (names : List (List ℕ)) (all body last : List Note) → HaveNoEnd body
    → text_of_lines (flat_map (lines_of_note v names all) (body ++ last))
    ≡ flat_map (note_text names) body ++ text_of_lines (flat_map (lines_of_note v names all) last)
told-body v names all [] last h = refl
told-body v names all (n ∷ body) last h = grind (arith, nat_tests, append_assoc, lines-by, told-body v names all body last)

told-last : (v : Version) (names : List (List ℕ)) (all : List Note) (last : Note) → is_end last ≡ true
    → text_of_lines (lines_of_note v names all last ++ []) ≡ joined (shares v names all) ++ note_text names last
told-last v names all last e = grind (arith, nat_tests, append-nil, flat_map-append, lines-by, text-for)

-- the notes of a whole trace have the text of the notes from its beginning
pub told-notes : (v : Version) (names : List (List ℕ)) (body : List Note) (last : Note) → HaveNoEnd body → is_end last ≡ true
    → text_of_lines (note_lines v names (body ++ last ∷ [])) ≡ rest_text v names 0 [] body last
told-notes v names body last h e =
    let all : List Note = body ++ last ∷ [] in
    let same : shares v names all ≡ shares v names body = ap (version_task_lines v) (shares-same all body 0 names (λ j. energy-end body last j e)) in
    told-body v names all body (last ∷ []) h
    ∙ ap (λ t. flat_map (note_text names) body ++ t) (told-last v names all last e ∙ ap (λ ls. joined ls ++ note_text names last) same)
