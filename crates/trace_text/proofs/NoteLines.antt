-- The fields of a trace's lines have neither a space nor a line feed, so each line is read back.
use Rattle.std.proofs.Common.{◌≡◌, ℕ, Bool, true, not, ◌&&◌, List, [], ◌∷◌, ◌++◌, drop, refl, ap, ◌∙◌, sym, true≢false, nat_eq, codes}
use Rattle.std.specs.Prelude.{decimal}
use Rattle.std.specs.List.{AllByRecursion, list_all}
use Rattle.std.proofs.lemmas.Bool.{and_parts}
use Rattle.dvs_base.specs.declared.kind.Scheduler.{Scheduler}
use Rattle.dvs_base.specs.declared.kind.Scheduler.TheVariants.{Edf, Rm}
use Rattle.dvs_base.specs.declared.kind.GovernorKind.{GovernorKind}
use Rattle.dvs_base.specs.declared.kind.GovernorKind.TheVariants.{Plain, Fixed, Cycle, Ahead}
use Rattle.dvs_base.specs.declared.note.Note.{Note}
use Rattle.dvs_base.specs.declared.note.Note.TheVariants.{Release, Speed, Run, Idle, Done, End}
use Rattle.dvs_base.specs.declared.note.Pos.{Pos}
use Rattle.dvs_base.specs.Parts.{position_text, fraction_text, name_of}
use Rattle.trace_text.specs.TraceLines.{scheduler_word, governor_word, line, done_fields, fields_of, note_text}
use Rattle.dvs_base.proofs.Lists.{each-append}
use Rattle.trace_text.proofs.Unspaced.{IsUnspaced, AreUnspaced, unspaced-decimal, field-same}

-- whether a byte is neither a space nor a line feed
abbrev unspaced_byte : ℕ → Bool
unspaced_byte b = not (nat_eq b 32) && not (nat_eq b 10)

unspaced-byte : (b : ℕ) → unspaced_byte b ≡ true → IsUnspaced b
unspaced-byte b e = (λ q. true≢false (sym e ∙ ap unspaced_byte q), λ q. true≢false (sym e ∙ ap unspaced_byte q))

pub unspaced-word : (w : List ℕ) → list_all unspaced_byte w ≡ true → AreUnspaced w
unspaced-word [] e = tt
unspaced-word (b ∷ w) e =
    let each = and_parts (unspaced_byte b) (list_all unspaced_byte w) e in
    (unspaced-byte b each.0, unspaced-word w each.1)

pub unspaced-position : (q : Pos) → AreUnspaced (position_text q)
unspaced-position q =
    each-append IsUnspaced (decimal q.tick ++ codes ":") (decimal q.offset)
    (each-append IsUnspaced (decimal q.tick) (codes ":") (unspaced-decimal q.tick) (unspaced-word (codes ":") refl)) (unspaced-decimal q.offset)

pub unspaced-fraction : (num den : ℕ) → AreUnspaced (fraction_text num den)
unspaced-fraction num den =
    each-append IsUnspaced (decimal num ++ codes "/") (decimal den)
    (each-append IsUnspaced (decimal num) (codes "/") (unspaced-decimal num) (unspaced-word (codes "/") refl)) (unspaced-decimal den)

pub unspaced-scheduler : (s : Scheduler) → AreUnspaced (scheduler_word s)
unspaced-scheduler Edf = unspaced-word (codes "edf") refl
unspaced-scheduler Rm = unspaced-word (codes "rm") refl

pub unspaced-governor : (g : GovernorKind) → AreUnspaced (governor_word g)
unspaced-governor Plain = unspaced-word (codes "none") refl
unspaced-governor Fixed = unspaced-word (codes "static") refl
unspaced-governor Cycle = unspaced-word (codes "cc") refl
unspaced-governor Ahead = unspaced-word (codes "la") refl

pub note-fields : (ns : List (List ℕ)) (n : Note) → note_text ns n ≡ line (fields_of ns n)
unfolding note_text
note-fields ns n = refl

-- the fields of a note's line are unspaced
pub unspaced-fields : (ns : List (List ℕ)) → ((i : ℕ) → AreUnspaced (name_of ns i)) → (n : Note) → AllByRecursion AreUnspaced (fields_of ns n)
unspaced-fields ns named (Release t i k) = (unspaced-word (codes "release") refl, (unspaced-decimal t, (named i, (unspaced-decimal k, tt))))
unspaced-fields ns named (Speed t f num den) = (unspaced-word (codes "speed") refl, (unspaced-decimal t, (unspaced-decimal f, (unspaced-fraction num den, tt))))
unspaced-fields ns named (Run from to i k units energy) = (
  unspaced-word (codes "run") refl,
  (unspaced-position from, (unspaced-position to, (named i, (unspaced-decimal k, (unspaced-decimal units, (unspaced-decimal energy, tt)))))),
)
unspaced-fields ns named (Idle from to units energy) =
    (unspaced-word (codes "idle") refl, (unspaced-position from, (unspaced-position to, (unspaced-decimal units, (unspaced-decimal energy, tt)))))
unspaced-fields ns named (Done q i k used) =
    (unspaced-word (codes "done") refl, (unspaced-position q, (named i, (unspaced-decimal k, (unspaced-decimal used, tt)))))
unspaced-fields ns named (End t run idle) = (unspaced-word (codes "end") refl, (unspaced-decimal t, (unspaced-decimal run, (unspaced-decimal idle, tt))))

-- the line of a completion says which job it is
pub done-same : (ns : List (List ℕ)) → ((i : ℕ) → AreUnspaced (name_of ns i)) → (name : List ℕ) → AreUnspaced name
    → (k : ℕ) (at_end : Pos) (used : ℕ) (q : Pos) (j l u : ℕ)
    → line (fields_of ns (Done q j l u)) ≡ line (done_fields at_end name k used)
    → (name_of ns j ≡ name) × (decimal l ≡ decimal k)
done-same ns named name unspaced k at_end used q j l u e =
    let after_word : line (position_text q ∷ name_of ns j ∷ decimal l ∷ decimal u ∷ [])
    ≡ line (position_text at_end ∷ name ∷ decimal k ∷ decimal used ∷ []) = ap (drop 5) e in
    let after_position = (field-same (position_text q) (position_text at_end) (line (name_of ns j ∷ decimal l ∷ decimal u ∷ []))
    (line (name ∷ decimal k ∷ decimal used ∷ [])) (unspaced-position q) (unspaced-position at_end) after_word).1 in
    let own = field-same (name_of ns j) name (line (decimal l ∷ decimal u ∷ [])) (line (decimal k ∷ decimal used ∷ [])) (named j) unspaced after_position in
    (own.0, (field-same (decimal l) (decimal k) (decimal u ++ (10 ∷ [])) (decimal used ++ (10 ∷ [])) (unspaced-decimal l) (unspaced-decimal k) own.1).0)
