-- Reading goes on word by word.
use Rattle.std.proofs.Common.{◌≡◌, ℕ, suc, ◌+◌, ◌<◌, List, ◌∷◌, length, map, drop, get_or, Result, Ok, Err}
use Rattle.std.proofs.Common.{sym, ◌∙◌, ap, arith, drop-cons}
use Rattle.dvs_base.specs.Checks.{and_then}
use Rattle.words.specs.declared.table.Verb.{Verb}
use Rattle.words.specs.declared.command.WordFault.{WordFault}
use Rattle.words.specs.declared.read.Reading.{Reading}
use Rattle.words.specs.Commands.{CommandView}
use Rattle.words.specs.Reading.{ReadingView, word_at, words_after}
use Rattle.words.specs.Shown.{shown_reading, reading_answer}

-- what the words after this place give, from what the word at this place gave
abbrev then-words : Verb → ℕ → List (List ℕ) → Result ReadingView WordFault → Result CommandView WordFault
then-words v place words read = and_then read (λ r. words_after v r place words)

-- the words from place i on are the word at i and those after it
next : {X : Type 0} (xs : List X) (i : ℕ) (x : X) → i < length xs → x ≡ get_or xs i x
    → drop i xs ≡ x ∷ drop (i + 1) xs
next {X} xs i x within is =
    let one : suc i ≡ i + 1 = omega arith in
    drop-cons xs i x within
    ∙ (ap (λ (y : X). y ∷ drop (suc i) xs) (sym is) ∙ ap (λ (j : ℕ). x ∷ drop j xs) one)

module _ {X : Type 0} (f : X → List ℕ) (v : Verb) (r : ReadingView) (place : ℕ) (xs : List X) (i : ℕ) (x : X) where
  -- what the words from place i on give, from what the word at i gives
  first-word : (word : List ℕ) (read : Result ReadingView WordFault) → i < length xs → x ≡ get_or xs i x → word ≡ f x
      → read ≡ word_at v r r.waits (place + 1) word
      → words_after v r place (map f (drop i xs)) ≡ then-words v (place + 1) (map f (drop (i + 1) xs)) read
  first-word word read within is text given =
      let rest = map f (drop (i + 1) xs) in
      ap (λ (ys : List X). words_after v r place (map f ys)) (next xs i x within is)
      ∙ (ap (λ (w : List ℕ). then-words v (place + 1) rest (word_at v r r.waits (place + 1) w)) (sym text)
      ∙ ap (then-words v (place + 1) rest) (sym given))

  -- a word that is refused ends the reading
  pub stops : (word : List ℕ) (read : Result Reading WordFault) (e : WordFault)
      → i < length xs → x ≡ get_or xs i x → word ≡ f x
      → reading_answer read ≡ word_at v r r.waits (place + 1) word → read ≡ Err e
      → words_after v r place (map f (drop i xs)) ≡ Err e
  stops word read e within is text given refused =
      let rest = map f (drop (i + 1) xs) in
      first-word word (reading_answer read) within is text given
      ∙ ap (λ (q : Result Reading WordFault). then-words v (place + 1) rest (reading_answer q)) refused

  -- after a word that is not refused, the words after it are read
  pub goes-on : (word : List ℕ) (read : Result Reading WordFault) (s : Reading)
      → i < length xs → x ≡ get_or xs i x → word ≡ f x
      → reading_answer read ≡ word_at v r r.waits (place + 1) word → read ≡ Ok s
      → words_after v r place (map f (drop i xs))
      ≡ words_after v (shown_reading s) (place + 1) (map f (drop (i + 1) xs))
  goes-on word read s within is text given taken =
      let rest = map f (drop (i + 1) xs) in
      first-word word (reading_answer read) within is text given
      ∙ ap (λ (q : Result Reading WordFault). then-words v (place + 1) rest (reading_answer q)) taken
