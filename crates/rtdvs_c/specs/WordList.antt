-- The words of a call, as bytes.
use Rattle.std.specs.Prelude.{ℕ, true, ◌==◌, ◌≡◌, ◌≢◌, List, [], ◌∷◌, ◌++◌, length, All, Option, Some, None, option_map, if◌then◌else◌, Result}
use Rattle.std.specs.Option.{option_and_then}
use Rattle.std.specs.Str.{is_utf8}
use Rattle.words.specs.Commands.{CommandView}
use Rattle.words.specs.Reading.{command_of}
use Rattle.words.specs.declared.command.WordFault.{WordFault}

-- the words with one more, if it is UTF-8
abbrev pub with_word : List (List ℕ) → List ℕ → Option (List (List ℕ))
with_word words word = if is_utf8 word then Some (words ++ word ∷ []) else None

-- The words after these, if a word has begun, of the bytes that are left: a zero byte ends a word, and the end of the
-- bytes ends one that has begun.
abbrev pub words_from : List (List ℕ) → List ℕ → List ℕ → Option (List (List ℕ))
words_from words begun [] = if length begun == 0 then Some words else with_word words begun
words_from words begun (b ∷ bytes) =
    if b == 0
    then option_and_then (λ more. words_from more [] bytes) (with_word words begun)
    else words_from words (begun ++ b ∷ []) bytes

-- the words that the bytes are, if each is UTF-8
abbrev pub words_of : List ℕ → Option (List (List ℕ))
words_of bytes = words_from [] [] bytes

-- the command that the bytes ask for, or why their words are refused; none if a word is not UTF-8
abbrev pub asked_by : List ℕ → Option (Result CommandView WordFault)
asked_by bytes = option_map command_of (words_of bytes)

-- the words, each with a zero byte after it
abbrev pub zero_ended : List (List ℕ) → List ℕ
zero_ended [] = []
zero_ended (word ∷ words) = word ++ 0 ∷ zero_ended words

-- a word that a caller can write: it is UTF-8, and has no zero byte
pub record IsWord (word : List ℕ) : Type 0 where
  pub text : is_utf8 word ≡ true
  pub no_zero : All (λ b. b ≢ 0) word

-- words with a zero byte after each are read as exactly these words
abbrev pub ReadsEnded : List ℕ → Type 0
ReadsEnded bytes = (words : List (List ℕ)) → All IsWord words → bytes ≡ zero_ended words → words_of bytes ≡ Some words
