-- What words mean: they are read from left to right, with the table.
use Rattle.std.specs.Prelude.{Option, None, ℕ, List, Some, Result, Ok, Err, if◌then◌else◌, ◌+◌, [], ◌∷◌}
use Rattle.dvs_base.specs.Checks.{and_then}
use Rattle.dvs_base.specs.Text.{short_of}
use Rattle.words.specs.declared.table.Verb.{Verb}
use Rattle.words.specs.declared.table.OptionKey.{OptionKey}
use Rattle.words.specs.declared.command.WordFault.{WordFault}
use Rattle.words.specs.declared.command.WordFault.TheVariants as fault
use Rattle.words.specs.Table.{GivenView, nothing_given, takes_value, has, with_value, option_named, word_of, verb_of}
use Rattle.words.specs.Commands.{CommandView, command_from}

-- the values so far, and the option whose value is the next word
pub record ReadingView : Type 0 where
  pub given : GivenView
  pub waits : Option OptionKey

-- no word was read
abbrev pub nothing_read : ReadingView
nothing_read = record { given = nothing_given; waits = None }

-- the reading with one more value; `BadValue` if the word at this place is outside its option's rule
abbrev pub with_given : ℕ → List ℕ → Option GivenView → Result ReadingView WordFault
with_given place word None = Err (fault.BadValue place (short_of word))
with_given place word (Some g) = Ok (record { given = g; waits = None })

-- the reading after an option: it waits for the option's value, or has it at once
abbrev pub with_option : GivenView → ℕ → List ℕ → Option OptionKey → Result ReadingView WordFault
with_option g place word None = Err (fault.Unexpected place (short_of word))
with_option g place word (Some k) =
    if has g k then Err (fault.Repeated place (short_of word))
    else (if takes_value k then Ok (record { given = g; waits = Some k })
    else with_given place word (with_value g k word))

-- the reading after one word: the value that an option waits for, otherwise an option
abbrev pub word_at : Verb → ReadingView → Option OptionKey → ℕ → List ℕ → Result ReadingView WordFault
word_at v r (Some k) place word = with_given place word (with_value r.given k word)
word_at v r None place word = with_option r.given place word (option_named v word)

-- the command after the last word, which is at this place; an option that still waits has no value
abbrev pub command_at_end : Verb → GivenView → Option OptionKey → ℕ → Result CommandView WordFault
command_at_end v g (Some k) place = Err (fault.NoValue place (short_of (word_of k)))
command_at_end v g None place = command_from v g

-- the command that the reading so far and the words after this place give, word by word
abbrev pub words_after : Verb → ReadingView → ℕ → List (List ℕ) → Result CommandView WordFault
words_after v r place [] = command_at_end v r.given r.waits place
words_after v r place (word ∷ words) =
    and_then (word_at v r r.waits (place + 1) word) (λ r. words_after v r (place + 1) words)

-- the command, if the word at place 1 names one, from the options after it
abbrev pub options_after : Option Verb → List ℕ → List (List ℕ) → Result CommandView WordFault
options_after None word words = Err (fault.BadCommand (short_of word))
options_after (Some v) word words = words_after v nothing_read 1 words

-- the command that the words are, or the first error from left to right
abbrev pub command_of : List (List ℕ) → Result CommandView WordFault
command_of [] = Err fault.NoCommand
command_of (word ∷ words) = options_after (verb_of word) word words
