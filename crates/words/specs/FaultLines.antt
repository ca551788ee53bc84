-- The lines of refused words.
use Rattle.std.specs.Prelude.{ℕ, List, [], ◌∷◌, codes}
use Rattle.std.specs.Fmt.{decimal}
use Rattle.dvs_base.specs.Parts.{joined}
use Rattle.words.specs.declared.command.WordFault.{WordFault}
use Rattle.words.specs.declared.command.WordFault.TheVariants as fault
use Rattle.words.specs.Table.{option_word}

-- the line that says `what` of the word at a place
abbrev pub at_word : ℕ → List ℕ → List ℕ → List ℕ
at_word place what word = joined (codes "words: " ∷ decimal place ∷ codes ": " ∷ what ∷ word ∷ codes "\n" ∷ [])

-- the line of refused words
abbrev pub word_fault_text : WordFault → List ℕ
word_fault_text fault.NoCommand = codes "words: no command\n"
word_fault_text (fault.BadCommand word) = at_word 1 (codes "unknown command ") word
word_fault_text (fault.Unexpected place word) = at_word place (codes "unexpected ") word
word_fault_text (fault.Repeated place word) = at_word place (codes "repeated ") word
word_fault_text (fault.NoValue place word) = at_word place (codes "no value for ") word
word_fault_text (fault.BadValue place word) = at_word place (codes "bad value ") word
word_fault_text (fault.Missing option) = joined (codes "words: missing " ∷ option_word option ∷ codes "\n" ∷ [])
word_fault_text fault.Pair = codes "words: rm has no governor la\n"
