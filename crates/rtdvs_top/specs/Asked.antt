-- What the words of a call ask for.
use Rattle.std.specs.Prelude.{List, Option, Some, None, Result, Ok, Err, map, string_bytes, String, Bool, false, ℕ}
use Rattle.std.specs.declared.alloc.Global.{Global}
use Rattle.dvs_base.specs.Outside.{Files}
use Rattle.words.specs.Commands.{CommandView, asks_probes}
use Rattle.words.specs.Reading.{command_of}
use Rattle.words.specs.declared.command.WordFault.{WordFault}
use Rattle.command_files.specs.Files.{loads_of, loads_needed}

-- What is asked: a command over these files, or one over any files; or the words are refused.
pub data Asked : Type 0 where
  with_files : Files → CommandView → Asked
  without_files : CommandView → Asked
  refused_words : WordFault → Asked

-- a command over these files, if any
abbrev pub asked_with : Option Files → CommandView → Asked
asked_with (Some files) c = with_files files c
asked_with None c = without_files c

-- a command over these files, if any, or the refusal of the words
abbrev pub asked_of : Option Files → Result CommandView WordFault → Asked
asked_of files (Ok c) = asked_with files c
asked_of files (Err why) = refused_words why

-- the command that the words are, or why they are refused
abbrev pub command_asked : List (String Global) → Result CommandView WordFault
command_asked words = command_of (map string_bytes words)

-- what the words ask for, over these files, if any
abbrev pub asked_for : List (String Global) → Option Files → Asked
asked_for words files = asked_of files (command_asked words)

-- the number of files that the words name
abbrev pub loads_asked : Result CommandView WordFault → ℕ
loads_asked (Ok c) = loads_of c
loads_asked (Err why) = 0

-- the most loads that the answer to the words needs: those of the command; refused words need none
abbrev pub loads_wanted : Option Files → Result CommandView WordFault → ℕ
loads_wanted files (Ok c) = loads_needed files c
loads_wanted files (Err why) = 0

-- whether the words ask for probes
abbrev pub probes_asked : Result CommandView WordFault → Bool
probes_asked (Ok c) = asks_probes c
probes_asked (Err why) = false
