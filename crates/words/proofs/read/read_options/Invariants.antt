use Rattle.std.proofs.Common.{◌≡◌, ◌+◌, drop, map, string_bytes}
use Rattle.words.specs.Reading.{nothing_read, words_after}
use Rattle.words.specs.Shown.{shown_reading}
use Rattle.words.proofs.read.read_options.Given as goal

-- the reading so far and the words that are left give what all the words give
abbrev pub invariant-loop-word : goal.invariant-loop-word
invariant-loop-word l = record {
  place : l.place ≡ l.word-index + 1;
  rest : words_after l.verb (shown_reading l.reading) l.place (map string_bytes (drop l.word-index l.words))
      ≡ words_after l.verb nothing_read 1 (map string_bytes l.words);
}
