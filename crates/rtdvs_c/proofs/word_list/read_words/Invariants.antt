use Rattle.std.proofs.Common.{◌≡◌, map, drop}
use Rattle.std.specs.Prelude.{string_bytes}
use Rattle.rtdvs_c.specs.WordList.{words_from, words_of}
use Rattle.rtdvs_c.proofs.word_list.read_words.Given as goal

-- the words so far, the one that has begun and the bytes that are left give what all bytes give
abbrev pub invariant-loop-byte : goal.invariant-loop-byte
invariant-loop-byte l = words_from (map string_bytes l.words.items) l.begun.items (drop l.byte-index l.bytes) ≡ words_of l.bytes
