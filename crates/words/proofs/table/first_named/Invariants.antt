use Rattle.std.proofs.Common.{◌≡◌, drop}
use Rattle.words.specs.Table.{first_named}
use Rattle.words.proofs.table.first_named.Given as goal

-- the first option that the word names is the same among those that are left as among all
abbrev pub invariant-loop-option : goal.invariant-loop-option
invariant-loop-option l = first_named (drop l.option-index l.options) l.word ≡ first_named l.options l.word
