use Rattle.std.proofs.Common.{map, ◌≡◌, ◌++◌, ◌∷◌, [], rules}
use Rattle.std.specs.Prelude.{string_bytes}
use Rattle.rtdvs_c.proofs.Words.{not-utf8, pushed}
use Rattle.rtdvs_c.proofs.word_list.push_word.Goals as goal

pub returns-in-Err-clause-not_utf8 : goal.returns-in-Err-clause-not_utf8
returns-in-Err-clause-not_utf8 c = λ _. not-utf8 (map string_bytes c.args.words.now.items) c.args.word.now c.in-Err.ensures.cases.0

pub returns-clause-ok : goal.returns-clause-ok
returns-clause-ok c =
    let added : c.push.new.self.items ≡ c.args.words.now.items ++ c.in-Ok-from_str.owned ∷ [] = search rules in
    let same : string_bytes c.in-Ok-from_str.owned ≡ c.args.word.now = search rules in
    pushed c.args.words.now.items c.push.new.self.items c.in-Ok-from_str.owned c.args.word.now c.in-Ok.ensures.cases.1 same added
