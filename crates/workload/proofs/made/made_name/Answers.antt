use Rattle.std.proofs.Common.{◌≡◌, ◌+◌, [], ◌∷◌, ◌++◌, arith, ap, ap₂, ◌∙◌, true, rules}
use Rattle.std.specs.Fmt.{decimal}
use Rattle.dvs_base.specs.Text.{is_name}
use Rattle.workload.specs.Workload.{made_name}
use Rattle.workload.proofs.MadeTasks.{length-decimal, made_name-is}
use Rattle.workload.proofs.made.made_name.Goals as goal

pub put_num-requires : goal.put_num-requires
put_num-requires c =
    let line : c.push.new.self ≡ 119 ∷ [] = c.push.ensures ∙ ap (λ l. l ++ 119 ∷ []) c.new-line.ensures in
    rw (line, c.from.ensures) (omega (arith, length-decimal c.args.task c.requires))

pub unwrap-requires : goal.unwrap-requires
unwrap-requires c =
    let line : c.push.new.self ≡ 119 ∷ [] = c.push.ensures ∙ ap (λ l. l ++ 119 ∷ []) c.new-line.ensures in
    let text : c.as_bytes.result.now ≡ made_name c.args.task =
    c.as_bytes.ensures.bytes ∙ (c.put_num.ensures ∙ ap₂ (λ l n. l ++ decimal (n + 1)) line c.from.ensures) in
    let named : is_name c.as_bytes.result.now ≡ true = ap is_name text ∙ made_name-is c.args.task c.requires in
    rw (c.of.ensures, named) (search rules)
