use Rattle.std.proofs.Common.{◌≡◌, ℕ, ◌+◌, ◌≤◌, List, ◌++◌, length, take, ap, sym, ◌∙◌, arith, length-take-le, take-add, take-take, take_at, drop_at}
use Rattle.std.proofs.lemmas.Slice.{take-put_mid}
use borrow.Rule.Slice.PartMut.{put_mid}
use Rattle.dvs_base.proofs.line.Line.push_first.Goals as goal

-- after a write of ys at i, the first i + n bytes are the i before it and the first n of ys
take-put_mid_first : (xs ys : List ℕ) (i k n : ℕ) → i ≤ length xs → n ≤ length ys
    → take (i + n) (put_mid i k xs ys) ≡ take i xs ++ take n ys
take-put_mid_first xs ys i k n fits few =
    let front : length (take i xs) ≡ i = length-take-le i xs fits in
    sym (take-take (i + n) (i + length ys) (put_mid i k xs ys) (omega arith))
    ∙ ap (take (i + n)) (take-put_mid i k xs ys (i + length ys) (omega arith) fits)
    ∙ take-add i n (take i xs ++ ys)
    ∙ (λ k. take_at (take i xs) ys i front k ++ take n (drop_at (take i xs) ys i front k))

pub returns : goal.returns
returns c =
    let after = c.copy_from_slice.ensures.after in
    let fits : c.self.inside.len ≤ length c.self.inside.bytes = omega (arith, c.self.invariant, c.self.told) in
    let few : c.args.len ≤ length c.copy_from_slice.new.self = omega (arith, c.requires.within, ap length after) in
    take-put_mid_first c.self.inside.bytes c.copy_from_slice.new.self c.self.inside.len _ c.args.len fits few
    ∙ (λ k. c.self.view_is k ++ take c.args.len (after k))
