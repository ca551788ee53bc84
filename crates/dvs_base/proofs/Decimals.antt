-- How many bytes the decimal text of a number has at most.
use Rattle.std.proofs.Common.{ℕ, ◌^◌, ◌<◌, ◌≤◌, length, length-append, arith}
use Rattle.std.specs.Fmt.{decimal}
use Rattle.std.proofs.lemmas.Fmt.{length-decimal-le, length-decimal-le_wide}
use Rattle.dvs_base.specs.declared.limits.TheConstants.{NUMBER_BYTES, WIDE_BYTES, POSITION_BYTES, RATIO_BYTES}
use Rattle.dvs_base.specs.declared.note.Pos.{Pos}
use Rattle.dvs_base.specs.Parts.{position_text, fraction_text}

pub length-decimal_u64 : (n : ℕ) → n < 2 ^ 64 → length (decimal n) ≤ NUMBER_BYTES
length-decimal_u64 n fits = length-decimal-le NUMBER_BYTES n (omega arith) (omega arith) fits

pub length-decimal_u128 : (n : ℕ) → n < 2 ^ 128 → length (decimal n) ≤ WIDE_BYTES
length-decimal_u128 n fits = length-decimal-le_wide WIDE_BYTES n (omega arith) (omega arith) (omega arith)

pub length-position_text : (p : Pos) → p.tick < 2 ^ 64 → p.offset < 2 ^ 64 → length (position_text p) ≤ POSITION_BYTES
length-position_text p tick offset =
    simp length-append (omega (arith, length-decimal_u64 p.tick tick, length-decimal_u64 p.offset offset))

pub length-fraction_text : (num den : ℕ) → num < 2 ^ 128 → den < 2 ^ 128 → length (fraction_text num den) ≤ RATIO_BYTES
length-fraction_text num den above below =
    simp length-append (omega (arith, length-decimal_u128 num above, length-decimal_u128 den below))
