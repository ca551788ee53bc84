use Rattle.std.proofs.Common.{length, arith}
use Rattle.dvs_base.proofs.ShortNumbers.{few-digits}
use Rattle.dvs_base.proofs.digits.digits_in.Goals as goal

pub overflow_mul-value : goal.overflow_mul-value
overflow_mul-value c =
    let small = few-digits c.loop-c.value c.loop-c.c-index (length c.args.bytes.now) c.loop-c.invariant.small c.loop-c-test.true c.requires in
    omega (arith, small)

pub overflow_add-value : goal.overflow_add-value
overflow_add-value c =
    let small = few-digits c.loop-c.value c.loop-c.c-index (length c.args.bytes.now) c.loop-c.invariant.small c.loop-c-test.true c.requires in
    omega (arith, small, c.type_inv.bytes c.loop-c.c-index)
