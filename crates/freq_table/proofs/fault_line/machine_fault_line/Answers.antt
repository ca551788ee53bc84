use Rattle.std.proofs.Common.{refl}
use Rattle.freq_table.proofs.fault_line.machine_fault_line.Goals as goal

pub returns-in-UnknownKey : goal.returns-in-UnknownKey
returns-in-UnknownKey c = rw (c.in-UnknownKey.is, c.point_line.ensures, c.as_bytes.ensures.bytes) refl

pub returns-in-Kind : goal.returns-in-Kind
returns-in-Kind c = rw (c.in-Kind.is, c.point_line-in-Kind.ensures, c.machine_field_word-in-Kind.ensures.text) refl
