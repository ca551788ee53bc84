use Rattle.std.proofs.Common.{◌≡◌, ◌+◌, ◌≤◌, ◌++◌, length, map, drop}
use Rattle.dvs_base.specs.declared.limits.TheConstants.{LINE_BYTES}
use Rattle.dvs_base.specs.Parts.{part_text, most_of, joined}
use Rattle.dvs_base.proofs.part.push_parts.Given as goal

abbrev pub invariant-loop-part : goal.invariant-loop-part
invariant-loop-part l = record {
  text : l.line ++ joined (map part_text (drop l.part-index l.parts)) ≡ l.fn.line ++ joined (map part_text l.parts);
  room : length l.line + most_of (drop l.part-index l.parts) ≤ LINE_BYTES;
}
