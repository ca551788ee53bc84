use Rattle.std.proofs.Common.{◌≡◌, ◌<◌, ◌^◌, drop}
use Rattle.std.specs.List.{list_all}
use Rattle.std.specs.Char.{is_ascii_digit}
use Rattle.dvs_base.specs.Text.{number_after}
use Rattle.dvs_base.proofs.digits.digits_in.Given as goal

-- the digits that are left give, after the number so far, what all the bytes give
abbrev pub invariant-loop-c : goal.invariant-loop-c
invariant-loop-c l = record {
  value : number_after l.value (drop l.c-index l.bytes) ≡ number_after 0 l.bytes;
  digits : list_all is_ascii_digit (drop l.c-index l.bytes) ≡ list_all is_ascii_digit l.bytes;
  small : l.value < 10 ^ l.c-index;
}
