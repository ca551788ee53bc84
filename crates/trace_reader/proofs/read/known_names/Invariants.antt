use Rattle.std.proofs.Common.{◌≡◌, ℕ, ◌<◌, true}
use Rattle.dvs_base.specs.Text.{is_name}
use Rattle.dvs_base.specs.Parts.{name_of}
use Rattle.trace_reader.proofs.read.known_names.Given as goal

abbrev pub invariant-loop-name : goal.invariant-loop-name
invariant-loop-name l = (i : ℕ) → i < l.name-index → is_name (name_of l.names i) ≡ true
