-- The lines of a refused machine file.
use Rattle.std.specs.Prelude.{ℕ, List, [], ◌∷◌, codes}
use Rattle.std.specs.Fmt.{decimal}
use Rattle.dvs_base.specs.Parts.{joined}
use Rattle.dvs_base.specs.FaultLines.{settings_text, too_many_text}
use Rattle.freq_table.specs.declared.limits.TheConstants.{MOST_POINTS}
use Rattle.freq_table.specs.declared.fault.MachineField.{MachineField}
use Rattle.freq_table.specs.declared.fault.MachineField.TheVariants as field
use Rattle.freq_table.specs.declared.fault.MachineFault.{MachineFault}
use Rattle.freq_table.specs.declared.fault.MachineFault.TheVariants as fault

-- the word of a machine file's field
abbrev pub machine_field_word : MachineField → List ℕ
machine_field_word field.Idle = codes "idle"
machine_field_word field.Charge = codes "charge"
machine_field_word field.Point = codes "point"
machine_field_word field.Entry = codes "entry"
machine_field_word field.Speed = codes "speed"
machine_field_word field.Millivolts = codes "millivolts"

-- the line of a refusal in a machine file: place 0 is the document, and each other place is a point
abbrev pub at_point : ℕ → List ℕ → List ℕ → List ℕ
at_point = settings_text (codes "machine") (codes "point")

-- the line of a machine file's refusal
abbrev pub machine_fault_text : MachineFault → List ℕ
machine_fault_text fault.NotToml = codes "machine: not TOML\n"
machine_fault_text (fault.UnknownKey place key) = at_point place (codes "unknown key ") key
machine_fault_text fault.NoPoints = codes "machine: no points\n"
machine_fault_text (fault.TooMany count) = too_many_text (codes "machine") count (codes "points") MOST_POINTS
machine_fault_text (fault.Missing place key) = at_point place (codes "missing ") (machine_field_word key)
machine_fault_text (fault.Kind place key) = at_point place (codes "wrong kind of ") (machine_field_word key)
machine_fault_text (fault.Range place key) = at_point place (machine_field_word key) (codes " out of range")
machine_fault_text (fault.NotRising place) =
    joined (codes "machine: point " ∷ decimal place ∷ codes ": not rising\n" ∷ [])
machine_fault_text fault.NoMemory = codes "no memory\n"
