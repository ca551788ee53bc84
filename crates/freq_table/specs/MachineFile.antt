-- What a machine file means: its table, or the first refusal.
use Rattle.std.specs.Prelude.{ℕ, ◌+◌, ◌-◌, ◌&&◌, Bool, true, List, [], ◌∷◌, ◌++◌, length, slice_get, nat_lt, nat_le, codes, Option, Some, None, Result, Ok, Err, if◌then◌else◌}
use Rattle.dvs_base.specs.Text.{short_of}
use Rattle.toml.specs.Data.{Data, Items, no_items, item, Members, get_member, as_array, as_table}
use Rattle.dvs_base.specs.declared.settings.MemberFault.{MemberFault}
use Rattle.dvs_base.specs.declared.settings.MemberFault.TheVariants as member_fault
use Rattle.dvs_base.specs.Checks.{◌>>=◌, ◌>>◌, none_found, or_refusal, IsUnlessMemory}
use Rattle.dvs_base.specs.Settings.{document_of, unknown_key, number_at, number_or_zero, count_of}
use Rattle.freq_table.specs.declared.limits.TheConstants.{MOST_POINTS, TOP_SPEED, MOST_MILLIVOLTS, MOST_IDLE, MOST_CHARGE}
use Rattle.freq_table.specs.declared.machine.Point.{Point}
use Rattle.freq_table.specs.declared.fault.MachineField.{MachineField}
use Rattle.freq_table.specs.declared.fault.MachineField.TheVariants as field
use Rattle.freq_table.specs.declared.fault.MachineFault.{MachineFault}
use Rattle.freq_table.specs.declared.fault.MachineFault.TheVariants as fault
use Rattle.freq_table.specs.Tables.{Table}

-- the known keys of the document
abbrev pub machine_file_keys : List (List ℕ)
machine_file_keys = codes "charge" ∷ codes "idle" ∷ codes "point" ∷ []

-- the known keys of a point
abbrev pub point_keys : List (List ℕ)
point_keys = codes "speed" ∷ codes "millivolts" ∷ []

-- the refusal of an unknown key in the table at this place
abbrev pub unknown_machine_key : ℕ → List ℕ → MachineFault
unknown_machine_key place key = fault.UnknownKey place (short_of key)

-- the refusal for an error at a key of this place
abbrev pub machine_fault_at : ℕ → MachineField → MemberFault → MachineFault
machine_fault_at place field member_fault.Missing = fault.Missing place field
machine_fault_at place field member_fault.Kind = fault.Kind place field
machine_fault_at place field member_fault.Range = fault.Range place field

-- the point of the table at this place: its unknown keys, its speed and its voltage, in this order
abbrev pub point_of_members : ℕ → Members → Result Point MachineFault
point_of_members place ms = do
  none_found (unknown_machine_key place) (unknown_key point_keys ms)
  speed ← or_refusal (machine_fault_at place field.Speed) (number_at 1 TOP_SPEED (get_member (codes "speed") ms))
  millivolts ← or_refusal (machine_fault_at place field.Millivolts)
      (number_at 1 MOST_MILLIVOLTS (get_member (codes "millivolts") ms))
  Ok record { speed = speed; millivolts = millivolts }

-- the point at this place, of an entry that is a table; another entry is refused
abbrev pub point_of_table : ℕ → Option Members → Result Point MachineFault
point_of_table place None = Err (fault.Kind place field.Entry)
point_of_table place (Some ms) = point_of_members place ms

-- the point at this place, of any entry of the array
abbrev pub point_of : ℕ → Data → Result Point MachineFault
point_of place value = point_of_table place (as_table value)

-- a point may follow another: its speed is above that one's, and its voltage is not below
abbrev pub may_follow : Option Point → Point → Bool
may_follow None x = true
may_follow (Some before) x = nat_lt before.speed x.speed && nat_le before.millivolts x.millivolts

-- the last of the points, if there is one
abbrev pub last_of : List Point → Option Point
last_of points = slice_get points (length points - 1)

-- the points before, with those of the entries after them, or the first refusal
abbrev pub points_from : List Point → Items → Result (List Point) MachineFault
points_from points no_items = Ok points
points_from points (item value rest) = do
  x ← point_of (length points + 1) value
  if may_follow (last_of points) x
      then points_from (points ++ x ∷ []) rest
      else Err (fault.NotRising (length points + 1))

-- the points of a value that is an array, or the refusal of a value that is not
abbrev pub points_of_array : Option Items → Result (List Point) MachineFault
points_of_array None = Err (fault.Kind 0 field.Point)
points_of_array (Some no_items) = Err fault.NoPoints
points_of_array (Some (item value rest)) =
    if nat_lt MOST_POINTS (count_of (item value rest)) then Err (fault.TooMany (count_of (item value rest))) else points_from [] (item value rest)

-- the points of the value at the document's key `point`
abbrev pub points_at : Option Data → Result (List Point) MachineFault
points_at None = Err fault.NoPoints
points_at (Some value) = points_of_array (as_array value)

-- the machine of a document: its unknown keys, its idle share, its charge, and then its points
abbrev pub table_of_document : Option Members → Result Table MachineFault
table_of_document None = Err fault.NotToml
table_of_document (Some ms) = do
  none_found (unknown_machine_key 0) (unknown_key machine_file_keys ms)
  idle ← or_refusal (machine_fault_at 0 field.Idle) (number_or_zero MOST_IDLE (get_member (codes "idle") ms))
  charge ← or_refusal (machine_fault_at 0 field.Charge) (number_or_zero MOST_CHARGE (get_member (codes "charge") ms))
  points ← points_at (get_member (codes "point") ms)
  Ok record { points = points; idle = idle; charge = charge }

-- the result, its value seen through `shown`, is the meaning, unless memory ran out
abbrev pub MeansMachine : {T A : Type 0} → (T → A) → Result T MachineFault → Result A MachineFault → Type 0
MeansMachine shown = IsUnlessMemory fault.NoMemory shown

-- the meaning of a machine file's bytes: the machine, or the first refusal
abbrev pub machine_file : List ℕ → Result Table MachineFault
machine_file bytes = table_of_document (document_of bytes)
