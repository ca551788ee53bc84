-- The document that a set of tasks is written as.
use Rattle.std.specs.Prelude.{ℕ, List, pos, nat_lt, codes, if◌then◌else◌, map}
use Rattle.std.specs.Cmp.Lexicographic.{slice_cmp}
use Rattle.std.specs.Ordering.{nat_cmp, match_ordering}
use Rattle.toml.specs.Data.{Data, Members, no_members, member, integer, string, table, array}
use Rattle.toml.specs.View.{items_of}
use Rattle.task_model.specs.declared.task.Task.{Task}

-- the members with this value at the key, in the order of the keys
abbrev pub put_member : List ℕ → Data → Members → Members
put_member key value no_members = member key value no_members
put_member key value (member k v ms) = match_ordering (slice_cmp nat_cmp key k) (member key value (member k v ms)) (member k value ms)
    (member k v (put_member key value ms))

-- the members with the key of an offset in front if it isn't 0
abbrev pub offset_before : ℕ → Members → Members
offset_before n rest = if nat_lt 0 n then member (codes "offset") (integer (pos n)) rest else rest

-- a task as a table of its keys
abbrev pub task_data : Task → Data
task_data t = table (member (codes "name") (string t.name)
    (offset_before t.offset (member (codes "period") (integer (pos t.period)) (member (codes "worst") (integer (pos t.worst)) no_members))))

-- the tasks as the one array of the document
abbrev pub document : List Task → Members
document tasks = member (codes "task") (array (items_of (map task_data tasks))) no_members
