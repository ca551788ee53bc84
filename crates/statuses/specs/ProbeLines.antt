-- The lines of the probes that are left after a run.
use Rattle.std.specs.Prelude.{ℕ, List, codes, nat_lt, length, Option, Some, None, if◌then◌else◌, [], ◌∷◌, ◌+◌, ◌++◌}
use Rattle.std.specs.Fmt.{decimal}
use Rattle.dvs_base.specs.Parts.{name_of, joined}
use Rattle.probes.specs.Tallies.{ProbeView}
use Rattle.probes.specs.declared.rule.What.{What}
use Rattle.probes.specs.declared.rule.What.TheVariants as what
use Rattle.statuses.specs.declared.probe_line.Counted.{Counted}

-- the word of what a probe counts
abbrev pub what_word : What → List ℕ
what_word what.Releases = codes "releases"
what_word what.Speeds = codes "speeds"
what_word what.Runs = codes "runs"
what_word what.Idles = codes "idles"
what_word what.Dones = codes "dones"
what_word what.Units = codes "units"

-- the word of a rule's task: its name, or that the rule is about all tasks, or that no task has this number
abbrev pub task_word : List (List ℕ) → Option ℕ → List ℕ
task_word names None = codes "all"
task_word names (Some i) = if nat_lt i (length names) then name_of names i else codes "none"

-- the rule and the tally that a probe's line shows
abbrev pub probe_of : Counted → ProbeView
probe_of c = record { rule = c.rule; tally = c.tally }

-- the line of the probe at a place: what it counts, of which task, and how much that is
abbrev pub counted_text : ℕ → ProbeView → List ℕ → List ℕ
counted_text place p task =
    joined (
    codes "probe " ∷ decimal place ∷ codes " " ∷ what_word p.rule.what ∷ codes " " ∷ task ∷ codes " "
    ∷ decimal p.tally ∷ codes "\n" ∷ [])

-- the line of the probe at a place, with the name of the task that the probe counts for
abbrev pub probe_text : List (List ℕ) → ℕ → ProbeView → List ℕ
probe_text names place p = counted_text place p (task_word names p.rule.task)

-- the lines of probes, the first of which is at this place
abbrev pub probe_lines : List (List ℕ) → ℕ → List ProbeView → List ℕ
probe_lines names place [] = []
probe_lines names place (p ∷ ps) = probe_text names place p ++ probe_lines names (place + 1) ps
