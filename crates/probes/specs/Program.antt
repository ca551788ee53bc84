-- The probes of the program.
use Rattle.std.specs.Prelude.{ℕ, List, [], ◌∷◌, Option, Some, None}
use Rattle.probes.specs.declared.program.TheConstants.{MOST_DONES}
use Rattle.probes.specs.declared.rule.What.{What}
use Rattle.probes.specs.declared.rule.What.TheVariants as what
use Rattle.probes.specs.Tallies.{ProbeView}

-- a probe of all tasks that has counted nothing yet, and leaves at a limit, if there is one
abbrev pub opening_probe : What → Option ℕ → ProbeView
opening_probe kind limit = record { rule = record { what = kind; task = None; limit = limit }; tally = 0 }

-- the program's probes count decisions, work units, and completions up to a limit
abbrev pub program_probes : List ProbeView
program_probes =
    opening_probe what.Speeds None ∷ opening_probe what.Units None ∷ opening_probe what.Dones (Some MOST_DONES) ∷ []
