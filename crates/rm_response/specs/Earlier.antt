-- The loads of the earlier tasks, and the nodes for the last of them.
use Rattle.rm_response.specs.declared.inputs.Supply.{Supply}
use Rattle.rm_response.specs.declared.earlier.Earlier.{Earlier}
use Rattle.sched_model.specs.Plan.{Plan}
use Rattle.rm_response.specs.Supplies.{IsFull}
use Rattle.rm_response.specs.Fits.{AreNodes}

-- the nodes are for the last loads
abbrev pub HasNodes : Supply → Earlier → Type 0
HasNodes s e = AreNodes s e.loads.items e.nodes.items

-- the nodes are for the last loads with the whole processor
abbrev pub HasFullNodes : Plan → Earlier → Type 0
HasFullNodes p e = (s : Supply) → IsFull p s → HasNodes s e

-- the nodes that are left are for the last of the new loads, with each supply for which they were for the last of the old
abbrev pub KeepsNodes : Earlier → Earlier → Type 0
KeepsNodes old new = (s : Supply) → HasNodes s old → HasNodes s new
