-- The rows of a demand list as they are kept.
use Rattle.std.specs.Prelude.{◌≡◌, ℕ, true, List, [], ◌∷◌, ⊤}
use Rattle.std.specs.List.{AllByRecursion}
use Rattle.task_model.specs.DemandRows.{DemandRow}
use Rattle.demand_list.specs.Demands.{IsDemands, rows_of, precedes}
use Rattle.demand_list.specs.declared.kept.KeptRows.{KeptRows}
use Rattle.demand_list.specs.declared.kept.KeptRows.TheVariants as kept

-- the rows come before this one
abbrev pub AllPrecede : DemandRow → List DemandRow → Type 0
AllPrecede r = AllByRecursion (λ s. precedes s r ≡ true)

-- the rows ascend by task and then by job
abbrev pub AreAscending : List DemandRow → Type 0
AreAscending [] = ⊤
AreAscending (r ∷ rows) = AllByRecursion (λ s. precedes r s ≡ true) rows × AreAscending rows

-- the rows, ascending by task and then by job
abbrev pub kept_rows : KeptRows → List DemandRow
kept_rows (kept.InOrder list) = rows_of list.items
kept_rows (kept.AnyOrder map) = rows_of map.entries

-- rows that are kept in their order ascend
abbrev pub AscendInOrder : KeptRows → Type 0
AscendInOrder (kept.InOrder list) = AreAscending (rows_of list.items)
AscendInOrder (kept.AnyOrder map) = ⊤

-- a demand list with these worst cases and rows, whose rows ascend if they are kept in their order
pub record IsDemandList (worsts : List ℕ) (rows : KeptRows) : Type 0 where
  pub demands : IsDemands (record { worsts = worsts; rows = kept_rows rows })
  pub in_order : AscendInOrder rows
