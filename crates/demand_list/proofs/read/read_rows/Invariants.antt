use Rattle.std.proofs.Common.{◌≡◌, ◌<◌, length}
use Rattle.csv_text.specs.Rows.{IsDefault, AreCountedFrom, records_left}
use Rattle.demand_list.specs.DemandFile.{demands_from}
use Rattle.demand_list.proofs.read.read_rows.Given as goal

-- the list so far, with the records that are left, gives what all the records give
abbrev pub invariant-loop-demands : goal.invariant-loop-demands
invariant-loop-demands l = record {
  default_reader : IsDefault l.reader;
  fits : AreCountedFrom l.row l.reader;
  worsts : l.demands.worsts ≡ l.fn.demands.worsts;
  before : l.before < length l.tasks;
  rest : demands_from l.tasks 1 l.fn.demands (records_left l.fn.reader) ≡ demands_from l.tasks l.row l.demands (records_left l.reader);
}

abbrev pub decreases-loop-demands : goal.decreases-loop-demands
decreases-loop-demands l = length (records_left l.reader)
