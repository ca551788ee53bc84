-- The line of a refused trace.
use Rattle.std.specs.Prelude.{ℕ, List, codes, [], ◌∷◌}
use Rattle.std.specs.Fmt.{decimal}
use Rattle.dvs_base.specs.Parts.{joined}
use Rattle.trace_reader.specs.declared.trace.TraceKind.{TraceKind}
use Rattle.trace_reader.specs.declared.trace.TraceKind.TheVariants as kind
use Rattle.trace_reader.specs.declared.trace.TraceFault.{TraceFault}
use Rattle.trace_reader.specs.declared.trace.TraceFault.TheVariants as fault

-- the words of what a line of a trace has wrong
abbrev pub trace_kind_word : TraceKind → List ℕ
trace_kind_word kind.Version = codes "version"
trace_kind_word kind.Plan = codes "plan"
trace_kind_word kind.Word = codes "word"
trace_kind_word kind.Number = codes "number"
trace_kind_word kind.Task = codes "task"
trace_kind_word kind.NoEnd = codes "no end"
trace_kind_word kind.AfterEnd = codes "after end"
trace_kind_word kind.TooLong = codes "too long"
trace_kind_word kind.TooMany = codes "too many lines"
trace_kind_word kind.TaskLine = codes "task line"
trace_kind_word kind.Order = codes "order"
trace_kind_word kind.Share = codes "share"

-- the line of a trace's refusal
abbrev pub trace_fault_text : TraceFault → List ℕ
trace_fault_text (fault.Refused n wrong) =
    joined (codes "trace: line " ∷ decimal n ∷ codes ": " ∷ trace_kind_word wrong ∷ codes "\n" ∷ [])
trace_fault_text fault.NoMemory = codes "no memory\n"
