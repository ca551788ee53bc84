use Rattle.std.proofs.Common.{◌≡◌, drop}
use Rattle.trace_reader.specs.Fields.{parts}
use Rattle.trace_reader.specs.Heads.{MayBeNext, parts_after_tasks}
use Rattle.trace_text.specs.TraceText.{task_lines}
use Rattle.trace_reader.proofs.head.read_task_lines.Given as goal

-- reading the lines of the tasks that are left, from the text that is left, gives what reading all of them does
abbrev pub invariant-loop-i : goal.invariant-loop-i
invariant-loop-i l = record {
  few : MayBeNext l.number;
  left : parts_after_tasks l.number (task_lines (drop l.i l.names) (drop l.i l.tasks)) (parts 10 l.rest)
      ≡ parts_after_tasks 3 (task_lines l.names l.tasks) (parts 10 l.bytes);
}
