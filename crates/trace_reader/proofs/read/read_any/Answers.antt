use Rattle.std.proofs.Common.{subst}
use Rattle.dvs_base.specs.declared.kind.Version.TheVariants.{Two}
use Rattle.dvs_base.specs.Checks.{IsUnlessMemory}
use Rattle.trace_reader.specs.declared.trace.TraceFault.TheVariants.{NoMemory}
use Rattle.trace_reader.specs.TraceFile.{trace_file}
use Rattle.trace_text.specs.TraceText.{task_lines}
use Rattle.trace_reader.specs.Traces.{IsTextOf}
use Rattle.trace_reader.proofs.LineTexts.{names-each}
use Rattle.trace_reader.proofs.HeadTexts.{task_lines-lines}
use Rattle.trace_reader.proofs.TraceTexts.{clause-found, reads-found, reads-only, version-lines, one-text}
use Rattle.trace_reader.proofs.read.read_any.Goals as goal

pub returns : goal.returns
returns c =
    let names = c.args.names.now in
    let tasks = task_lines names c.args.tasks.now in
    let bytes = c.args.bytes.now in
    let named = names-each names c.known_names.ensures in
    let lines = task_lines-lines names c.args.tasks.now named in
    record {
      file = c.read.ensures;
      found = clause-found c.read.result (trace_file Two names tasks bytes) (IsTextOf names tasks bytes) c.read.ensures
          (λ t e. (reads-found Two names tasks bytes t e).0);
      only = λ t h.
          subst (λ meaning. IsUnlessMemory NoMemory (λ t. t) c.read.result meaning)
          (reads-only Two names tasks bytes t named c.requires.distinct (version-lines t.version tasks lines) tt h) c.read.ensures;
      one_text = one-text names tasks named c.requires.distinct lines;
    }
