use Rattle.std.proofs.Common.{◌≡◌, ℕ, List, [], ◌∷◌, refl, subst}
use Rattle.dvs_base.specs.declared.kind.Version.TheVariants.{One}
use Rattle.dvs_base.specs.Checks.{IsUnlessMemory}
use Rattle.trace_reader.specs.declared.trace.TraceFault.TheVariants.{NoMemory}
use Rattle.trace_reader.specs.TraceFile.{trace_file}
use Rattle.trace_text.specs.TraceText.{task_lines}
use Rattle.trace_reader.specs.Traces.{IsTextOf}
use Rattle.trace_reader.proofs.LineTexts.{names-each}
use Rattle.trace_reader.proofs.HeadTexts.{version-up_to, version-none}
use Rattle.trace_reader.proofs.TraceTexts.{clause-found, reads-found, reads-only, one-text}
use Rattle.trace_reader.proofs.read.read_trace.Goals as goal

no-tasks : (names : List (List ℕ)) → task_lines names [] ≡ []
no-tasks [] = refl
no-tasks (name ∷ names) = refl

pub returns-clause-file : goal.returns-clause-file
returns-clause-file c = subst (λ tasks. IsUnlessMemory NoMemory (λ t. t) c.read.result (trace_file One c.args.names.now tasks c.args.bytes.now))
    (no-tasks c.args.names.now) c.read.ensures

pub returns-clause-found : goal.returns-clause-found
returns-clause-found c =
    clause-found c.read.result (trace_file One c.args.names.now [] c.args.bytes.now)
    (λ t. IsTextOf c.args.names.now [] c.args.bytes.now t × (t.version ≡ One)) (returns-clause-file c)
    (λ t e. let found = reads-found One c.args.names.now [] c.args.bytes.now t e in (found.0, version-up_to t.version found.1))

pub returns-clause-only : goal.returns-clause-only
returns-clause-only c = λ t h one.
    let named = names-each c.args.names.now c.known_names.ensures in
    let known = version-none t.version one in
    subst (λ meaning. IsUnlessMemory NoMemory (λ t. t) c.read.result meaning)
    (reads-only One c.args.names.now [] c.args.bytes.now t named c.requires.distinct known.0 known.1 h) (returns-clause-file c)

pub returns-clause-one_text : goal.returns-clause-one_text
returns-clause-one_text c =
    one-text c.args.names.now [] (names-each c.args.names.now c.known_names.ensures) c.requires.distinct tt
