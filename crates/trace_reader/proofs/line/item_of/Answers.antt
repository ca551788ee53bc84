use Rattle.std.proofs.Common.{◌≡◌, Bool, true, false, ℕ, List, [], ◌∷◌, length, Err, refl, if◌then◌else◌, rules}
use Rattle.std.proofs.lemmas.Option.{MatchOption-at_none}
use Rattle.dvs_base.specs.declared.kind.Version.{Version}
use Rattle.trace_reader.specs.declared.trace.TraceKind.TheVariants as kind
use Rattle.trace_reader.specs.Items.{release_in, speed_in, run_in, idle_in, done_in, end_in, energy_in, item_of}
use Rattle.trace_reader.proofs.line.item_of.Goals as goal

same-choice : {A : Type 0} (b : Bool) (x : A) → (if b then x else x) ≡ x
same-choice true x = refl
same-choice false x = refl

-- a line that is its word alone is refused
item-alone : (v : Version) (names : List (List ℕ)) (word : List ℕ) → item_of v names (word ∷ []) ≡ Err kind.Word
unfolding item_of release_in speed_in run_in idle_in done_in end_in energy_in
item-alone v names word = simp same-choice refl

pub returns-in_err-word-clause-item : goal.returns-in_err-word-clause-item
returns-in_err-word-clause-item c =
    let none = MatchOption-at_none _ _ c.in_err-word.ensures.ok_part c.cut.ensures.none in
    let refused = item-alone c.args.version c.args.names.now c.args.line.now in
    rw (none, refused) (search rules)

pub returns-then-eq-2-clause-task : goal.returns-then-eq-2-clause-task
returns-then-eq-2-clause-task c = c.speed_in.ensures.task (length c.args.names.now)

pub returns-then-eq-4-clause-task : goal.returns-then-eq-4-clause-task
returns-then-eq-4-clause-task c = c.idle_in.ensures.task (length c.args.names.now)

pub returns-then-eq-6-clause-task : goal.returns-then-eq-6-clause-task
returns-then-eq-6-clause-task c = c.end_in.ensures.task (length c.args.names.now)
