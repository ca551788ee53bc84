-- The schedules for two lists have the same text exactly if they have the same notes.
use Rattle.std.proofs.Common.{◌≡◌, ◌<◌, ◌∙◌, ℕ, true, List, [], ◌∷◌, ap, append-nil, refl}
use Rattle.dvs_base.specs.Text.{is_name}
use Rattle.dvs_base.specs.declared.kind.GovernorKind.{GovernorKind}
use Rattle.dvs_base.specs.declared.note.Note.{Note}
use Rattle.dvs_base.specs.Parts.{name_of}
use Rattle.task_model.specs.Tasks.{IsTaskSet}
use Rattle.sched_model.specs.Admission.{IsAdmitted, IsWithinLimits}
use Rattle.sched_model.specs.Demand.{published}
use Rattle.sched_model.specs.Jobs.{demand_of}
use Rattle.sched_model.specs.Plan.{Plan, count, names, task, period, offset}
use Rattle.sched_model.proofs.Schedules.{each-below}
use Rattle.trace_reader.specs.Traces.{TraceView, text_of}
use Rattle.trace_text.specs.TraceText.{task_text, text_of_lines}
use Rattle.trace_reader.proofs.HeadTexts.{IsLine, AreLines, task_lines-lines}
use Rattle.trace_reader.proofs.TraceTexts.{one-text}
use Rattle.trace_writer.specs.RunText.{task_texts, run_lines}
use Rattle.replay_laws.specs.OwnList.{Asking, HasSameNotes}
use Rattle.replay_laws.proofs.SameLists.{own-lists}
use Rattle.trace_laws.proofs.TraceLimits.{keeps-limits}
use Rattle.replay.specs.SameTexts.{trace_by, text_by, HasSameTextBy, HasSameText, TextHasOwnList}
use Rattle.replay.proofs.Texts.{names-distinct, names-named, name-at}

-- the line of each task of a plan is a line
texts-lines : (p : Plan) → IsTaskSet p.tasks → AreLines (task_texts p)
texts-lines p set =
    each-below IsLine (count p) (λ i. task_text (name_of (names p) i) (period p i) (offset p i) (task p i).worst) one
  where
    one : (i : ℕ) → i < count p → IsLine (task_text (name_of (names p) i) (period p i) (offset p i) (task p i).worst)
    one i lt =
        let named : is_name (name_of (names p) i) ≡ true =
        ap is_name (name-at p.tasks i [] lt) ∙ (set.each i lt).name in
        (task_lines-lines (name_of (names p) i ∷ [])
        (record { period = period p i; offset = offset p i; worst = (task p i).worst } ∷ []) (named, tt)).0

-- a trace has one text, so equal texts are of equal notes
pub same-text-by : (p : Plan) → IsTaskSet p.tasks → (ask : Asking) → HasSameNotes p ask → (g : GovernorKind)
    → HasSameTextBy p ask g
same-text-by p set ask same g v ticks rows others h k = (
  λ e.
      let texts = one-text (names p) (task_texts p) (names-named p.tasks set.each) (names-distinct p.tasks set)
      (texts-lines p set) (trace_by v p ask g (demand_of p others) ticks) (trace_by v p ask g (demand_of p rows) ticks) []
      k.trace h.trace
      (append-nil (text_by v p ask g (demand_of p others) ticks) ∙ e) in
      (same rows others ticks h.within k.within).0 (ap (λ (t : TraceView). t.notes) texts.0),
  λ told.
      ap (λ (notes : List Note). text_of (names p) (task_texts p)
      (record { version = v; plan = record { scheduler = p.scheduler; governor = g; ticks = ticks }; notes = notes }))
      ((same rows others ticks h.within k.within).1 told),
)

-- a run within the limits has a text
pub same-text : (p : Plan) → IsAdmitted p → ((g : GovernorKind) → HasSameNotes p (published p g)) → HasSameText p
same-text p adm same v g ticks rows others h k =
    same-text-by p adm.limits.tasks (published p g) (same g) g v ticks rows others
    (record { within = h.within; trace = keeps-limits p adm v g (demand_of p rows) ticks h })
    (record { within = k.within; trace = keeps-limits p adm v g (demand_of p others) ticks k })

-- the text of a run is that of the run for the list that its notes fix
pub text-own : (p : Plan) → IsWithinLimits p → (kind : GovernorKind) → TextHasOwnList p kind
text-own p lim kind v ticks rows within =
    ap (λ (notes : List Note). text_of_lines (run_lines v p kind ticks notes))
    (((own-lists p lim).published_own kind).of_some ticks _ rows (record { within = within; notes_are = refl })).notes_are
