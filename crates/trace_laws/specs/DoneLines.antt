-- Where the text of a run has the line of a job's completion.
use Rattle.std.specs.Prelude.{◌≡◌, ℕ, ◌<◌, ◌≤◌, List, ◌∷◌, ◌++◌}
use Rattle.std.specs.List.{All}
use Rattle.dvs_base.specs.declared.kind.GovernorKind.{GovernorKind}
use Rattle.dvs_base.specs.declared.kind.Version.{Version}
use Rattle.dvs_base.specs.declared.note.Pos.{Pos}
use Rattle.trace_text.specs.TraceLines.{line, done_fields, lines_of}
use Rattle.dvs_base.specs.declared.limits.TheConstants.{MOST_TICKS}
use Rattle.dvs_base.specs.Parts.{name_of}
use Rattle.note_laws.specs.InTime.{IsBy}
use Rattle.sched_model.specs.Plan.{Plan, count, names}
use Rattle.sched_model.specs.Schedule.{schedule}
use Rattle.sched_model.specs.Ticks.{IsMet}
use Rattle.sched_model.specs.Jobs.{JobDemands, due}
use Rattle.trace_writer.specs.RunText.{run_text_in}

-- the line says that job k of the task of this name completes at the position
abbrev pub IsDoneLine : List ℕ → ℕ → Pos → List ℕ → Type 0
IsDoneLine name k at_end l = (used : ℕ) × (l ≡ line (done_fields at_end name k used))

-- none of the lines says that job k of the task of this name completes
abbrev pub NoDoneLine : List ℕ → ℕ → List (List ℕ) → Type 0
NoDoneLine name k = All (λ l. (at_end : Pos) → IsDoneLine name k at_end l → ⊥)

-- exactly one line of the text says that job k of the task of this name completes, not after the beginning of tick t
pub record IsToldBy (name : List ℕ) (k t : ℕ) (text : List ℕ) : Type 0 where
  pub before : List (List ℕ)
  pub told : List ℕ
  pub after : List (List ℕ)
  pub at_end : Pos
  pub lines : lines_of text ≡ before ++ told ∷ after
  pub done : IsDoneLine name k at_end told
  pub in_time : IsBy t at_end
  pub none_before : NoDoneLine name k before
  pub none_after : NoDoneLine name k after

-- for each job that is due within `ticks` ticks, the text says once that it completes, not after its deadline
abbrev pub TellsDeadlines : Plan → ℕ → List ℕ → Type 0
TellsDeadlines p ticks text =
    (i k : ℕ) → i < count p → 1 ≤ k → due p i k ≤ ticks → IsToldBy (name_of (names p) i) k (due p i k) text

-- the text of each run that meets its deadlines, in either version, says of each job that it completes by its deadline
abbrev pub TextTellsDeadlines : Plan → Type 0
TextTellsDeadlines p =
    (v : Version) (kind : GovernorKind) (dem : JobDemands) (ticks : ℕ) → ticks ≤ MOST_TICKS
    → IsMet p dem (schedule p kind dem ticks) → TellsDeadlines p ticks (run_text_in v p kind dem ticks)
