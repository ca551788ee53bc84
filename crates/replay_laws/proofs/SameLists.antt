-- Which demand lists have schedules with the same notes: notes are those of a schedule for some demand list exactly if
-- they are those for the list that they fix.
use Rattle.std.specs.Prelude.{count_by}
use Rattle.std.proofs.Common.{◌≡◌, ◌<◌, ◌≤◌, ℕ, true, false, List, length, refl, ap, ◌∙◌, sym, subst, arith, inl, inr}
use Rattle.std.proofs.lemmas.Bool.Decides.{nat_tests}
use Rattle.std.specs.List.{AllByRecursion}
use Rattle.dvs_base.specs.declared.note.Note.{Note}
use Rattle.task_model.specs.DemandRows.{DemandRow}
use Rattle.std.proofs.Math.Logic.{⊎_elim}
use Rattle.std.proofs.lemmas.Bool.{cases_Bool}
use Rattle.sched_model.specs.Plan.{Plan, count}
use Rattle.sched_model.specs.Jobs.{JobDemands, release, demand_of, IsWithin}
use Rattle.sched_model.specs.Ticks.{Tick, exec, is_done}
use Rattle.sched_model.specs.Admission.{IsWithinLimits}
use Rattle.sched_model.proofs.NoteSums.{tells_done}
use Rattle.dvs_base.specs.declared.kind.GovernorKind.{GovernorKind}
use Rattle.sched_model.specs.Demand.{published}
use Rattle.governor.specs.Schedule.{ask_of}
use Rattle.replay_laws.proofs.SameNotes.{IsBlind, blind-own}
use Rattle.replay_laws.specs.FixedDemands.{fixed_of}
use Rattle.replay_laws.specs.OwnList.{Asking, ticks_by, notes_by, TellSame, HasSameNotes, AreOwn, HasOwnList, OwnLists}
use Rattle.replay_laws.proofs.OwnDemands.{looks-at-none, told, own-told, told-finished, tell-same, own-notes, fixed-demand, IsOfTask, notes-fit, notes-of-tasks, fixed-within, fixed-demands}
use Rattle.replay_laws.proofs.BlindDemands.{blind-published}

-- a completion among the notes: the list that they fix has the job's demand, and the job has had it
module _ (p : Plan) (lim : IsWithinLimits p) (ask : Asking) (blind : IsBlind p ask) (rows : List DemandRow)
    (within : IsWithin p (demand_of p rows)) (t : ℕ) where
  abbrev ticks : List Tick
  ticks = ticks_by p ask (demand_of p rows) t

  abbrev notes : List Note
  notes = notes_by p ask (demand_of p rows) t

  completed : (i k : ℕ) → i < count p → 1 ≤ k → count_by (tells_done i k) notes ≡ 1
      → (demand_of p (fixed_of p notes) i k ≡ demand_of p rows i k) × (demand_of p rows i k ≤ exec p ticks i k)
  completed i k lt some once =
      ⊎_elim (λ a. absurd (omega (arith, once, a.1))) (λ b. (own-told p lim ask blind rows within t i k some b.0, b.1))
      (told p lim ask blind rows within t i k lt some)

module _ (p : Plan) (lim : IsWithinLimits p) (ask : Asking) (blind : IsBlind p ask) (rows others : List DemandRow)
    (t : ℕ) (within : IsWithin p (demand_of p rows)) (within_others : IsWithin p (demand_of p others))
    (same : notes_by p ask (demand_of p others) t ≡ notes_by p ask (demand_of p rows) t) where
  abbrev dem : JobDemands
  dem = demand_of p rows

  abbrev other : JobDemands
  other = demand_of p others

  -- equal notes fix equal lists, and the ticks for each list are those for the list that its notes fix
  same-ticks : ticks_by p ask other t ≡ ticks_by p ask dem t
  same-ticks =
      sym (looks-at-none p lim ask blind other (demand_of p (fixed_of p (notes_by p ask other t))) t
      (tell-same p lim ask blind others within_others t)).0
      ∙ (ap (λ (ns : List Note). ticks_by p ask (demand_of p (fixed_of p ns)) t) same
      ∙ (looks-at-none p lim ask blind dem (demand_of p (fixed_of p (notes_by p ask dem t))) t
      (tell-same p lim ask blind rows within t)).0)

  same-finished : (i k : ℕ) → i < count p → 1 ≤ k → release p i k < length (ticks_by p ask dem t)
      → is_done p dem (ticks_by p ask dem t) i k ≡ true → dem i k ≡ other i k
  same-finished i k lt some early done =
      let once = told-finished p lim ask blind rows within t i k lt some early done in
      let also = ap (λ (ns : List Note). count_by (tells_done i k) ns) same ∙ once in
      sym (completed p lim ask blind rows within t i k lt some once).0
      ∙ (ap (λ (ns : List Note). demand_of p (fixed_of p ns) i k) (sym same)
      ∙ (completed p lim ask blind others within_others t i k lt some also).0)

  same-unfinished : (i k : ℕ) → i < count p → 1 ≤ k → release p i k < length (ticks_by p ask dem t)
      → is_done p dem (ticks_by p ask dem t) i k ≡ false → exec p (ticks_by p ask dem t) i k < other i k
  same-unfinished i k lt some early open_job = elim (cases_Bool (is_done p other (ticks_by p ask dem t) i k)) [
    | inr e ↦ (let open_by : is_done p other (ticks_by p ask dem t) i k ≡ false = e in grind (arith, nat_tests))
    | inl e ↦
        let back = sym same-ticks in
        let done = subst (λ (x : List Tick). is_done p other x i k ≡ true) back e in
        let released = subst (λ (x : List Tick). release p i k < length x) back early in
        let also = told-finished p lim ask blind others within_others t i k lt some released done in
        let once = ap (λ (ns : List Note). count_by (tells_done i k) ns) (sym same) ∙ also in
        let had = (completed p lim ask blind rows within t i k lt some once).1 in
        absurd (grind (arith, nat_tests, open_job, had))
  ]

  pub same-told : TellSame p dem other (ticks_by p ask dem t)
  same-told = record {
    finished = same-finished;
    unfinished = same-unfinished;
    none = λ i. refl;
    other_none = λ i. refl;
  }

-- notes fix the demands of completed jobs, so equal notes have equal ones; the converse is `looks-at-none`
pub has-same-notes : (p : Plan) → IsWithinLimits p → (ask : Asking) → IsBlind p ask → HasSameNotes p ask
has-same-notes p lim ask blind rows others ticks within within_others = (
  λ same. same-told p lim ask blind rows others ticks within within_others same,
  λ h. (looks-at-none p lim ask blind (demand_of p rows) (demand_of p others) ticks h).1,
)

module _ (p : Plan) (lim : IsWithinLimits p) (ask : Asking) (blind : IsBlind p ask) where
  are-own : (ticks : ℕ) (rows : List DemandRow) → IsWithin p (demand_of p rows) → AreOwn p ask ticks (notes_by p ask (demand_of p rows) ticks)
  are-own ticks rows within = record {
    fit = notes-fit p lim (demand_of p rows) (ask (demand_of p rows)) within (ticks_by p ask (demand_of p rows) ticks);
    notes_are = own-notes p lim ask blind rows within ticks;
  }

  pub has-own-list : HasOwnList p ask
  has-own-list = record {
    of_some = λ ticks notes rows h. subst (AreOwn p ask ticks) (sym h.notes_are) (are-own ticks rows h.within);
    of_own = λ ticks notes h. record { within = fixed-within p notes h.fit; notes_are = h.notes_are };
    list = λ ticks notes h.
        let own : JobDemands = demand_of p (fixed_of p notes) in
        fixed-demands p lim notes h.fit (subst (AllByRecursion (IsOfTask p)) (sym h.notes_are) (notes-of-tasks p lim own (ask own) (ticks_by p ask own ticks)));
  }

-- the law of fixed demands holds for any function of the states as published demand, and for each kind of governor
pub own-lists : (p : Plan) → IsWithinLimits p → OwnLists p
own-lists p lim = record {
  fixed = fixed-demand p;
  looks = λ demand. looks-at-none p lim (ask_of demand p) (blind-own p lim demand);
  own = λ demand. has-own-list p lim (ask_of demand p) (blind-own p lim demand);
  same = λ demand. has-same-notes p lim (ask_of demand p) (blind-own p lim demand);
  published_looks = λ kind. looks-at-none p lim (published p kind) (blind-published p lim kind);
  published_own = λ kind. has-own-list p lim (published p kind) (blind-published p lim kind);
  published_same = λ kind. has-same-notes p lim (published p kind) (blind-published p lim kind);
}
