-- What a replay answers for traces of schedules, and for others.
use Rattle.std.proofs.Common.{◌≡◌, ◌≢◌, ◌+◌, ◌<◌, ◌≤◌, ℕ, Bool, true, false, List, [], ◌∷◌, refl, if◌then◌else◌, ap, ap₂, ◌∙◌, sym, subst, true≢false, arith}
use Rattle.std.specs.Prelude.{nat_lt, unwrap_or, Option, Some, None, Result, Ok, Err, IfOk, IfErr, IsErrOf}
use Rattle.std.specs.Option.{option_or}
use Rattle.std.proofs.lemmas.Bool.Decides.{nat_tests}
use Rattle.std.proofs.lemmas.Option.{same_Some}
use Rattle.dvs_base.specs.Checks.{IsUnlessMemory}
use Rattle.dvs_base.specs.declared.note.Note.{Note}
use Rattle.dvs_base.specs.declared.note.Note.TheVariants.{Release, Speed, Run, Idle, Done, End}
use Rattle.dvs_base.specs.declared.note.Totals.{Totals}
use Rattle.dvs_base.specs.declared.limits.TheConstants.{MOST_JOBS}
use Rattle.task_model.specs.DemandRows.{DemandRow}
use Rattle.sched_model.specs.Plan.{Plan, count, worst}
use Rattle.sched_model.specs.Jobs.{JobDemands, released_jobs, demand_of}
use Rattle.sched_model.specs.Totals.{totals_of}
use Rattle.sched_model.specs.Admission.{IsWithinLimits}
use Rattle.trace_reader.specs.Traces.{TraceView, is_end, IsEnded}
use Rattle.replay_laws.specs.FixedDemands.{fixed_of}
use Rattle.replay_laws.specs.OwnList.{Asking, ticks_by, AreNotesFor, AreOwn, HasOwnList}
use Rattle.trace_laws.proofs.OneEnd.{schedule-ended}
use Rattle.replay.specs.Comparison.{same_note, first_unequal, FirstUnequal, unless_unequal}
use Rattle.replay.specs.Replays.{first_over, too_many, unless, own_notes, replay_of, IsCause, IsReplayed, IsFirstDifference}
use Rattle.replay.specs.declared.fault.ReplayFault.{ReplayFault}
use Rattle.replay.specs.declared.fault.ReplayFault.TheVariants as fault
use Rattle.replay.proofs.ComparedNotes.{same-self, compared-same}
use Rattle.replay.proofs.FixedByNotes.{over-fit, fit-over}

-- notes that are equal by `same_note` are equal
pub same-is : (m n : Note) → same_note m n ≡ true → m ≡ n
same-is (Release t i k) (Release t2 i2 k2) e = grind (arith, e)
same-is (Speed t f num den) (Speed t2 f2 num2 den2) e = grind (arith, e)
same-is (Run from to i k units energy) (Run from2 to2 i2 k2 units2 energy2) e = grind (arith, e)
same-is (Idle from to units energy) (Idle from2 to2 units2 energy2) e = grind (arith, e)
same-is (Done q i k used) (Done q2 i2 k2 used2) e = grind (arith, e)
same-is (End t run idle) (End t2 run2 idle2) e = grind (arith, e)
same-is _ _ e = absurd (true≢false (sym e))

-- after equal first notes, lists of notes that end once are both at their end, or both go on
same-rest : (at : ℕ) (w f : Note) (wanted found : List Note) → f ≡ w → IsEnded (w ∷ wanted)
    → IsEnded (f ∷ found)
    → (IsEnded wanted → IsEnded found → wanted ≡ found) → wanted ≡ found
same-rest at w f [] [] is once ends next = refl
same-rest at w f [] (g ∷ found) is once ends next = absurd (true≢false (sym once ∙ (ap is_end (sym is) ∙ ends.0)))
same-rest at w f (v ∷ wanted) [] is once ends next = absurd (true≢false (sym ends ∙ (ap is_end is ∙ once.0)))
same-rest at w f (v ∷ wanted) (g ∷ found) is once ends next = next once.1 ends.1

same-by : (at : ℕ) (w f : Note) (wanted found : List Note) (b : Bool) → same_note f w ≡ b → IsEnded (w ∷ wanted)
    → IsEnded (f ∷ found)
    → (first_unequal (at + 1) wanted found ≡ None → IsEnded wanted → IsEnded found → wanted ≡ found)
    → (if b then first_unequal (at + 1) wanted found else Some (at, w, f)) ≡ None → w ∷ wanted ≡ f ∷ found
same-by at w f wanted found true is once ends next h =
    let note : f ≡ w = same-is f w is in
    ap₂ (λ (n : Note) (l : List Note). n ∷ l) (sym note) (same-rest at w f wanted found note once ends (next h))
same-by at w f wanted found false is once ends next h = absurd cc

pub nowhere-same : (at : ℕ) (wanted found : List Note) → IsEnded wanted → IsEnded found
    → first_unequal at wanted found ≡ None → wanted ≡ found
nowhere-same at [] found once ends e = absurd once
nowhere-same at (w ∷ wanted) [] once ends e = absurd ends
nowhere-same at (w ∷ wanted) (f ∷ found) once ends e =
    same-by at w f wanted found (same_note f w) refl once ends
    (λ none first second. nowhere-same (at + 1) wanted found first second none) e

-- the first two unequal notes of two lists, at a place that is counted from `at`
abbrev FirstFrom : ℕ → List Note → List Note → ℕ → Note → Note → Type 0
FirstFrom at wanted found place w f = (more : ℕ) × (place ≡ at + more) × FirstUnequal wanted found more w f

first-later : (at : ℕ) (v g : Note) (wanted found : List Note) (place : ℕ) (w f : Note) → g ≡ v
    → FirstFrom (at + 1) wanted found place w f → FirstFrom at (v ∷ wanted) (g ∷ found) place w f
first-later at v g wanted found place w f is h = (
  h.0 + 1,
  omega (arith, h.1),
  record {
    before = v ∷ h.2.before;
    more = h.2.more;
    others = h.2.others;
    place_is = omega (arith, h.2.place_is);
    wanted_are = ap (λ (l : List Note). v ∷ l) h.2.wanted_are;
    found_are = ap₂ (λ (n : Note) (l : List Note). n ∷ l) is h.2.found_are;
    unequal = h.2.unequal;
  },
)

first-by : (at : ℕ) (v g : Note) (wanted found : List Note) (place : ℕ) (w f : Note) (b : Bool) → same_note g v ≡ b
    → (first_unequal (at + 1) wanted found ≡ Some (place, w, f) → FirstFrom (at + 1) wanted found place w f)
    → (if b then first_unequal (at + 1) wanted found else Some (at, v, g)) ≡ Some (place, w, f)
    → FirstFrom at (v ∷ wanted) (g ∷ found) place w f
first-by at v g wanted found place w f true is next h = first-later at v g wanted found place w f (same-is g v is) (next h)
first-by at v g wanted found place w f false is next h =
    let three : (at, v, g) ≡ (place, w, f) = ap (λ (o : Option (ℕ × Note × Note)). unwrap_or o (at, v, g)) h in
    let place_is : place ≡ at + 0 = sym (ap (λ (x : ℕ × Note × Note). x.0) three) ∙ omega arith in
    let wanted_is : v ≡ w = ap (λ (x : ℕ × Note × Note). x.1) three in
    let found_is : g ≡ f = ap (λ (x : ℕ × Note × Note). x.2) three in (
      0,
      place_is,
      record {
        before = [];
        more = wanted;
        others = found;
        place_is = refl;
        wanted_are = ap (λ (n : Note). n ∷ wanted) wanted_is;
        found_are = ap (λ (n : Note). n ∷ found) found_is;
        unequal = λ same. true≢false (sym (same-self v) ∙ (ap (λ (n : Note). same_note n v) (wanted_is ∙ (same ∙ sym found_is)) ∙ is));
      },
    )

pub somewhere-first : (at : ℕ) (wanted found : List Note) (place : ℕ) (w f : Note)
    → first_unequal at wanted found ≡ Some (place, w, f) → FirstFrom at wanted found place w f
somewhere-first at [] found place w f e = absurd cc
somewhere-first at (v ∷ wanted) [] place w f e = absurd cc
somewhere-first at (v ∷ wanted) (g ∷ found) place w f e =
    first-by at v g wanted found place w f (same_note g v) refl (somewhere-first (at + 1) wanted found place w f) e

-- the refusal comes before a comparison, and shows its cause
abbrev IsEarly : ReplayFault → Type 0
IsEarly (fault.OverWorst i k used worst) = worst < used
IsEarly (fault.TooManyJobs jobs) = MOST_JOBS < jobs
IsEarly _ = ⊥

over-early : (p : Plan) (notes : List Note) (why : ReplayFault) → first_over p notes ≡ Some why → IsEarly why
over-early p [] why e = absurd cc
over-early p (Done q i k used ∷ notes) why e = go (nat_lt (worst p i) used) refl (over-early p notes why) e
  where
    go : (b : Bool) → nat_lt (worst p i) used ≡ b → (first_over p notes ≡ Some why → IsEarly why)
        → option_or (if b then Some (fault.OverWorst i k used (worst p i)) else None) (first_over p notes) ≡ Some why
        → IsEarly why
    go true over rest e = subst IsEarly (same_Some _ _ e) (grind (arith, nat_tests, over))
    go false low rest e = rest e
over-early p (n ∷ notes) why e = over-early p notes why e

many-early : (p : Plan) (ticks : ℕ) (why : ReplayFault) → too_many p ticks ≡ Some why → IsEarly why
many-early p ticks why = go (nat_lt MOST_JOBS (released_jobs p ticks)) refl
  where
    go : (b : Bool) → nat_lt MOST_JOBS (released_jobs p ticks) ≡ b
        → (if b then Some (fault.TooManyJobs (released_jobs p ticks)) else None) ≡ Some why → IsEarly why
    go true many e = subst IsEarly (same_Some _ _ e) (grind (arith, nat_tests, many))
    go false few e = absurd cc

-- jobs within the limit are not too many
pub few-jobs : (p : Plan) (ticks : ℕ) → released_jobs p ticks ≤ MOST_JOBS → too_many p ticks ≡ None
few-jobs p ticks few =
    let low : nat_lt MOST_JOBS (released_jobs p ticks) ≡ false = grind (arith, nat_tests, few) in
    rw low refl

-- a refusal as a result
abbrev result_of : ReplayFault → Result Totals ReplayFault
result_of why = Err why

-- a difference isn't the refusal `NoMemory`
other-fault : (why : ReplayFault) (line : ℕ) (w f : Note) → IsErrOf (result_of why) (fault.Differs line w f)
    → why ≢ fault.NoMemory
other-fault why line w f is memory = cc

module _ (p : Plan) (lim : IsWithinLimits p) (asked : Asking) (t : TraceView) (ends : IsEnded t.notes) where
  once : IsEnded (own_notes p asked t)
  once =
      let own : JobDemands = demand_of p (fixed_of p t.notes) in
      schedule-ended p own (asked own) (ticks_by p asked own t.plan.ticks)

  -- a trace passes if no end is over its worst case, the jobs are few, and its notes are those of its own list
  pub record Passes : Type 0 where
    pub none_over : first_over p t.notes ≡ None
    pub few : too_many p t.plan.ticks ≡ None
    pub same : t.notes ≡ own_notes p asked t

  pub passes-replayed : Passes → replay_of p asked t ≡ Ok (totals_of t.notes)
  passes-replayed h =
      rw (h.none_over, h.few)
      (compared-same (count p) t (own_notes p asked t) h.same ∙ ap (λ (l : List Note). Ok (totals_of l)) (sym h.same))

  -- what an answer says: a trace that is replayed passes, and the answer is its totals; a difference names the first two
  -- unequal notes; a refusal shows its cause
  abbrev Says : Result Totals ReplayFault → Type 0
  Says (Ok totals) = Passes × (totals ≡ totals_of t.notes)
  Says (Err (fault.Differs line w f)) = IsFirstDifference p asked t line w f × (w ≢ f)
  Says (Err why) = IsCause why

  says-early : (why : ReplayFault) → IsEarly why → Says (Err why)
  says-early (fault.OverWorst i k used worst) h = h
  says-early (fault.TooManyJobs jobs) h = h
  says-early _ h = absurd h

  says-by : (o m : Option ReplayFault) (d : Option (ℕ × Note × Note)) → first_over p t.notes ≡ o → too_many p t.plan.ticks ≡ m
      → first_unequal 0 (own_notes p asked t) t.notes ≡ d → Says (unless o (unless m (unless_unequal (count p) t d)))
  says-by (Some why) m d over many unequal = says-early why (over-early p t.notes why over)
  says-by None (Some why) d over many unequal = says-early why (many-early p t.plan.ticks why many)
  says-by None None None over many unequal =
      (record { none_over = over; few = many; same = sym (nowhere-same 0 (own_notes p asked t) t.notes once ends unequal) }, refl)
  says-by None None (Some (place, w, f)) over many unequal =
      let first = somewhere-first 0 (own_notes p asked t) t.notes place w f unequal in
      let more : first.0 ≡ place = omega (arith, first.1) in
      ((place, refl, subst (λ (n : ℕ). FirstUnequal (own_notes p asked t) t.notes n w f) more first.2), first.2.unequal)

  says : (r : Result Totals ReplayFault) → replay_of p asked t ≡ r → Says r
  says r e = subst Says e (says-by _ _ _ refl refl refl)

  pub replayed-passes : (totals : Totals) → replay_of p asked t ≡ Ok totals → Passes × (totals ≡ totals_of t.notes)
  replayed-passes totals = says (Ok totals)

  pub err-shown : (r : Result Totals ReplayFault)
      → IsUnlessMemory fault.NoMemory (λ (totals : Totals). totals) r (replay_of p asked t) → IfErr r IsCause
  err-shown (Ok totals) h = tt
  err-shown (Err (fault.OverWorst i k used worst)) h = says _ (h (λ no. absurd cc))
  err-shown (Err (fault.TooManyJobs jobs)) h = says _ (h (λ no. absurd cc))
  err-shown (Err (fault.Differs line w f)) h = (says (Err (fault.Differs line w f)) (h (λ no. absurd cc))).1
  err-shown (Err fault.NoMemory) h = tt

  module _ (law : HasOwnList p asked) where
    own-passes : AreOwn p asked t.plan.ticks t.notes → released_jobs p t.plan.ticks ≤ MOST_JOBS → Passes
    own-passes own few = record {
      none_over = fit-over p t.notes own.fit;
      few = few-jobs p t.plan.ticks few;
      same = own.notes_are;
    }

    -- if the jobs are few, notes of the schedule for some list pass their replay
    pub some-replayed : (rows : List DemandRow) → AreNotesFor p asked t.plan.ticks t.notes rows
        → released_jobs p t.plan.ticks ≤ MOST_JOBS
        → replay_of p asked t ≡ Ok (totals_of t.notes)
    some-replayed rows h few = passes-replayed (own-passes (law.of_some t.plan.ticks t.notes rows h) few)

    passes-own : Passes → AreOwn p asked t.plan.ticks t.notes
    passes-own h = record { fit = over-fit p t.notes h.none_over; notes_are = h.same }

    -- a trace that is replayed has the notes of the schedule for the list that it fixes
    pub is-replayed : (totals : Totals) → replay_of p asked t ≡ Ok totals → IsReplayed p asked t totals
    is-replayed totals h =
        let passes = replayed-passes totals h in
        let own = passes-own passes.0 in
        record {
          totals_are = passes.1;
          notes = law.of_own t.plan.ticks t.notes own;
          list = law.list t.plan.ticks t.notes own;
        }

    -- if a call answers totals, the trace is replayed with them
    pub ok-replayed : (r : Result Totals ReplayFault)
        → IsUnlessMemory fault.NoMemory (λ (totals : Totals). totals) r (replay_of p asked t)
        → IfOk r (λ totals. IsReplayed p asked t totals)
    ok-replayed (Ok totals) h = is-replayed totals h
    ok-replayed (Err why) h = tt

  pub err-differs : (r : Result Totals ReplayFault)
      → IsUnlessMemory fault.NoMemory (λ (totals : Totals). totals) r (replay_of p asked t)
      → (line : ℕ) (w f : Note) → IsErrOf r (fault.Differs line w f) → IsFirstDifference p asked t line w f
  err-differs (Ok totals) h line w f is = absurd cc
  err-differs (Err why) h line w f is = (says (Err (fault.Differs line w f)) (h (other-fault why line w f is) ∙ is)).0
