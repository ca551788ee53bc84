-- The demands that notes fix, note by note.
use Rattle.std.proofs.Common.{◌≡◌, ◌+◌, ◌-◌, ◌*◌, ◌<◌, ◌≤◌, ℕ, zero, suc, Bool, true, false, ◌&&◌, List, [], ◌∷◌, length, drop, get_or, refl, if◌then◌else◌, ap, ◌∙◌, sym, arith, add-one, nat_eq}
use Rattle.std.specs.Prelude.{nat_lt, Option, Some, None, unwrap_or, option_map}
use Rattle.std.specs.Option.{option_or}
use Rattle.std.specs.List.{AllByRecursion}
use Rattle.std.proofs.Math.Seq.{drop-cons}
use Rattle.std.proofs.lemmas.Bool.Decides.{nat_tests}
use Rattle.dvs_base.specs.declared.note.Note.{Note}
use Rattle.dvs_base.specs.declared.note.Note.TheVariants.{Done}
use Rattle.dvs_base.proofs.Options.{or-none, or-assoc}
use Rattle.task_model.specs.DemandRows.{DemandRow, named_units}
use Rattle.demand_list.specs.Demands.{DemandsView}
use Rattle.sched_model.specs.Plan.{Plan, worst}
use Rattle.sched_model.specs.Jobs.{demand_of}
use Rattle.replay_laws.specs.FixedDemands.{fixed_before, fixed_of}
use Rattle.replay_laws.specs.OwnList.{IsFit}
use Rattle.replay.specs.Replays.{first_over, Fixes}
use Rattle.replay.specs.declared.fault.ReplayFault.TheVariants as fault

-- what is left of a list from place i on begins with the element at i
pub drop-next : {A : Type 0} (l : List A) (i : ℕ) (x : A) → i < length l → drop i l ≡ get_or l i x ∷ drop (i + 1) l
drop-next l i x lt = rw add-one (drop-cons l i x lt)

-- if no end is over its worst case, each note is fit
pub over-fit : (p : Plan) (notes : List Note) → first_over p notes ≡ None → AllByRecursion (IsFit p) notes
over-fit p [] none = tt
over-fit p (Done q i k used ∷ notes) none = go (nat_lt (worst p i) used) refl none (over-fit p notes)
  where
    go : (b : Bool) → nat_lt (worst p i) used ≡ b
        → option_or (if b then Some (fault.OverWorst i k used (worst p i)) else None) (first_over p notes) ≡ None
        → (first_over p notes ≡ None → AllByRecursion (IsFit p) notes)
        → (used ≤ worst p i) × AllByRecursion (IsFit p) notes
    go true over e rest = absurd cc
    go false low e rest = (grind (arith, nat_tests, low), rest e)
over-fit p (n ∷ notes) none = (tt, over-fit p notes none)

-- if each note is fit, no end is over its worst case
pub fit-over : (p : Plan) (notes : List Note) → AllByRecursion (IsFit p) notes → first_over p notes ≡ None
fit-over p [] fit = refl
fit-over p (Done q i k used ∷ notes) fit =
    let low : nat_lt (worst p i) used ≡ false = grind (arith, nat_tests, fit.0) in
    rw low (fit-over p notes fit.1)
fit-over p (n ∷ notes) fit = fit-over p notes fit.1

-- the row that a note fixes comes before those that the notes after it fix
fixed-first : (p : Plan) (n : Note) (rows : List DemandRow) (i k : ℕ)
    → named_units (fixed_before p n rows) i k ≡ option_or (named_units (fixed_before p n []) i k) (named_units rows i k)
fixed-first p (Done q j (suc l) used) rows i k = go (nat_eq j i && nat_eq (suc l) k)
  where
    go : (b : Bool)
        → (if b then Some (used - 2 * p.machine.charge) else named_units rows i k)
        ≡ option_or (if b then Some (used - 2 * p.machine.charge) else None) (named_units rows i k)
    go true = refl
    go false = refl
fixed-first p _ rows i k = refl

-- the rows of a list, then those that the notes from place `at` on fix, give each job what all the notes fix for it
abbrev pub AreFixedFrom : Plan → List Note → ℕ → DemandsView → Type 0
AreFixedFrom p notes at d =
    (i k : ℕ) → option_or (named_units d.rows i k) (named_units (fixed_of p (drop at notes)) i k) ≡ named_units (fixed_of p notes) i k

-- a list without rows, then the rows that all the notes fix, give each job what the notes fix for it
pub fixed-none : (p : Plan) (notes : List Note) (d : DemandsView) → d.rows ≡ [] → AreFixedFrom p notes 0 d
fixed-none p notes d none i k = ap (λ (rows : List DemandRow). option_or (named_units rows i k) (named_units (fixed_of p notes) i k)) none

pub fixed-next : (p : Plan) (notes : List Note) (at : ℕ) (n : Note) (old new : DemandsView)
    → drop at notes ≡ n ∷ drop (at + 1) notes
    → AreFixedFrom p notes at old → Fixes (fixed_before p n []) old new → AreFixedFrom p notes (at + 1) new
fixed-next p notes at n old new is before h i k =
    ap (λ (o : Option ℕ). option_or o (named_units (fixed_of p (drop (at + 1) notes)) i k)) (h i k)
    ∙ (or-assoc (named_units old.rows i k) (named_units (fixed_before p n []) i k) (named_units (fixed_of p (drop (at + 1) notes)) i k)
    ∙ (ap (option_or (named_units old.rows i k)) (sym (fixed-first p n (fixed_of p (drop (at + 1) notes)) i k)
    ∙ ap (λ (l : List Note). named_units (fixed_of p l) i k) (sym is))
    ∙ before i k))

-- rows that give each job the same units make the same demands
same-demand : (p : Plan) (rows others : List DemandRow) → ((i k : ℕ) → named_units rows i k ≡ named_units others i k) → (i k : ℕ)
    → demand_of p rows i k ≡ demand_of p others i k
same-demand p rows others same i zero = refl
same-demand p rows others same i (suc k) =
    ap (λ (o : Option ℕ). unwrap_or (option_map (λ u. u + 2 * p.machine.charge) o) (worst p i)) (same i (suc k))

pub fixed-whole : (p : Plan) (notes : List Note) (at : ℕ) (d : DemandsView) → drop at notes ≡ []
    → AreFixedFrom p notes at d
    → demand_of p d.rows ≡ demand_of p (fixed_of p notes)
fixed-whole p notes at d none h =
    let same : (i k : ℕ) → demand_of p d.rows i k ≡ demand_of p (fixed_of p notes) i k =
    same-demand p d.rows (fixed_of p notes) (λ i k. sym (or-none (named_units d.rows i k))
    ∙ (ap (λ (l : List Note). option_or (named_units d.rows i k) (named_units (fixed_of p l) i k)) (sym none) ∙ h i k)) in
    λ n i k. same i k n
