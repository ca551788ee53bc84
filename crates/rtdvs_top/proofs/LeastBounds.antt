-- What a `least` over these files has met, from how its answer ends.
use Rattle.std.proofs.Common.{◌≡◌, ◌*◌, ℕ, Bool, true, false, List, Option, Some, Result, Ok, Err, refl, sym, ◌∙◌, ap, subst, arith, nat_lt, if◌then◌else◌}
use Rattle.std.proofs.lemmas.Bool.Decides.{nat_tests}
use Rattle.dvs_base.specs.Outside.{Files, SinkView, Takes}
use Rattle.dvs_base.specs.Checks.{and_then}
use Rattle.freq_table.specs.Tables.{Table, highest_speed}
use Rattle.std.specs.Prelude.{IfOk}
use Rattle.energy_bound.specs.declared.least.Least.{Least}
use Rattle.energy_bound.specs.declared.least.Over.{Over}
use Rattle.energy_bound.specs.Certificates.{IsCertificate, least_of}
use Rattle.energy_bound.specs.Schedules.{IsLeast}
use Rattle.energy_bound.specs.FirstPairs.{low_corner, high_corner, least_energy_of}
use Rattle.words.specs.Commands.{LeastView, CommandView, least}
use Rattle.command_files.specs.Meanings.{machine_at}
use Rattle.rtdvs_top.specs.Asked.{asked_with}
use Rattle.rtdvs_top.specs.Least.{least_text, least_from, least_on, IsLeastOn, AreTooMany}
use Rattle.rtdvs_top.specs.Promises.{answer_of_command, ProvesLeast}
use Rattle.rtdvs_top.specs.Prepared.{EndsAs, ProvesDone}
use Rattle.statuses.specs.declared.status.Denied.{Denied}
use Rattle.statuses.specs.declared.status.Status.{Status}
use Rattle.statuses.specs.declared.status.Status.TheVariants as status
use Rattle.rtdvs_top.proofs.DeniedPlans.{given-once, denied-later, machine_at-denies-not}

-- the text of the answer is that of the minimum
text-is : (l : LeastView) (files : Files) (m : Table) (a : Least) (text : List ℕ) → machine_at l.machine files ≡ Ok m
    → least_energy_of m l.units l.ticks ≡ Ok a → answer_of_command (least l) files ≡ Ok text → text ≡ least_text a
unfolding least_on
text-is l files m a text e f h = given-once h (ap (λ x. and_then x (least_on l)) e ∙ ap least_from f)

-- if the answer is denied, the machine does fewer units in the ticks than are asked for
too-many : (l : LeastView) (m : Table) (why : Denied) → least_on l m ≡ Err (status.NotAdmitted why) → AreTooMany m l why
unfolding least_on
too-many l m why h = go (nat_lt (l.ticks * highest_speed m) l.units) refl h
  where
    whole : Least
    whole = let a = low_corner m l.units l.ticks in least_of m l.units l.ticks a (high_corner m l.units l.ticks a)

    go : (b : Bool) → nat_lt (l.ticks * highest_speed m) l.units ≡ b
        → least_from (if b then Err (record { num = l.units; cap = l.ticks * highest_speed m }) else Ok whole) ≡ Err (status.NotAdmitted why)
        → AreTooMany m l why
    go true e h = record { numbers = cc; more = grind (arith, nat_tests) }
    go false e h = absurd (cc)

-- a `least` over these files, from how its answer ends and what it met
pub proves-least : (files : Option Files) (c : CommandView) (s : Status) (old new : SinkView)
    → EndsAs old new files (answer_of_command c) s → ProvesDone files c s → ProvesLeast (asked_with files c) old new s
proves-least (Some files) (least l) status.Done old new ends met =
    let whole : ends.0 ≡ least_text met.1 = text-is l files met.0 met.1 ends.0 met.2 met.3.answer ends.1 in
    (met.0, met.1, met.2, met.3, subst (Takes old new) whole ends.2.bytes)
proves-least (Some files) (least l) (status.NotAdmitted why) old new ends met =
    let d = denied-later (machine_at l.machine files) (least_on l) why (machine_at-denies-not l.machine files) ends in
    (d.0, d.1, too-many l d.0 why d.2)
proves-least files c s old new ends met = tt

-- the answer of `least_energy` is the machine's, and passes its check
pub is-least : (m : Table) (l : LeastView) (r : Result Least Over) → r ≡ least_energy_of m l.units l.ticks
    → IfOk r (IsCertificate m l.units l.ticks) → IfOk r (IsLeast m l.units l.ticks) → IfOk r (IsLeastOn m l)
is-least m l (Ok a) answer certificate low = record { answer = sym answer; certificate = certificate; least = low }
is-least m l (Err over) answer certificate low = tt
