-- What a status says by itself.
use Rattle.std.proofs.Common.{◌≡◌, ◌≢◌, ℕ, ◌-◌, ◌<◌, ◌++◌, Bool, true, false, List, None, Result, Ok, refl, subst, arith}
use Rattle.dvs_base.specs.Widths.{u64_end}
use Rattle.dvs_base.specs.Outside.{Rose}
use Rattle.dvs_base.specs.declared.limits.TheConstants.{MOST_JOBS}
use Rattle.words.specs.Commands.{CommandView}
use Rattle.words.specs.declared.command.WordFault.{WordFault}
use Rattle.statuses.specs.Status.{CountsLoads, CountsPuts, IsShown, Leaves, LeavesProbes}
use Rattle.statuses.specs.declared.status.Denied.TheVariants as denied
use Rattle.statuses.specs.declared.status.FileKind.{FileKind}
use Rattle.statuses.specs.declared.status.Status.{Status}
use Rattle.statuses.specs.declared.status.Status.TheVariants as status
use Rattle.rtdvs_top.specs.Asked.{asked_of}
use Rattle.rtdvs_top.specs.Promised.{Outside, Promised}
use Rattle.rtdvs_top.specs.Promises.{Writes}

-- a refusal leaves what isn't written
pub left : {W : Type 0} (s : Status) (old new : W) → Leaves s old new → s ≢ status.Done → s ≢ status.Write → new ≡ old
left status.Done old new leaves done write = absurd (done refl)
left status.Write old new leaves done write = absurd (write refl)
left s old new leaves done write = leaves

pub left-probes : {V : Type 0} (asks : Bool) (s : Status) (old new : V) → LeavesProbes asks s old new → asks ≡ false → new ≡ old
left-probes true s old new leaves none = absurd cc
left-probes false s old new leaves none = leaves

-- a number over the limit is one
pub over-limit : (s : Status) (jobs : ℕ) → IsShown s → s ≡ status.Limit jobs → MOST_JOBS < jobs
over-limit s jobs shown is = subst IsShown is shown

pub over-speed : (s : Status) (num cap : ℕ) → IsShown s → s ≡ status.NotAdmitted (denied.Edf num cap) → cap < num
over-speed s num cap shown is = subst IsShown is shown

-- a load failed only if the status says so
pub loads-stay : (s : Status) (before now : ℕ) → CountsLoads before now s → ((kind : FileKind) → s ≢ status.Load kind) → now ≡ before
loads-stay (status.Load kind) before now counts other = absurd (other kind refl)
loads-stay s before now counts other = counts

pub puts-stay : (s : Status) (before now : ℕ) → CountsPuts before now s → s ≢ status.Write → now ≡ before
puts-stay status.Write before now counts other = absurd (other refl)
puts-stay s before now counts other = counts

-- a count that rose is greater, unless it is at its type's end
pub rises : (before now : ℕ) → Rose before now → before < u64_end - 1 → before < now
rises before now rose low = omega (arith, rose, low)

pub left-both : {V : Type 0} (asks : Bool) (s : Status) (old new : V) → LeavesProbes asks s old new
    → s ≢ status.Done → s ≢ status.Write → new ≡ old
left-both true s old new leaves done write = left s old new leaves done write
left-both false s old new leaves done write = leaves

-- over any files, the output of a command that is done took some text
pub wrote-some-text : (command : Result CommandView WordFault) (old new : Outside) (s : Status) → Promised command old new s None
    → (c : CommandView) → command ≡ Ok c → s ≡ status.Done → (text : List ℕ) × (new.out.taken ≡ old.out.taken ++ text)
wrote-some-text command old new s p c is done =
    let w = subst (λ (x : Result CommandView WordFault). Writes (asked_of None x) old.out new.out) is (p.done done) in
    (w.0, w.1.bytes.1)
