use Rattle.std.proofs.Common.{◌≡◌, Bool, true, false, List, ℕ, Decides, bytes_eq, codes, refl, sym}
use Rattle.std.proofs.lemmas.Slice.Eq.{bytes_eq-Decides}
use Rattle.rtdvs_c.proofs.files.CallFiles.named.Goals as goal

-- a test on texts that differ fails
differs : (word name : List ℕ) → (name ≡ word → ⊥) → bytes_eq word name ≡ false
differs word name other = go (bytes_eq word name) (bytes_eq-Decides word name)
  where
    go : (t : Bool) → Decides t (word ≡ name) → t ≡ false
    go true d = absurd (other (sym (d.0 refl)))
    go false d = refl

pub returns-in_default : goal.returns-in_default
returns-in_default c =
    let name = c.args.name.now in
    let n = c.in_default in
    rw (
      differs (codes "tasks") name n.not-tasks,
      differs (codes "machine") name n.not-machine,
      differs (codes "demands") name n.not-demands,
      differs (codes "trace") name n.not-trace,
      differs (codes "deadlines") name n.not-deadlines,
      differs (codes "requests") name n.not-requests,
    ) refl
