-- What a load says of the named file.
use Rattle.std.proofs.Common.{◌≡◌, ◌<◌, ◌≤◌, ◌+◌, ℕ, List, length, length-take, take, Option, Some, None, option_map, Ok, Err, ap, sym, ◌∙◌, arith}
use Rattle.std.proofs.lemmas.List.{take_all}
use Rattle.std.proofs.lemmas.Bool.Decides.{nat_tests}
use Rattle.std.proofs.lemmas.Option.{same_Some}
use Rattle.dvs_base.specs.Outside.{Files, LoadsFrom, file_of}
use Rattle.statuses.specs.declared.status.FileKind.{FileKind}
use Rattle.statuses.specs.declared.status.TextFault.TheVariants as text
use Rattle.statuses.specs.declared.status.Status.TheVariants as status
use Rattle.command_files.specs.Meanings.{longest, bytes_from, bytes_at}
use Rattle.statuses.specs.Steps.{Gives, Refuses}

whole_file : (f : Option (List ℕ)) (m : ℕ) (v : List ℕ) → option_map (take (m + 1)) f ≡ Some v → length v ≤ m
    → f ≡ Some v
whole_file None m v e h = absurd (cc)
whole_file (Some x) m v e h =
    let s : take (m + 1) x ≡ v = same_Some _ _ e in
    let short : length x ≤ m + 1 = omega (arith, length-take (m + 1) x, ap length s) in
    ap Some (sym (take_all (m + 1) x short) ∙ s)

long_file : (kind : FileKind) (f : Option (List ℕ)) (v : List ℕ) → option_map (take (longest kind + 1)) f ≡ Some v
    → longest kind < length v → bytes_from kind f ≡ Err (status.Text (text.TooLong kind))
long_file kind None v e h = absurd (cc)
long_file kind (Some x) v e h =
    let s : take (longest kind + 1) x ≡ v = same_Some _ _ e in
    let long : longest kind < length x = omega (arith, length-take (longest kind + 1) x, ap length s) in
    grind (arith, nat_tests)

pub short_file : (kind : FileKind) (v : List ℕ) → length v ≤ longest kind → bytes_from kind (Some v) ≡ Ok v
short_file kind v h = grind (arith, nat_tests)

-- a file that is too long is refused
pub too_long : (files : Option Files) (kind : FileKind) (name v : List ℕ) → LoadsFrom files name (longest kind + 1) v
    → longest kind < length v → Refuses files (bytes_at kind name) (status.Text (text.TooLong kind))
too_long None kind name v l h = tt
too_long (Some files) kind name v l h = long_file kind (file_of files name) v l h

-- a file that isn't too long is given whole
pub gives_bytes : (files : Option Files) (kind : FileKind) (name v : List ℕ) → LoadsFrom files name (longest kind + 1) v
    → length v ≤ longest kind → Gives files (bytes_at kind name) v
gives_bytes None kind name v l h = tt
gives_bytes (Some files) kind name v l h = rw (whole_file (file_of files name) (longest kind) v l h) (short_file kind v h)
