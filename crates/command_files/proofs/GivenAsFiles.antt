-- A shelf whose loads gave bytes under distinct names may hold just these: what is promised of such files is so of some.
use Rattle.std.proofs.Common.{◌≡◌, ◌≢◌, ◌≤◌, ℕ, ◌+◌, Bool, true, false, List, [], ◌∷◌, length, take, find, Option, Some, None, option_map, if◌then◌else◌, refl, sym, ap, ◌∙◌, subst, arith, true≢false}
use Rattle.std.specs.List.{AllByRecursion}
use Rattle.std.specs.Str.{bytes_eq}
use Rattle.std.proofs.lemmas.Slice.Eq.{bytes_eq-Decides}
use Rattle.std.proofs.lemmas.List.{take_all}
use Rattle.dvs_base.specs.Loaded.{Load}
use Rattle.dvs_base.specs.Outside.{Files, ShelfView, file_of}
use Rattle.command_files.specs.GivenFiles.{Holds, MayBe, MayHold, loads_since, as_files, HaveDistinctNames, AreShort, GaveMore}
use Rattle.command_files.proofs.GivenLoads.{since-is, held-known}

-- a name is equal to itself, and a file of another name is passed over
own-first : (name bytes : List ℕ) (fs : Files) → file_of ((name, bytes) ∷ fs) name ≡ Some bytes
own-first name bytes fs = go (bytes_eq name name) ((bytes_eq-Decides name name).1)
  where
    go : (b : Bool) → (name ≡ name → b ≡ true)
        → option_map (λ (f : List ℕ × List ℕ). f.1) (if b then Some (name, bytes) else find (λ f. bytes_eq f.0 name) fs) ≡ Some bytes
    go true is = refl
    go false is = absurd (true≢false (sym (is refl)))

other-first : (other bytes name : List ℕ) (fs : Files) → other ≢ name → file_of ((other, bytes) ∷ fs) name ≡ file_of fs name
other-first other bytes name fs differ = go (bytes_eq other name) ((bytes_eq-Decides other name).0)
  where
    go : (b : Bool) → (b ≡ true → other ≡ name)
        → option_map (λ (f : List ℕ × List ℕ). f.1) (if b then Some (other, bytes) else find (λ f. bytes_eq f.0 name) fs) ≡ file_of fs name
    go true same = absurd (differ (same refl))
    go false same = refl

holds-more : (l : Load) (fs : Files) (ms : List Load) → AllByRecursion (λ (m : Load). l.0 ≢ m.0) ms → AllByRecursion (Holds fs) ms
    → AllByRecursion (Holds ((l.0, l.2) ∷ fs)) ms
holds-more l fs [] differ h = tt
holds-more l fs (m ∷ ms) differ h = (
  ap (option_map (take (m.1 + 1))) (other-first l.0 l.2 m.0 fs differ.0) ∙ h.0,
  holds-more l fs ms differ.1 h.1,
)

each-holds : (loads : List Load) → HaveDistinctNames loads → AreShort loads → AllByRecursion (Holds (as_files loads)) loads
each-holds [] distinct short = tt
each-holds (l ∷ ls) distinct short = (
  ap (option_map (take (l.1 + 1))) (own-first l.0 l.2 (as_files ls)) ∙ ap Some (take_all (l.1 + 1) l.2 short.0),
  holds-more l (as_files ls) ls distinct.0 (each-holds ls distinct.1 short.1),
)

-- a shelf may hold its own files if they are known, otherwise just what it gave, if the names of its loads are distinct
pub some-held : (most : ℕ) (old new : ShelfView) → GaveMore most old new → HaveDistinctNames (loads_since old new)
    → (files : Files) × MayHold old new files
some-held most old new gave distinct = go old.held refl
  where
    given : List Load
    given = loads_since old new

    go : (held : Option Files) → old.held ≡ held → (files : Files) × MayHold old new files
    go (Some files) known = (files, held-known old new files known)
    go None unknown = (
      as_files given,
      subst (λ (held : Option Files). MayBe held given (as_files given)) (sym unknown)
          (each-holds given distinct (subst AreShort (sym (since-is old new gave.0 gave.2)) gave.3)),
    )

-- a shelf that isn't known and gave nothing may hold any files
pub nothing-given : (old new : ShelfView) → GaveMore 0 old new → old.held ≡ None → (files : Files) → MayHold old new files
nothing-given old new gave unknown files =
    subst (λ (held : Option Files). MayBe held (loads_since old new) files) (sym unknown)
    (subst (AllByRecursion (Holds files)) (sym (since-is old new gave.0 gave.2)) (none gave.0 gave.1))
  where
    none : (ls : List Load) → length ls ≤ 0 → AllByRecursion (Holds files) ls
    none [] few = tt
    none (l ∷ ls) few = absurd (omega (arith, few))
