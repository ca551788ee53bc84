-- What a shelf gave between two views, split at a view between them.
use Rattle.std.proofs.Common.{◌≡◌, ◌≤◌, Result, ℕ, ◌+◌, List, [], ◌∷◌, ◌++◌, length, length-append, drop, Option, Some, None, refl, sym, ◌∙◌, ap, subst, arith, append_assoc, append-nil, Bool, true, false, if◌then◌else◌}
use Rattle.std.specs.List.{AllByRecursion}
use Rattle.std.proofs.Math.Seq.{drop-append_seam}
use Rattle.dvs_base.specs.Loaded.{Load}
use Rattle.dvs_base.specs.Outside.{Files, ShelfView, LoadsFrom}
use Rattle.freq_table.specs.Tables.{Table}
use Rattle.words.specs.Commands.{CommandView, poll}
use Rattle.statuses.specs.Steps.{Gives}
use Rattle.statuses.specs.declared.status.FileKind.{FileKind}
use Rattle.statuses.specs.declared.status.FileKind.TheVariants as file
use Rattle.command_files.specs.Meanings.{machine_at}
use Rattle.command_files.specs.GivenFiles.{Holds, loads_since, MayBe, MayHold, Known, ForFiles, AreShort, GaveMore}
use Rattle.command_files.specs.Loads.{LoadOf, IsLoadStep}
use Rattle.statuses.specs.declared.status.Status.{Status}
use Rattle.command_files.specs.Files.{NamedFile, named_file, if_named, passes, loads_while, MakesLoads}

-- what was given between two views, if it is what was added
pub since-is : (old new : ShelfView) (made : List Load) → new.gave ≡ old.gave ++ made → loads_since old new ≡ made
since-is old new made e = ap (drop (length old.gave)) e ∙ drop-append_seam old.gave made

all-split : {X : Type 0} (P : X → Type 0) (xs ys : List X) → AllByRecursion P (xs ++ ys) → AllByRecursion P xs × AllByRecursion P ys
all-split P [] ys h = (tt, h)
all-split P (x ∷ xs) ys h = let rest = all-split P xs ys h.1 in ((h.0, rest.0), rest.1)

pub short-both : (xs ys : List Load) → AreShort xs → AreShort ys → AreShort (xs ++ ys)
short-both [] ys h k = k
short-both (x ∷ xs) ys h k = (h.0, short-both xs ys h.1 k)

-- files that may be a shelf's by two parts of what it gave may be so by each
may-split : (held : Option Files) (xs ys : List Load) (files : Files) → MayBe held (xs ++ ys) files
    → MayBe held xs files × MayBe held ys files
may-split None xs ys files h = all-split (Holds files) xs ys h
may-split (Some known) xs ys files h = (h, h)

-- nothing more was given, and then something more
pub gave-none : (a : ShelfView) → GaveMore 0 a a
gave-none a = ([], omega arith, sym (append-nil a.gave), tt)

-- two steps that gave more, together
abbrev pub gave-both : (m n : ℕ) (old mid new : ShelfView) → GaveMore m old mid → GaveMore n mid new → GaveMore (m + n) old new
gave-both m n old mid new first later = (
  first.0 ++ later.0,
  omega (arith, length-append first.0 later.0, first.1, later.1),
  later.2 ∙ (ap (λ (ls : List Load). ls ++ later.0) first.2 ∙ append_assoc old.gave first.0 later.0),
  short-both first.0 later.0 first.3 later.3,
)

pub gave-fewer : (m n : ℕ) (old new : ShelfView) → m ≤ n → GaveMore m old new → GaveMore n old new
gave-fewer m n old new fewer gave = (gave.0, omega (arith, fewer, gave.1), gave.2, gave.3)

-- files that a shelf may hold by what it gave in two steps
module _ (m n : ℕ) (old mid new : ShelfView) (held : mid.held ≡ old.held) (first : GaveMore m old mid) (later : GaveMore n mid new) where
  both : (files : Files) → MayHold old new files → MayBe old.held first.0 files × MayBe old.held later.0 files
  both files h =
      may-split old.held first.0 later.0 files
      (subst (λ (ls : List Load). MayBe old.held ls files)
      (since-is old new (first.0 ++ later.0) (gave-both m n old mid new first later).2) h)

  -- it may hold them by the first step, and by the later one
  pub known-first : (files : Option Files) → Known files old new → Known files old mid
  known-first None h = tt
  known-first (Some files) h =
      subst (λ (ls : List Load). MayBe old.held ls files) (sym (since-is old mid first.0 first.2)) (both files h).0

  pub known-later : (files : Option Files) → Known files old new → Known files mid new
  known-later None h = tt
  known-later (Some files) h =
      subst (λ (o : Option Files). MayBe o (loads_since mid new) files) (sym held)
      (subst (λ (ls : List Load). MayBe old.held ls files) (sym (since-is mid new later.0 later.2)) (both files h).1)

-- what holds of two steps one after another, over files that the shelf may hold by both
pub both-steps : {T A U B : Type 0} {l : LoadOf A} {k : LoadOf B} {old mid new : ShelfView} {r : Result T Status} {q : Result U Status} {see : T → A}
    {look : U → B} → ForFiles old mid (IsLoadStep l old mid r see) → ForFiles mid new (IsLoadStep k mid new q look) → (files : Option Files)
    → Known files old new → IsLoadStep l old mid r see files × IsLoadStep k mid new q look files
both-steps {old = old} {mid = mid} {new = new} first later files known =
    let f = (first None tt).loads in
    let l = (later None tt).loads in (
      first files (known-first _ _ old mid new f.held f.gave l.gave files known),
      later files (known-later _ _ old mid new f.held f.gave l.gave files known),
    )

-- the load of a file gives what each files have that the shelf may hold
pub loads-from : (old new : ShelfView) (name bytes : List ℕ) (room : ℕ) → LoadsFrom old.held name (room + 1) bytes
    → new.gave ≡ old.gave ++ (name, room, bytes) ∷ [] → (files : Option Files) → Known files old new
    → LoadsFrom files name (room + 1) bytes
loads-from old new name bytes room from gave None h = tt
loads-from old new name bytes room from gave (Some files) h =
    go old.held from
    (subst (λ (ls : List Load). MayBe old.held ls files) (since-is old new ((name, room, bytes) ∷ []) gave) h)
  where
    go : (held : Option Files) → LoadsFrom held name (room + 1) bytes → MayBe held ((name, room, bytes) ∷ []) files
        → LoadsFrom (Some files) name (room + 1) bytes
    go None from may = may.0
    go (Some known) from may = subst (λ (fs : Files). LoadsFrom (Some fs) name (room + 1) bytes) (sym may) from

-- what a shelf is known to hold it may hold
pub held-known : (old new : ShelfView) (files : Files) → old.held ≡ Some files → MayHold old new files
held-known old new files is = subst (λ (o : Option Files). MayBe o (loads_since old new) files) (sym is) refl

-- some loads were made, and then some more
pub both-made : {m n : ℕ} (old mid new : ShelfView) → MakesLoads m old mid → MakesLoads n mid new → MakesLoads (m + n) old new
both-made {m} {n} old mid new first later = record {
  held = later.held ∙ first.held;
  later = omega (arith, first.later, later.later);
  steady = λ sure. later.steady (omega (arith, sure, first.surety)) ∙ first.steady (omega (arith, sure));
  surety = omega (arith, first.surety, later.surety);
  gave = gave-both m n old mid new first.gave later.gave;
}

pub more-made : {m n : ℕ} (old new : ShelfView) → m ≤ n → MakesLoads m old new → MakesLoads n old new
more-made {m} {n} old new more made = record {
  held = made.held;
  later = made.later;
  steady = λ sure. made.steady (omega (arith, sure, more));
  surety = omega (arith, made.surety, more);
  gave = gave-fewer m n old new more made.gave;
}

-- the load of a file that is passed, and then those of the files after it
pub loads-then : (passed : NamedFile → Bool) (f : NamedFile) (fs : List NamedFile) (old mid new : ShelfView) → passed f ≡ true
    → MakesLoads 1 old mid → MakesLoads (loads_while passed fs) mid new → MakesLoads (loads_while passed (f ∷ fs)) old new
loads-then passed f fs old mid new is first later =
    subst (λ (b : Bool). MakesLoads (1 + (if b then loads_while passed fs else 0)) old new) (sym is) (both-made old mid new first later)

-- the load of a file that may be named is one or none, whether it is passed or not
pub loads-if-named : (passed : NamedFile → Bool) (kind : FileKind) (name : Option (List ℕ)) (old new : ShelfView)
    → MakesLoads (loads_while (λ f. true) (if_named kind name)) old new → MakesLoads (loads_while passed (if_named kind name)) old new
loads-if-named passed kind None old new made = made
loads-if-named passed kind (Some name) old new made = go (passed (named_file kind name))
  where
    go : (b : Bool) → MakesLoads (1 + (if b then 0 else 0)) old new
    go true = made
    go false = made

-- the loads of a command go on after a machine that was read
pub passes-machine : (files : Option Files) (c : CommandView) (name : List ℕ) (m : Table) → Gives files (machine_at name) m
    → passes files c (named_file file.Machine name) ≡ true
passes-machine None c name m read = refl
passes-machine (Some files) (poll q) name m read = rw read refl
passes-machine (Some files) c name m read = rw read refl

-- the load of a machine that was read, and then that of a file that may be named
pub loads-two : (files : Option Files) (c : CommandView) (machine : List ℕ) (m : Table) (kind : FileKind) (name : Option (List ℕ))
    (old mid new : ShelfView) → Gives files (machine_at machine) m → MakesLoads 1 old mid
    → MakesLoads (loads_while (λ f. true) (if_named kind name)) mid new
    → MakesLoads (loads_while (passes files c) (named_file file.Machine machine ∷ if_named kind name)) old new
loads-two files c machine m kind name old mid new read first later =
    loads-then (passes files c) (named_file file.Machine machine) (if_named kind name) old mid new (passes-machine files c machine m read)
    first (loads-if-named (passes files c) kind name mid new later)
