-- The rows of a map, found by task and job: the task of a name, its worst case and its units.
use Rattle.std.proofs.Common.{◌≡◌, ℕ, ◌<◌, Bool, true, false, List, length, Some, refl, sym, ◌∙◌, arith, ◌≤◌, [], ◌∷◌, Option, None, suc, ap, Result, Ok, Err, OnErr, not, is_some, zero, map}
use Rattle.std.specs.Prelude.{nat_lt, ◌&&◌, nat_eq, unwrap_or, slice_index, if◌then◌else◌}
use Rattle.std.specs.List.{position_or_len, AllByRecursion}
use Rattle.std.specs.Str.{bytes_eq}
use Rattle.std.proofs.lemmas.Bool.Decides.{nat_tests}
use Rattle.std.proofs.lemmas.List.Sums.{position_or_len_is}
use Rattle.std.proofs.lemmas.Slice.Eq.{bytes_eq-Decides}
use Rattle.std.specs.declared.cmp.Ordering.{Ordering}
use Rattle.std.specs.Ordering.{is_eq, is_lt, match_ordering}
use Rattle.dvs_base.proofs.PairOrders.{pair_cmp, is_lt-pair_cmp}
use Rattle.std.specs.BTreeMap.{insert_entry, is_at}
use Rattle.std.specs.Map.{lookup, keys_of}
use Rattle.std.proofs.lemmas.Bool.{eqb-true, eq-eqb}
use Rattle.std.proofs.lemmas.List.{length-map}
use Rattle.task_model.specs.declared.task.Task.{Task}
use Rattle.task_model.specs.Tasks.{IsTaskSet, task_at, no_task}
use Rattle.task_model.specs.TaskFile.{place_of}
use Rattle.task_model.specs.DemandRows.{DemandRow, named_units}
use Rattle.demand_list.specs.Demands.{DemandsView, IsDemands, IsRow, IsWithinWorsts, AddsRow, rows_of, with_row, precedes, HasWorstsOf}
use Rattle.std.specs.declared.cmp.Ordering.TheVariants as order

module _ (tasks : List Task) (i : ℕ) (name : List ℕ) (known : IsTaskSet tasks) (lt : i < length tasks)
    (here : bytes_eq (task_at tasks i).name name ≡ true) where
  earlier : (k : ℕ) → k < i → bytes_eq (task_at tasks k).name name ≡ false
  earlier k less = by (bytes_eq (task_at tasks k).name name) refl
    where
      by : (b : Bool) → bytes_eq (task_at tasks k).name name ≡ b → b ≡ false
      by true e = absurd (known.distinct k i less lt
          ((bytes_eq-Decides (task_at tasks k).name name).0 e ∙ sym ((bytes_eq-Decides (task_at tasks i).name name).0 here)))
      by false e = refl

  pub place_of-named : place_of tasks name ≡ Some i
  place_of-named =
      let place : position_or_len (λ (t : Task). bytes_eq t.name name) tasks ≡ i =
      position_or_len_is (λ (t : Task). bytes_eq t.name name) tasks i no_task (omega arith) earlier (λ _. here) in
      let within : nat_lt i (length tasks) ≡ true = grind (arith, nat_tests) in
      rw (place, within) refl

-- the map's keys are equal if the row's task and job are
is_eq-key : (i k a b : ℕ) → is_eq (pair_cmp (i, k) (a, b)) ≡ (nat_eq a i && nat_eq b k)
is_eq-key i k a b = grind (arith, nat_tests)

pub named-rows_of : (es : List ((ℕ × ℕ) × ℕ)) (i k : ℕ) → named_units (rows_of es) i k ≡ lookup (is_at (pair_cmp (i, k))) es
named-rows_of [] i k = refl
named-rows_of (e ∷ es) i k = rw (is_eq-key i k e.0.0 e.0.1, named-rows_of es i k) refl

-- the units of a row that is found are at most its task's worst case
one-within : (worsts : List ℕ) (r : DemandRow) (i : ℕ) (rest : Option ℕ) (same job : Bool) → nat_eq r.task i ≡ same → IsRow worsts r
    → unwrap_or rest (slice_index worsts i) ≤ slice_index worsts i
    → unwrap_or (if same && job then Some r.units else rest) (slice_index worsts i) ≤ slice_index worsts i
one-within worsts r i rest true true e h p = rw (sym (eqb-true r.task i e)) h.units
one-within worsts r i rest true false e h p = p
one-within worsts r i rest false job e h p = p

pub named-within : (worsts : List ℕ) (rows : List DemandRow) (i k : ℕ) → AllByRecursion (IsRow worsts) rows
    → unwrap_or (named_units rows i k) (slice_index worsts i) ≤ slice_index worsts i
named-within worsts [] i k h = omega arith
named-within worsts (r ∷ rows) i k h = one-within worsts r i (named_units rows i k) (nat_eq r.task i) (nat_eq r.job k) refl h.0 (named-within worsts rows i k
    h.1)

pub IsWithinWorsts-rows : (d : DemandsView) → AllByRecursion (IsRow d.worsts) d.rows → IsWithinWorsts d
IsWithinWorsts-rows d h i k _ = named-within d.worsts d.rows i k h

absent : {X : Type 0} (b : Bool) (v : X) (rest : Option X) → (if b then Some v else rest) ≡ None → (b ≡ false) × (rest ≡ None)
absent true v rest h = absurd (cc)
absent false v rest h = (refl, h)

-- inserting into the map at this entry adds the row there
by_order : (o : Ordering) (lt : Bool) (r s : DemandRow) (rows : List DemandRow) (k : ℕ × ℕ) (v : ℕ) (e : (ℕ × ℕ) × ℕ) (es rest : List ((ℕ × ℕ) × ℕ))
    → r ≡ record { task = k.0; job = k.1; units = v } → s ≡ record { task = e.0.0; job = e.0.1; units = e.1 }
    → is_lt o ≡ lt → is_eq o ≡ false → rows_of es ≡ rows → rows_of rest ≡ with_row rows r
    → rows_of (match_ordering o ((k, v) ∷ e ∷ es) ((e.0, v) ∷ es) (e ∷ rest)) ≡ (if lt then r ∷ s ∷ rows else s ∷ with_row rows r)
by_order order.Less true r s rows k v e es rest p q l n h i = rw (p, q, h) refl
by_order order.Less false r s rows k v e es rest p q l n h i = absurd (cc)
by_order order.Equal lt r s rows k v e es rest p q l n h i = absurd (cc)
by_order order.Greater true r s rows k v e es rest p q l n h i = absurd (cc)
by_order order.Greater false r s rows k v e es rest p q l n h i = rw (q, i) refl

pub rows_of-insert_entry : (es : List ((ℕ × ℕ) × ℕ)) (i k u : ℕ) → named_units (rows_of es) i k ≡ None
    → rows_of (insert_entry pair_cmp es (i, k) u) ≡ with_row (rows_of es) (record { task = i; job = k; units = u })
rows_of-insert_entry [] i k u h = refl
rows_of-insert_entry (e ∷ es) i k u h =
    let r : DemandRow = record { task = i; job = k; units = u } in
    let s : DemandRow = record { task = e.0.0; job = e.0.1; units = e.1 } in
    let a = absent (nat_eq s.task i && nat_eq s.job k) s.units (named_units (rows_of es) i k) h in
    by_order (pair_cmp (i, k) e.0) (precedes r s) r s (rows_of es) (i, k) u e es (insert_entry pair_cmp es (i, k) u) refl refl
    (is_lt-pair_cmp (r.task, r.job) (s.task, s.job)) (is_eq-key i k s.task s.job ∙ a.0) refl (rows_of-insert_entry es i k u a.1)

-- An equal key that is given another value, and then its own again, leaves the entries as they were.
module _ {K X : Type 0} (cmp : K → K → Ordering) (k : K) where
  by_key : (u v : X) (e : K × X) (es : List (K × X)) (o : Ordering) → cmp k e.0 ≡ o
      → keys_of (match_ordering o ((k, u) ∷ e ∷ es) ((e.0, u) ∷ es) (e ∷ insert_entry cmp es k u)) ≡ keys_of (e ∷ es)
      → (if is_eq o then Some e.1 else lookup (is_at (cmp k)) es) ≡ Some v
      → (keys_of (insert_entry cmp es k u) ≡ keys_of es → lookup (is_at (cmp k)) es ≡ Some v → insert_entry cmp (insert_entry cmp es k u) k v ≡ es)
      → insert_entry cmp (match_ordering o ((k, u) ∷ e ∷ es) ((e.0, u) ∷ es) (e ∷ insert_entry cmp es k u)) k v ≡ e ∷ es
  by_key u v e es order.Less p same found more =
      let long : suc (suc (length (keys_of es))) ≡ suc (length (keys_of es)) = ap length same in absurd (omega arith)
  by_key u v e es order.Equal p same found more = let value : e.1 ≡ v = cc in rw (p, sym value) refl
  by_key u v e es order.Greater p same found more = rw (p, more (cc) found) refl

  pub insert_entry-back : (u v : X) (es : List (K × X)) → keys_of (insert_entry cmp es k u) ≡ keys_of es → lookup (is_at (cmp k)) es ≡ Some v
      → insert_entry cmp (insert_entry cmp es k u) k v ≡ es
  insert_entry-back u v [] same found = absurd (cc)
  insert_entry-back u v (e ∷ es) same found = by_key u v e es (cmp k e.0) refl same found (insert_entry-back u v es)

each-with_row : (P : DemandRow → Type 0) (rows : List DemandRow) (r : DemandRow) → AllByRecursion P rows → P r → AllByRecursion P (with_row rows r)
each-with_row P [] r h p = (p, tt)
each-with_row P (s ∷ rows) r h p = by (precedes r s) (each-with_row P rows r h.1 p)
  where
    by : (b : Bool) → AllByRecursion P (with_row rows r) → AllByRecursion P (if b then r ∷ s ∷ rows else s ∷ with_row rows r)
    by true more = (p, h)
    by false more = (h.0, more)

pub IsDemands-with_row : (d : DemandsView) (r : DemandRow) → IsDemands d → IsRow d.worsts r → IsDemands (record { worsts = d.worsts; rows = with_row d.rows r })
IsDemands-with_row d r h p = record { few = h.few; each = each-with_row (IsRow d.worsts) d.rows r h.each p }

-- an added row is within its worst case, and if none is added the rows stay
pub IsDemands-after : {E : Type 0} (result : Result Bool E) (worsts : List ℕ) (old new : List DemandRow) (r : DemandRow)
    → (result ≡ Ok true → new ≡ with_row old r) → (result ≡ Ok false → new ≡ old) → OnErr result (new ≡ old)
    → IsDemands (record { worsts = worsts; rows = old }) → IsRow worsts r → IsDemands (record { worsts = worsts; rows = new })
IsDemands-after (Ok true) worsts old new r added stays err h p = rw (added refl) (IsDemands-with_row _ r h p)
IsDemands-after (Ok false) worsts old new r added stays err h p = rw (stays refl) h
IsDemands-after (Err e) worsts old new r added stays err h p = rw err h

pub is-free : (row : Option ℕ) → true ≡ not (is_some row) → row ≡ None
is-free None h = refl
is-free (Some units) h = absurd (cc)

here : (i k : ℕ) → (nat_eq i i && nat_eq k k) ≡ true
here i k = rw (eq-eqb i i refl, eq-eqb k k refl) refl

named-with_row : (rows : List DemandRow) (r : DemandRow) → named_units rows r.task r.job ≡ None → named_units (with_row rows r) r.task r.job ≡ Some r.units
named-with_row [] r h = rw (here r.task r.job) refl
named-with_row (s ∷ rows) r h =
    let a = absent (nat_eq s.task r.task && nat_eq s.job r.job) s.units (named_units rows r.task r.job) h in
    by (precedes r s) a.0 (named-with_row rows r a.1)
  where
    by : (b : Bool) → (nat_eq s.task r.task && nat_eq s.job r.job) ≡ false → named_units (with_row rows r) r.task r.job ≡ Some r.units
        → named_units (if b then r ∷ s ∷ rows else s ∷ with_row rows r) r.task r.job ≡ Some r.units
    by true other more = rw (here r.task r.job) refl
    by false other more = rw other more

elsewhere : (a b i k : ℕ) (same job : Bool) → nat_eq a i ≡ same → nat_eq b k ≡ job → ((i ≡ a) → (k ≡ b) → ⊥) → (same && job) ≡ false
elsewhere a b i k true true e f h = absurd (h (sym (eqb-true a i e)) (sym (eqb-true b k f)))
elsewhere a b i k true false e f h = refl
elsewhere a b i k false job e f h = refl

named-with_row_other : (rows : List DemandRow) (r : DemandRow) (i k : ℕ) → ((i ≡ r.task) → (k ≡ r.job) → ⊥)
    → named_units (with_row rows r) i k ≡ named_units rows i k
named-with_row_other [] r i k h = rw (elsewhere r.task r.job i k (nat_eq r.task i) (nat_eq r.job k) refl refl h) refl
named-with_row_other (s ∷ rows) r i k h = by (precedes r s) (named-with_row_other rows r i k h)
  where
    by : (b : Bool) → named_units (with_row rows r) i k ≡ named_units rows i k
        → named_units (if b then r ∷ s ∷ rows else s ∷ with_row rows r) i k ≡ named_units (s ∷ rows) i k
    by true more = rw (elsewhere r.task r.job i k (nat_eq r.task i) (nat_eq r.job k) refl refl h) refl
    by false more = rw more refl

pub AddsRow-with_row : (d : DemandsView) (r : DemandRow) → named_units d.rows r.task r.job ≡ None
    → AddsRow d (record { worsts = d.worsts; rows = with_row d.rows r }) r
AddsRow-with_row d r h = record { worsts = refl; free = h; row = named-with_row d.rows r h; others = named-with_row_other d.rows r }

worst-at : (ts : List Task) (i : ℕ) → i < length ts → slice_index (map (λ (t : Task). t.worst) ts) i ≡ (task_at ts i).worst
worst-at [] i lt = absurd (omega arith)
worst-at (t ∷ ts) zero lt = refl
worst-at (t ∷ ts) (suc i) lt = worst-at ts i (omega arith)

module _ (tasks : List Task) (d : DemandsView) (list : HasWorstsOf tasks d) where
  pub worst-listed : (i : ℕ) → i < length tasks → slice_index d.worsts i ≡ (task_at tasks i).worst
  worst-listed i lt = ap (λ ws. slice_index ws i) list ∙ worst-at tasks i lt

  pub worsts-long : length d.worsts ≡ length tasks
  worsts-long = ap length list ∙ length-map tasks (λ (t : Task). t.worst)
