-- A written document means the tasks that it was written from, each at the place of its name.
use Rattle.std.proofs.Common.{◌≡◌, ◌<◌, ◌≤◌, ℕ, ◌+◌, nat_lt, cond, Bool, true, false, List, [], ◌∷◌, ◌++◌, length, Option, Some, None, refl, sym, ◌∙◌, subst, arith, eq-or-lt_of_le, inl, inr, ◌⊎◌, pos, codes, zero, suc, ◌&&◌, nat_le, if◌then◌else◌, map, append_assoc, append-nil, Ok, Err, String, Global, Ordering, Less, Equal, Greater, string_bytes, slice_index, ap}
use Rattle.std.specs.List.{position_or_len, list_all}
use Rattle.std.specs.Str.{bytes_eq, IsUtf8, is_utf8}
use Rattle.std.proofs.lemmas.Bool.{false≢true, and_parts, cases_Bool}
use Rattle.std.proofs.lemmas.Bool.Decides.{nat_tests}
use Rattle.std.proofs.lemmas.List.{get_or_append_left}
use Rattle.std.proofs.lemmas.List.Sums.{fails_before_first, position_or_len_is}
use Rattle.std.proofs.lemmas.Option.{none-some}
use Rattle.std.proofs.lemmas.Slice.Eq.{bytes_eq-Decides}
use Rattle.std.proofs.Math.ListN.{length-append}
use Rattle.std.proofs.Math.Seq.{get_or-append_seam}
use Rattle.std.specs.String.{string_cmp}
use Rattle.std.specs.Ordering.{match_ordering}
use Rattle.std.specs.BTreeMap.{insert_entry}
use Rattle.std.proofs.lemmas.Str.{IsUtf8-from_ascii, is_utf8-from_IsUtf8, IsUtf8-string_bytes}
use Rattle.std.proofs.lemmas.Str.Ascii.{IsAscii-nil}
use Rattle.std.proofs.Math.Nat.{max-le}
use Rattle.dvs_base.specs.Text.{is_name, is_name_byte}
use Rattle.toml.specs.Data.{items_depth, members_depth, Members, no_members, member, string, integer}
use Rattle.toml.specs.View.{view, items_of, members_view}
use Rattle.toml.specs.declared.value.Value.{Value}
use Rattle.toml.specs.Parse.{parse_document}
use Rattle.dvs_base.proofs.Counts.{choose_not}
use Rattle.dvs_base.specs.declared.limits.TheConstants.{MOST_TASKS, NAME_BYTES}
use Rattle.dvs_base.specs.Settings.{count_of}
use Rattle.task_model.specs.declared.task.Task.{Task}
use Rattle.task_model.specs.Tasks.{IsTask, task_at, no_task, IsTaskSet, hyper_of}
use Rattle.task_model.specs.Limits.{AreTasks}
use Rattle.task_model.specs.TaskFile.{place_of, task_of, tasks_from, within_hyper, tasks_of_document, task_file}
use Rattle.task_model.specs.declared.limits.TheConstants.{LONGEST_PERIOD, MOST_WORK, LATEST_OFFSET, LONGEST_HYPERPERIOD}
use Rattle.task_model.specs.Written.{put_member, offset_before, task_data, document}
use Rattle.task_model.specs.declared.fault.TaskFault.TheVariants as fault

not_found : (b : Bool) (k : ℕ) → ◌≡◌ {A = Option ℕ} (cond b (Some k) None) None → b ≡ false
not_found true k e = absurd (none-some k (sym e))
not_found false k e = refl

pub not_named : (name : List ℕ) (t : Task) → bytes_eq t.name name ≡ false → t.name ≡ name → ⊥
not_named name t other same = false≢true (sym other ∙ (bytes_eq-Decides t.name name).1 same)

pub place_of-none : (tasks : List Task) (name : List ℕ) → place_of tasks name ≡ None → (i : ℕ) → i < length tasks → (task_at tasks i).name ≡ name → ⊥
place_of-none tasks name e i lt same =
    let outside : nat_lt (position_or_len (λ t. bytes_eq t.name name) tasks) (length tasks) ≡ false = not_found _ _ e in
    let first : i < position_or_len (λ t. bytes_eq t.name name) tasks = grind (arith, nat_tests) in
    not_named name (task_at tasks i) (fails_before_first (λ t. bytes_eq t.name name) tasks i no_task first) same

last_or_before : (P : ℕ → Type 0) (n i : ℕ) → i < n + 1 → (i < n → P i) → P n → P i
last_or_before P n i lt before last = go (eq-or-lt_of_le (let le : i ≤ n = omega arith in le))
  where
    go : (i ≡ n) ⊎ (i < n) → P i
    go (inl e) = subst P (sym e) last
    go (inr l) = before l

task_at-before : (tasks : List Task) (t : Task) (i : ℕ) → i < length tasks → task_at (tasks ++ t ∷ []) i ≡ task_at tasks i
task_at-before tasks t i lt = get_or_append_left tasks (t ∷ []) no_task i lt

task_at-last : (tasks : List Task) (t : Task) → task_at (tasks ++ t ∷ []) (length tasks) ≡ t
task_at-last tasks t = get_or-append_seam tasks t [] no_task

-- no two tasks have one name, if the last one's name is not among those before
distinct-push : (tasks : List Task) (t : Task) → AreTasks tasks → place_of tasks t.name ≡ None
    → (i j : ℕ) → i < j → j < length tasks + 1 → (task_at (tasks ++ t ∷ []) i).name ≡ (task_at (tasks ++ t ∷ []) j).name → ⊥
distinct-push tasks t known alone i j lt high =
    last_or_before (λ j. i < j → (task_at (tasks ++ t ∷ []) i).name ≡ (task_at (tasks ++ t ∷ []) j).name → ⊥) (length tasks) j high
    (λ l lt'. let k : i < length tasks = omega arith in rw (task_at-before tasks t i k, task_at-before tasks t j l) (known.distinct i j lt' l))
    (λ lt'. rw (task_at-before tasks t i lt', task_at-last tasks t) (place_of-none tasks t.name alone i lt'))
    lt

pub AreTasks-push : (tasks : List Task) (t : Task) → AreTasks tasks → IsTask t → place_of tasks t.name ≡ None → AreTasks (tasks ++ t ∷ [])
AreTasks-push tasks t known within alone = record {
  each = λ i lt. last_or_before (λ i. IsTask (task_at (tasks ++ t ∷ []) i)) (length tasks) i (omega (arith, length-append tasks (t ∷ [])))
      (λ l. rw (task_at-before tasks t i l) (known.each i l))
      (rw (task_at-last tasks t) within);
  distinct = λ i j lt high. distinct-push tasks t known alone i j lt (omega (arith, length-append tasks (t ∷ [])));
}

abbrev Entry : Type 0
Entry = String Global × Value

match_members : (o : Ordering) (a b c : List Entry)
    → members_view (match_ordering o a b c) ≡ match_ordering o (members_view a) (members_view b) (members_view c)
match_members Less a b c = refl
match_members Equal a b c = refl
match_members Greater a b c = refl

-- the map of a table after an insert
pub members_view-insert_entry : (es : List Entry) (k : String Global) (v : Value)
    → members_view (insert_entry string_cmp es k v) ≡ put_member (string_bytes k) (view v) (members_view es)
members_view-insert_entry [] k v = refl
members_view-insert_entry (e ∷ es) k v = match_members (string_cmp k e.0) _ _ _ ∙ rw (members_view-insert_entry es k v)

name_byte : (b : ℕ) → is_name_byte b ≡ true → b < 128
name_byte b h = grind (arith, nat_tests)

name_bytes : (bytes : List ℕ) → list_all is_name_byte bytes ≡ true → (i : ℕ) → slice_index bytes i < 128
name_bytes [] h i = IsAscii-nil i
name_bytes (b ∷ bytes) h zero = name_byte b (and_parts (is_name_byte b) (list_all is_name_byte bytes) h).0
name_bytes (b ∷ bytes) h (suc i) = name_bytes bytes (and_parts (is_name_byte b) (list_all is_name_byte bytes) h).1 i

pub IsUtf8-name : (bytes : List ℕ) → is_name bytes ≡ true → IsUtf8 bytes
IsUtf8-name bytes h =
    IsUtf8-from_ascii bytes (name_bytes bytes (and_parts (nat_le 1 (length bytes) && nat_le (length bytes) NAME_BYTES) (list_all is_name_byte bytes) h).1)

-- if two tests are true, both together are
test_both : (a b : Bool) → a ≡ true → b ≡ true → (a && b) ≡ true
test_both true b h k = k
test_both false b h k = h

within : (low high n : ℕ) → low ≤ n → n ≤ high → (nat_le low n && nat_le n high) ≡ true
within low high n h k =
    let a : nat_le low n ≡ true = grind (arith, nat_tests) in
    let b : nat_le n high ≡ true = grind (arith, nat_tests) in
    test_both (nat_le low n) (nat_le n high) a b

pub task_of-task_data : (place : ℕ) (t : Task) → IsTask t → task_of place (task_data t) ≡ Ok t
task_of-task_data place t h = go (nat_lt 0 t.offset) refl
  where
    period : (nat_le 1 t.period && nat_le t.period LONGEST_PERIOD) ≡ true
    period = within 1 LONGEST_PERIOD t.period h.some_period h.low_period

    worst : (nat_le 1 t.worst && nat_le t.worst MOST_WORK) ≡ true
    worst = within 1 MOST_WORK t.worst h.some_worst h.low_worst

    go : (b : Bool) → nat_lt 0 t.offset ≡ b → task_of place (task_data t) ≡ Ok t
    go true e = rw (e, h.name, period, worst, within 0 LATEST_OFFSET t.offset (omega arith) h.low_offset) refl
    go false e =
        let none : 0 ≡ t.offset = grind (arith, nat_tests) in
        rw (e, h.name, period, worst) (λ i. Ok record { name = t.name; period = t.period; worst = t.worst; offset = none i })

-- a name that no task has is not found
pub place_of-absent : (tasks : List Task) (name : List ℕ) → ((i : ℕ) → i < length tasks → (task_at tasks i).name ≡ name → ⊥) → place_of tasks name ≡ None
place_of-absent tasks name h =
    let past : position_or_len (λ t. bytes_eq t.name name) tasks ≡ length tasks =
    position_or_len_is (λ t. bytes_eq t.name name) tasks (length tasks) no_task (omega arith)
    (λ k lt. other (task_at tasks k).name name (h k lt)) (λ lt. absurd (omega arith)) in
    rw past (past_end (length tasks))
  where
    other : (a b : List ℕ) → (a ≡ b → ⊥) → bytes_eq a b ≡ false
    other a b differ = elim (cases_Bool (bytes_eq a b)) [ inl same ↦ absurd (differ ((bytes_eq-Decides a b).0 same)) | inr no_same ↦ no_same ]

    past_end : (n : ℕ) → ◌≡◌ {A = Option ℕ} (if nat_lt n n then Some n else None) None
    past_end n = let beyond : nat_lt n n ≡ false = grind (arith, nat_tests) in rw beyond refl

named_apart : (before : List Task) (t : Task) (rest : List Task) → AreTasks (before ++ t ∷ rest) → place_of before t.name ≡ None
named_apart before t rest h = place_of-absent before t.name (λ i lt same.
    let inside : length before < length (before ++ t ∷ rest) = omega (arith, length-append before (t ∷ rest)) in
    h.distinct i (length before) lt inside (
    rw (get_or_append_left before (t ∷ rest) no_task i lt, get_or-append_seam before t rest no_task) same))

first_is : (before : List Task) (t : Task) (rest : List Task) → AreTasks (before ++ t ∷ rest) → IsTask t
first_is before t rest h =
    let inside : length before < length (before ++ t ∷ rest) = omega (arith, length-append before (t ∷ rest)) in
    subst IsTask (get_or-append_seam before t rest no_task) (h.each (length before) inside)

tasks_from-written : (before rest : List Task) → AreTasks (before ++ rest) → tasks_from before (items_of (map task_data rest)) ≡ Ok (before ++ rest)
tasks_from-written before [] h = ap Ok (sym (append-nil before))
tasks_from-written before (t ∷ rest) h =
    let own : IsTask t = first_is before t rest h in
    let alone : place_of before t.name ≡ None = named_apart before t rest h in
    let joined : (before ++ t ∷ []) ++ rest ≡ before ++ t ∷ rest = append_assoc before (t ∷ []) rest in
    let more : tasks_from (before ++ t ∷ []) (items_of (map task_data rest)) ≡ Ok ((before ++ t ∷ []) ++ rest) =
    tasks_from-written (before ++ t ∷ []) rest (subst AreTasks (sym joined) h) in
    rw (task_of-task_data (length before + 1) t own, alone, more) (ap Ok joined)

count_of-written : (tasks : List Task) → count_of (items_of (map task_data tasks)) ≡ length tasks
count_of-written [] = refl
count_of-written (t ∷ tasks) = omega (arith, count_of-written tasks)

pub AreTasks-from_set : (tasks : List Task) → IsTaskSet tasks → AreTasks tasks
AreTasks-from_set tasks h = record { each = h.each; distinct = h.distinct }

-- the meaning of a set's written document is the set
tasks_of_document-written : (tasks : List Task) → IsTaskSet tasks → tasks_of_document (Some (document tasks)) ≡ Ok tasks
tasks_of_document-written [] h = absurd (let some : 1 ≤ 0 = h.some in omega arith)
tasks_of_document-written (t ∷ tasks) h =
    choose_not MOST_TASKS (count_of (items_of (map task_data (t ∷ tasks)))) (length (t ∷ tasks))
    (λ n. Err (fault.TooMany n)) _ (count_of-written (t ∷ tasks)) h.few
    ∙ rw (tasks_from-written [] (t ∷ tasks) (AreTasks-from_set (t ∷ tasks) h)) (within_hyper-known (t ∷ tasks) h.hyper)
  where
    within_hyper-known : (ts : List Task) → hyper_of ts ≤ LONGEST_HYPERPERIOD → within_hyper ts ≡ Ok ts
    within_hyper-known ts low = let test : nat_le (hyper_of ts) LONGEST_HYPERPERIOD ≡ true = grind (arith, nat_tests) in rw test refl

items_depth-written : (tasks : List Task) → items_depth (items_of (map task_data tasks)) ≤ 1
items_depth-written [] = omega arith
items_depth-written (t ∷ tasks) =
    let flat : members_depth (member (codes "name") (string t.name) (offset_before t.offset numbers)) ≤ 0 =
    max-le (let low : 0 ≤ 0 = omega arith in low) (own (nat_lt 0 t.offset)) in
    max-le (let one : suc (members_depth (member (codes "name") (string t.name) (offset_before t.offset numbers))) ≤ 1 = omega (arith, flat) in one)
    (items_depth-written tasks)
  where
    numbers : Members
    numbers = member (codes "period") (integer (pos t.period)) (member (codes "worst") (integer (pos t.worst)) no_members)

    own : (b : Bool) → members_depth (if b then member (codes "offset") (integer (pos t.offset)) numbers else numbers) ≤ 0
    own true = omega arith
    own false = omega arith

members_depth-written : (tasks : List Task) → members_depth (document tasks) ≤ 80
members_depth-written tasks =
    let low : items_depth (items_of (map task_data tasks)) ≤ 1 = items_depth-written tasks in
    max-le (let deep : suc (items_depth (items_of (map task_data tasks))) ≤ 80 = omega arith in deep) (omega arith)

-- a text that parses as the document of a set means that set
pub task_file-written : (tasks : List Task) (text : String Global) → IsTaskSet tasks → (members_depth (document tasks) ≤ 80
    → parse_document (string_bytes text) ≡ Some (document tasks)) → task_file (string_bytes text) ≡ Ok tasks
task_file-written tasks text h back =
    let parsed : parse_document (string_bytes text) ≡ Some (document tasks) = back (members_depth-written tasks) in
    let encoded : is_utf8 (string_bytes text) ≡ true = is_utf8-from_IsUtf8 (string_bytes text) (IsUtf8-string_bytes text) in
    rw (encoded, parsed) (tasks_of_document-written tasks h)
