-- The reply of a call and what it proves, from what the top call promises over files and sinks in memory.
use Rattle.std.proofs.Common.{◌≡◌, ◌≢◌, inl, inr, ℕ, Bool, true, false, List, [], Some, Result, Ok, Err, refl, sym, ◌∙◌, ap, subst, arith}
use Rattle.dvs_base.specs.Outside.{Files, SinkView, Rose}
use Rattle.dvs_base.specs.Checks.{and_then}
use Rattle.task_model.specs.declared.task.Task.{Task}
use Rattle.demand_list.specs.Demands.{DemandsView}
use Rattle.sched_model.specs.Plan.{Plan, plan_of}
use Rattle.words.specs.declared.command.WordFault.{WordFault}
use Rattle.words.specs.Commands.{CommandView, RunView, run, admit, traced, workload, response, constrain, poll, least, asks_probes}
use Rattle.probes.specs.Tallies.{ProbeView, told_notes}
use Rattle.probes.specs.Outputs.{Outputs}
use Rattle.probes.specs.Program.{program_probes}
use Rattle.statuses.specs.declared.status.Status.{Status}
use Rattle.statuses.specs.declared.status.Status.TheVariants as status
use Rattle.statuses.specs.Status.{code_of, CountsPuts, IsShown, Leaves}
use Rattle.rtdvs_c.specs.declared.files.CallShelf.{CallShelf}
use Rattle.rtdvs_c.specs.Texts.{TextView}
use Rattle.std.specs.Prelude.{IfOk, IsOk}
use Rattle.statuses.specs.StatusLines.{status_text}
use Rattle.statuses.specs.ProbeLines.{probe_lines}
use Rattle.statuses.specs.Noted.{NotedAs, noted_text}
use Rattle.command_files.specs.Files.{names_by}
use Rattle.command_files.specs.Meanings.{tasks_at}
use Rattle.rtdvs_top.specs.PlannedRuns.{prepared_of}
use Rattle.rtdvs_top.specs.ToldRuns.{IfAsked, notes_under}
use Rattle.rtdvs_top.specs.Response.{RespondsOrIsDenied}
use Rattle.rtdvs_top.specs.Trace.{AcceptsScheduleTexts, IsDoneUnless}
use Rattle.dvs_base.specs.declared.kind.Scheduler.TheVariants.{Rm}
use Rattle.rtdvs_top.specs.Asked.{with_files}
use Rattle.rtdvs_top.specs.Promised.{Promised, outside_of}
use Rattle.rtdvs_top.specs.Promises.{answer_of_command, Answers, Writes, IsDoneOrDenied, ProvesRun, AdmitsByTest, ProvesTests, ProvesPoll, ProvesLeast, TellsProbes}
use Rattle.rtdvs_c.specs.declared.TheConstants.{NO_MEMORY}
use Rattle.rtdvs_c.specs.declared.reply.Reply.{Reply}
use Rattle.rtdvs_c.specs.Replies.{ReplyView, FitsLimits, Shows, shown_shelf, reply_from, status_of, text_of, told_by, probes_after}
use Rattle.rtdvs_c.specs.Proves.{holding, status_at, answered, IsAnsweredOrDenied, ProvesCommand, Proves, IsReply}
use Rattle.event_kernel.specs.Runs.{run_for}

-- what the top call promises over these files, if both texts were empty and no put failed
abbrev pub PromisedWhole : Files → Result CommandView WordFault → CallShelf → CallShelf → List ℕ → List ℕ → List ProbeView → Status → Type 0
PromisedWhole files asked old new text noted after s =
    Promised asked (outside_of (shown_shelf old) (holding []) (holding []) program_probes)
    (outside_of (shown_shelf new) (holding text) (holding noted) after) s (Some files)

-- the answer that ends with this status and has this text
abbrev answer_with : Status → List ℕ → Result (List ℕ) Status
answer_with status.Done text = Ok text
answer_with s text = Err s

-- a status other than `Done` has no text
abbrev pub HasNoText : Status → List ℕ → Type 0
HasNoText status.Done text = Unit {0}
HasNoText s text = text ≡ []

status-with : (s : Status) (text : List ℕ) → status_of (answer_with s text) ≡ s
status-with status.Done text = refl
status-with s text = refl

text-with : (s : Status) (text : List ℕ) → HasNoText s text → text_of (answer_with s text) ≡ text
text-with status.Done text none = refl
text-with s text none = sym none

-- a count that is 0 did not rise
not-rose : Rose 0 0 → ⊥
not-rose rose = omega (arith, rose)

-- no put failed, if the status isn't `Write`
pub no-fault : (s : Status) (faults : ℕ) → s ≢ status.Write → CountsPuts 0 faults s → faults ≡ 0
no-fault status.Write faults other h = absurd (other refl)
no-fault s faults other h = h

-- what a call's status and texts are, as the top call leaves them
pub record Left (s : Status) (text : List ℕ) : Type 0 where
  pub memory : s ≢ status.NoMemory
  pub written : s ≢ status.Write
  pub none : HasNoText s text

-- what was put whole
put-whole : (text noted : List ℕ) → NotedAs (holding []) (holding noted) text → noted ≡ text
put-whole text noted (inl whole) = whole.bytes.0
put-whole text noted (inr some) = absurd (not-rose some.rose)

-- replies with equal parts are equal
reply-with : (code code' : ℕ) (text text' notes notes' : List ℕ) → code ≡ code' → text ≡ text' → notes ≡ notes'
    → (let a : ReplyView = record { code = code; text = text; notes = notes } in a) ≡ record { code = code'; text = text'; notes = notes' }
reply-with code code' text text' notes notes' c t n = rw (c, t, n) refl

-- what a sink that holds these bytes shows beside these probes
abbrev shown : List ℕ → List ProbeView → Outputs
shown bytes ps = record { sink = holding bytes; probes = ps }

module _ (files : Files) (c : CommandView) (s : Status) (text noted : List ℕ) (old new : CallShelf) (after : List ProbeView)
    (left : Left s text) (p : PromisedWhole files (Ok c) old new text noted after s) where
  -- the command's answer is this status with this text
  answer-is : answer_of_command c files ≡ answer_with s text
  answer-is = go s p.answers p.done left.memory left.written
    where
      go : (s : Status) → Answers (with_files files c) (Rose 0 0) (Rose 0 0) s
          → (s ≡ status.Done → Writes (with_files files c) (holding []) (holding text))
          → s ≢ status.NoMemory → s ≢ status.Write → answer_of_command c files ≡ answer_with s text
      go status.Done a d memory written = let w = d refl in w.1 ∙ ap Ok (sym w.2.bytes.0)
      go status.NoMemory a d memory written = absurd (memory refl)
      go status.Write a d memory written = absurd (written refl)
      go (status.Load kind) (inl a) d memory written = a
      go (status.Load kind) (inr rose) d memory written = absurd (not-rose rose)
      go s a d memory written = a

  status-is : status_at files c ≡ s
  status-is = ap status_of answer-is ∙ status-with s text

  answered-is : answered files c ≡ holding text
  answered-is = ap (λ a. holding (text_of a)) answer-is ∙ ap holding (text-with s text left.none)

  -- what holds of the status and the text of the call holds of those of the answer
  of-answer : (P : SinkView → Status → Type 0) → P (holding text) s → P (answered files c) (status_at files c)
  of-answer P h = subst (λ v. P v (status_at files c)) (sym answered-is) (subst (P (holding text)) (sym status-is) h)

  -- no status but `Done` and `NoMemory` is left if a trace file is that of a schedule
  exact-is : AcceptsScheduleTexts (with_files files c) ⊥ ⊥ s
  exact-is = go c p.exact
    where
      only : (s : Status) → IsDoneUnless (Rose 0 0) (Rose 0 0) s → IsDoneUnless ⊥ ⊥ s
      only status.Done h = tt
      only (status.Load kind) h = not-rose h
      only status.Write h = not-rose h
      only status.NoMemory h = tt
      only s h = h

      go : (c : CommandView) → AcceptsScheduleTexts (with_files files c) (Rose 0 0) (Rose 0 0) s → AcceptsScheduleTexts (with_files files c) ⊥ ⊥ s
      go (traced r) h = (h.0, λ v plan g ticks rows bytes are is. only s (h.1 v plan g ticks rows bytes are is))
      go (run r) h = tt
      go (admit a) h = tt
      go (workload seed) h = tt
      go (response r) h = tt
      go (constrain r) h = tt
      go (poll q) h = tt
      go (least l) h = tt

  headline-is : IsAnsweredOrDenied files c
  headline-is = go c p.headline answer-is status-is
    where
      go : (c : CommandView) → IsDoneOrDenied (with_files files c) (Rose 0 0) (holding []) (holding text) s
          → answer_of_command c files ≡ answer_with s text → status_at files c ≡ s → IsAnsweredOrDenied files c
      go (run r) h is st = λ tasks machine demands means few.
          elim (h tasks machine demands means few not-rose not-rose left.memory) [
            | inl done ↦ inl (record { text = is ∙ (ap (λ t. answer_with t text) done.0 ∙ ap Ok done.1.text.0); run = done.1.run })
            | inr denied ↦ inr (record { why = denied.0; denies = is ∙ ap (λ t. answer_with t text) denied.1; fails = denied.2 })
          ]
      go (response r) h is st = λ tasks machine means.
          subst (RespondsOrIsDenied (plan_of tasks machine Rm)) (sym st) (h tasks machine means not-rose not-rose left.memory)
      go (admit a) h is st = tt
      go (traced r) h is st = tt
      go (workload seed) h is st = tt
      go (constrain r) h is st = tt
      go (poll q) h is st = tt
      go (least l) h is st = tt

  proves-command : IsShown s → ProvesCommand files c
  proves-command shown = record {
    headline = headline-is;
    run = of-answer (λ v t. ProvesRun (with_files files c) (holding []) v t) p.run;
    admitted = subst (λ t. AdmitsByTest (with_files files c) t) (sym status-is) p.admitted;
    exact = subst (λ t. AcceptsScheduleTexts (with_files files c) ⊥ ⊥ t) (sym status-is) exact-is;
    tested = subst (λ t. ProvesTests (with_files files c) t) (sym status-is) p.tested;
    polled = subst (λ t. ProvesPoll (with_files files c) t) (sym status-is) p.polled;
    least = of-answer (λ v t. ProvesLeast (with_files files c) (holding []) v t) p.least;
    shown = subst IsShown (sym status-is) shown;
  }

  -- the probes that are shown are those that were told the run's notes
  told-probes : noted_text (asks_probes c) (names_by c files) after s ≡ noted_text (asks_probes c) (names_by c files) (probes_after c files) s
  told-probes = go c p.told
    where
      same : (asks : Bool) (names : List (List ℕ)) (ps qs : List ProbeView) (s : Status) → (asks ≡ true → s ≡ status.Done → ps ≡ qs)
          → noted_text asks names ps s ≡ noted_text asks names qs s
      same true names ps qs status.Done h = ap (probe_lines names 1) (h refl refl)
      same true names ps qs s h = refl
      same false names ps qs s h = refl

      told-as : (r : RunView) → r.probes ≡ true
          → TellsProbes (with_files files (run r)) (shown [] program_probes) (shown text after) status.Done
          → after ≡ probes_after (run r) files
      told-as r asks h =
          let tasks : List Task = h.0 in
          let known : tasks_at r.tasks files ≡ Ok tasks = h.1 in
          let t = subst (λ b. IfAsked b ((plan : Plan) × (d : DemandsView) × (prepared_of r tasks files ≡ Ok (plan, d))
          × (after ≡ told_notes (notes_under r.governor (run_for plan d r.ticks)) program_probes))) asks h.2 in
          t.3 ∙ sym (ap (λ x. told_by r (and_then x (λ ts. prepared_of r ts files))) known ∙ ap (told_by r) t.2)

      go : (c : CommandView) → TellsProbes (with_files files c) (shown [] program_probes) (shown text after) s
          → noted_text (asks_probes c) (names_by c files) after s ≡ noted_text (asks_probes c) (names_by c files) (probes_after c files) s
      go (run r) h =
          same r.probes (names_by (run r) files) after (probes_after (run r) files) s
          (λ asks done. told-as r asks (subst (TellsProbes (with_files files (run r)) (shown [] program_probes) (shown text after)) done h))
      go (admit a) h = refl
      go (traced r) h = refl
      go (workload seed) h = refl
      go (response r) h = refl
      go (constrain r) h = refl
      go (poll q) h = refl
      go (least l) h = refl

  -- the status and both texts are those of the command's reply
  replies : reply_from (Ok c) files ≡ record { code = code_of s; text = text; notes = noted }
  replies =
      let notes = put-whole (noted_text (asks_probes c) (names_by c files) after s) noted p.notes in
      reply-with (code_of (status_at files c)) (code_of s) (text_of (answer_of_command c files)) text
      (noted_text (asks_probes c) (names_by c files) (probes_after c files) (status_at files c)) noted
      (ap code_of status-is) (ap text_of answer-is ∙ text-with s text left.none)
      (ap (noted_text (asks_probes c) (names_by c files) (probes_after c files)) status-is ∙ sym (notes ∙ told-probes))

-- what follows of a value follows if there is one
pub if-ok : {A E : Type 0} (r : Result A E) {P Q : A → Type 0} → (IsOk r → (value : A) → P value → Q value) → IfOk r P → IfOk r Q
if-ok (Ok value) f h = f refl value h
if-ok (Err e) f h = tt

-- what the sink of the answer is left with, if no put failed
pub left-none : (s : Status) (old new : TextView) → s ≢ status.Write → old.bytes ≡ [] → Leaves s old new → HasNoText s new.bytes
left-none status.Done old new written empty leaves = tt
left-none status.Write old new written empty leaves = absurd (written refl)
left-none s old new written empty leaves = ap (λ (t : TextView). t.bytes) leaves ∙ empty

-- what a text that is written shows
abbrev pub grown : List ℕ → ℕ → SinkView
grown bytes faults = record { written = Some bytes; taken = bytes; faults = faults; sure = 0 }

-- the top call's promises over texts that were empty, if no put failed
pub from-empty : (files : Files) (asked : Result CommandView WordFault) (s : Status) (old new : CallShelf)
    {began text began_notes noted : List ℕ} {m n i j : ℕ} {before after : List ProbeView}
    → began ≡ [] → m ≡ 0 → n ≡ 0 → began_notes ≡ [] → i ≡ 0 → j ≡ 0 → before ≡ program_probes
    → Promised asked (outside_of (shown_shelf old) (grown began m) (grown began_notes i) before)
    (outside_of (shown_shelf new) (grown text n) (grown noted j) after) s (Some files)
    → PromisedWhole files asked old new text noted after s
from-empty files asked s old new b m n c i j e p = rw (b, m, n, c, i, j, e) at p

-- The reply of a call, and what it proves: of a command, and of words that are refused.
replies-of : (files : Files) (asked : Result CommandView WordFault) (s : Status) (text noted : List ℕ) (old new : CallShelf)
    (after : List ProbeView) → Left s text → PromisedWhole files asked old new text noted after s
    → record { code = code_of s; text = text; notes = noted } ≡ reply_from asked files
replies-of files (Ok c) s text noted old new after left p = sym (replies files c s text noted old new after left p)
replies-of files (Err why) s text noted old new after left p =
    let refused : s ≡ status.Words why = p.answers in
    sym (reply-with (code_of (status.Words why)) (code_of s) [] text (status_text [] (status.Words why)) noted
    (ap code_of (sym refused)) (sym (subst (λ t. HasNoText t text) refused left.none))
    (ap (status_text []) (sym refused) ∙ sym (put-whole (status_text [] s) noted p.notes)))

proves-of : (files : Files) (asked : Result CommandView WordFault) (s : Status) (text noted : List ℕ) (old new : CallShelf)
    (after : List ProbeView) → IsShown s → Left s text → PromisedWhole files asked old new text noted after s
    → Proves files (Some asked)
proves-of files (Ok c) s text noted old new after shown left p = proves-command files c s text noted old new after left p shown
proves-of files (Err why) s text noted old new after shown left p = tt

-- no other status has the code of memory that ran out
code-memory : (s : Status) → s ≢ status.NoMemory → code_of s ≢ NO_MEMORY
code-memory status.NoMemory memory = λ e. memory refl
code-memory status.Done memory = λ e. absurd (cc)
code-memory (status.NotAdmitted why) memory = λ e. absurd (cc)
code-memory (status.Words why) memory = λ e. absurd (cc)
code-memory (status.Load kind) memory = λ e. absurd (cc)
code-memory (status.Text why) memory = λ e. absurd (cc)
code-memory (status.Limit jobs) memory = λ e. absurd (cc)
code-memory (status.OverWorst task job units worst) memory = λ e. absurd (cc)
code-memory (status.Differs line wanted found) memory = λ e. absurd (cc)
code-memory status.Write memory = λ e. absurd (cc)

pub is-reply : (files : Files) (asked : Result CommandView WordFault) (s : Status) (text noted : List ℕ) (old new : CallShelf)
    (after : List ProbeView) (most : ℕ) (r : Reply) → Left s text → PromisedWhole files asked old new text noted after s
    → IsShown s → FitsLimits r × Shows most r (record { code = code_of s; text = text; notes = noted }) → IsReply files (Some asked) most r
is-reply files asked s text noted old new after most r left p shown is = record {
  reply = subst (Shows most r) (replies-of files asked s text noted old new after left p) is.1;
  fits = is.0;
  proves = proves-of files asked s text noted old new after shown left p;
  memory = λ e. code-memory s left.memory (sym is.1.code ∙ e);
}
