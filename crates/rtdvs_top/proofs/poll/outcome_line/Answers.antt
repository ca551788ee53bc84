use Rattle.std.proofs.Common.{◌≡◌, ℕ, List, [], ◌∷◌, ◌++◌, append_assoc}
use Rattle.std.specs.Prelude.{◌+◌, codes}
use Rattle.std.specs.Fmt.{decimal}
use Rattle.dvs_base.specs.Parts.{position_text}
use Rattle.poll_server.specs.ServerJobs.{arrival, units}
use Rattle.rtdvs_top.proofs.poll.outcome_line.Goals.{in-Served, in-Pending}
use Rattle.rtdvs_top.proofs.poll.outcome_line.Goals as goal

-- fields after a word, appended one by one, are those of a line
three-fields : (word a b c : List ℕ)
    → ((((((word ++ a) ++ (32 ∷ [])) ++ b) ++ (32 ∷ [])) ++ c) ++ (10 ∷ [])) ≡ word ++ (a ++ (32 ∷ (b ++ (32 ∷ (c ++ (10 ∷ []))))))
three-fields word a b c = simp append_assoc

five-fields : (word a b c d e : List ℕ)
    → ((((((((((word ++ a) ++ (32 ∷ [])) ++ b) ++ (32 ∷ [])) ++ c) ++ (32 ∷ [])) ++ d) ++ (32 ∷ [])) ++ e) ++ (10 ∷ []))
    ≡ word ++ (a ++ (32 ∷ (b ++ (32 ∷ (c ++ (32 ∷ (d ++ (32 ∷ (e ++ (10 ∷ []))))))))))
five-fields word a b c d e = simp append_assoc

pub returns-clause-text : goal.returns-clause-text
returns-clause-text c =
    let s = c.args.polling.now in
    let m = c.args.m in
    rw c.push_word-2.ensures.text (elim c.match-outcome.branch [
      | in-Served w ↦
          rw (
            w.line-is,
            w.in-Served.is,
            w.push_position.ensures.text,
            w.push_word-in-Served.ensures.text,
            w.push_number.ensures.text,
            w.push_word.ensures.text,
            w.push_request.ensures.text,
          ) (five-fields (codes "served ") (decimal (m + 1)) (decimal (arrival s m)) (decimal (units s m))
          (decimal w.in-Served.job) (position_text w.in-Served.at))
      | in-Pending w ↦
          rw (w.line-is, w.in-Pending.is, w.push_request-in-Pending.ensures.text)
          (three-fields (codes "pending ") (decimal (m + 1)) (decimal (arrival s m)) (decimal (units s m)))
    ])
