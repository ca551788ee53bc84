use Rattle.std.proofs.Common.{append_assoc}
use Rattle.trace_text.proofs.write.push_run.Goals as goal

pub returns-clause-text : goal.returns-clause-text
returns-clause-text c =
    rw (
      c.push_word-6.ensures.text,
      c.push_wide.ensures.text,
      c.push_word-5.ensures.text,
      c.push_number.ensures.text,
      c.push_word-4.ensures.text,
      c.push_job.ensures.text,
      c.push_word-3.ensures.text,
      c.push_at-2.ensures.text,
      c.push_word-2.ensures.text,
      c.push_at.ensures.text,
      c.push_word.ensures.text,
      c.requires.empty,
    ) (simp append_assoc)
