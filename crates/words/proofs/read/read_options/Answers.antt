use Rattle.std.proofs.Common.{◌+◌, string_bytes, sym, ◌∙◌, ap, ℕ, rules}
use Rattle.words.specs.Shown.{shown_reading}
use Rattle.words.proofs.Steps.{stops, goes-on}
use Rattle.words.proofs.read.read_options.Goals as goal

pub returns-in_err-reading-clause-read : goal.returns-in_err-reading-clause-read
returns-in_err-reading-clause-read c =
    let l = c.loop-word in
    let stopped = sym (stops string_bytes c.args.verb (shown_reading l.reading) l.place c.args.words.now l.word-index
    c.word-item.result c.as_str.result.now c.word_at.result c.in_err-reading.field-0.0
    c.loop-word-test.true c.word-item.is c.as_str.ensures.value c.word_at.ensures c.in_err-reading.was)
    ∙ l.invariant.rest in
    search (rules, stopped)

pub loop-word-preserved : goal.loop-word-preserved
loop-word-preserved c =
    let l = c.loop-word in
    record {
      place = ap (λ (n : ℕ). n + 1) l.invariant.place;
      rest =
          sym (goes-on string_bytes c.args.verb (shown_reading l.reading) l.place c.args.words.now l.word-index
          c.word-item.result c.as_str.result.now c.word_at.result c.in_ok-reading.reading
          c.loop-word-test.true c.word-item.is c.as_str.ensures.value c.word_at.ensures c.in_ok-reading.was)
          ∙ l.invariant.rest;
    }
