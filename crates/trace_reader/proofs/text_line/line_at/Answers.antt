use Rattle.std.proofs.Common.{rules}
use Rattle.std.proofs.lemmas.Option.{MatchOption-at_some}
use Rattle.trace_reader.proofs.ReaderSteps.{line_at-more}
use Rattle.trace_reader.proofs.text_line.line_at.Goals as goal

pub returns-then-number-gt-MOST_LINES-clause-line : goal.returns-then-number-gt-MOST_LINES-clause-line
returns-then-number-gt-MOST_LINES-clause-line c = rw (MatchOption-at_some _ _ _ c.in_ok-line.ensures.ok_part c.cut.ensures.found, line_at-more) (search rules)

pub returns-then-line-gt-LONGEST_LINE-clause-line : goal.returns-then-line-gt-LONGEST_LINE-clause-line
returns-then-line-gt-LONGEST_LINE-clause-line c = rw (MatchOption-at_some _ _ _ c.in_ok-line.ensures.ok_part c.cut.ensures.found, line_at-more) (search rules)

pub returns-clause-line : goal.returns-clause-line
returns-clause-line c = rw (MatchOption-at_some _ _ _ c.in_ok-line.ensures.ok_part c.cut.ensures.found, line_at-more) (search rules)
