use Rattle.std.proofs.Common.{refl}
use Rattle.rtdvs_top.proofs.ToldRuns.{put-text}
use Rattle.rtdvs_top.proofs.put.put.Goals as goal

pub returns-in-Migrated : goal.returns-in-Migrated
returns-in-Migrated g c =
    rw (c.in-Migrated.is, c.ended.ensures) (put-text g.W.Sink.shows g.P.Probe.seen _ _ _ _ _ refl refl tt refl c.put_trace.ensures)

pub returns-in-Line : goal.returns-in-Line
returns-in-Line g c =
    rw (c.in-Line.is, c.ended-in-Line.ensures) (put-text g.W.Sink.shows g.P.Probe.seen _ _ _ _ _ refl refl tt refl c.put_line.ensures)

pub returns-in-Responses : goal.returns-in-Responses
returns-in-Responses g c =
    rw (c.in-Responses.is, c.ended-in-Responses.ensures) (put-text g.W.Sink.shows g.P.Probe.seen _ _ _ _ _ refl refl tt refl c.put_responses.ensures)

pub returns-in-Polled : goal.returns-in-Polled
returns-in-Polled g c =
    rw (c.in-Polled.is, c.ended-in-Polled.ensures) (put-text g.W.Sink.shows g.P.Probe.seen _ _ _ _ _ refl refl tt refl c.put_polled.ensures)

pub returns-in-Least : goal.returns-in-Least
returns-in-Least g c =
    rw (c.in-Least.is, c.ended-in-Least.ensures) (put-text g.W.Sink.shows g.P.Probe.seen _ _ _ _ _ refl refl tt refl c.put_least.ensures)
