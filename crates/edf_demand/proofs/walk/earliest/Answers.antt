use Rattle.edf_demand.proofs.Calendars.{front, none-front, no-front, first-earliest}
use Rattle.edf_demand.proofs.walk.earliest.Goals as goal

pub returns-in-Some : goal.returns-in-Some
returns-in-Some c =
    let head = front c.args.next.now.entries c.in-Some.job c.in-Some.ensures.value in
    first-earliest c.args.next.now c.requires c.in-Some.job head.0 head.1 c.in-Some.ensures.first

pub returns-in-None : goal.returns-in-None
returns-in-None c =
    absurd (no-front c.args.next.now c.requires (none-front c.args.next.now.entries c.in-None.ensures.value))
