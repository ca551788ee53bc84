use Rattle.std.proofs.Common.{◌≡◌, ◌+◌, ◌-◌, ◌<◌, ◌≤◌, ℕ, List, Result, Ok, Err, OnErr, is_ok, cond, vec_len, vec_capacity, sym, subst, arith}
use Rattle.std.specs.Prelude.{insert}
use Rattle.rm_response.specs.declared.inputs.Load.{Load}
use Rattle.rm_response.specs.declared.relaxed.Relaxed.{Relaxed}
use Rattle.rm_response.specs.Fits.{AreNodes}
use Rattle.rm_response.proofs.RelaxedNodes.{nodes-inserted}
use Rattle.rm_response.proofs.earlier.Earlier.put_in.Goals as goal

-- what has room is put in
put-room : {A E : Type 0} (r : Result A E) (old more new : List Load) (long room : ℕ) → long < room → OnErr r (room ≤ long)
    → new ≡ cond (is_ok r) more old → new ≡ more
put-room (Ok a) old more new long room has full is = is
put-room (Err e) old more new long room has full is = absurd (omega (arith, has, full))

pub returns-clause-nodes : goal.returns-clause-nodes
returns-clause-nodes c = λ s are.
    let loads = c.args.self.now.loads in
    let rs = c.args.self.now.nodes.items in
    let k = c.args.place in
    let x = c.args.load in
    let n = c.len.result - k + 1 in
    let ok = loads.ok in
    let left = nodes-inserted s loads.items rs k x n (omega arith) (omega arith) are in
    let call = c.insert-room_was_reserved in
    let is : call.new.self.items ≡ insert loads.items k x =
    put-room call.result loads.items (insert loads.items k x) call.new.self.items (vec_len loads) (vec_capacity loads) c.requires.room
    call.ensures.full call.ensures.items in
    subst (λ (zs : List Load). AreNodes s zs c.truncate.new.self.items) (sym is)
    (subst (λ (qs : List Relaxed). AreNodes s (insert loads.items k x) qs) (sym c.truncate.ensures.items) left)
