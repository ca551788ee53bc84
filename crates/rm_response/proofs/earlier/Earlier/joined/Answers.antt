use Rattle.std.proofs.Common.{◌≡◌, ◌<◌, List, length, refl, sym, ◌∙◌, ap, subst, arith}
use Rattle.std.specs.Prelude.{slice_index_or}
use Rattle.rm_response.specs.declared.inputs.Load.{Load}
use Rattle.rm_response.specs.Loads.{IsJoined}
use Rattle.rm_response.proofs.JoinedLoads.{worst-within, joined-both}
use Rattle.rm_response.proofs.earlier.Earlier.joined.Goals as goal

pub returns-clause-joined : goal.returns-clause-joined
returns-clause-joined c =
    let x = c.args.load in
    let z = c.take_out-other.result in
    let xs = c.args.self.now.loads.items in
    let k = c.in-Some.place in
    let now = c.deref.ensures.value in
    let below : k < length xs = subst (λ (ys : List Load). k < length ys) now c.in-Some.ensures.place in
    let is : z ≡ slice_index_or xs k z = c.take_out-other.ensures.value in
    let same : z.period ≡ x.period =
    ap (λ (y : Load). y.period) is
    ∙ subst (λ (ys : List Load). (slice_index_or ys k z).period ≡ x.period) now (c.in-Some.ensures.same z) in
    subst (IsJoined x xs _) (sym c.take_out-other.ensures.items) (joined-both x z _ xs k below is same refl refl refl)

pub invariant_of-result-clause-low_worst : goal.invariant_of-result-clause-low_worst
invariant_of-result-clause-low_worst c =
    let xs = c.args.self.now.loads.items in
    let k = c.in-Some.place in
    let below : k < length xs = subst (λ (ys : List Load). k < length ys) c.deref.ensures.value c.in-Some.ensures.place in
    omega (arith, worst-within c.take_out-other.result xs k below c.take_out-other.ensures.value, c.requires)
