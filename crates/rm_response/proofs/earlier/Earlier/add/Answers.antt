use Rattle.std.proofs.Common.{◌≤◌, List, length, take, subst}
use Rattle.std.specs.Prelude.{All}
use Rattle.rm_response.specs.declared.inputs.Load.{Load}
use Rattle.rm_response.proofs.earlier.Earlier.add.Goals as goal

pub returns-clause-added : goal.returns-clause-added
returns-clause-added c =
    let place = c.place_among-place in
    let items = c.deref.ensures.value in
    record {
      both = c.joined-both.result;
      others = c.joined-both.new.self.loads.items;
      joined = c.joined-both.ensures.joined;
      put = record {
        place = place.result;
        within = subst (λ (ys : List Load). place.result ≤ length ys) items place.ensures.within;
        long = subst (λ (ys : List Load). All (λ (y : Load). c.args.response ≤ y.period) (take place.result ys)) items place.ensures.long;
        is = c.put_in.ensures.items;
      };
    }
