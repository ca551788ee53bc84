use Rattle.std.proofs.Common.{ℕ, ◌+◌, subst, arith, rules}
use Rattle.dvs_base.specs.Outside.{LoadsFrom}
use Rattle.command_files.proofs.FileLoads.{too_long, gives_bytes}
use Rattle.command_files.proofs.GivenLoads.{loads-from}
use Rattle.command_files.proofs.files.load_file.Goals as goal

pub returns-then-len-most-clause-step : goal.returns-then-len-most-clause-step
returns-then-len-most-clause-step g c files known =
    let l = c.in-Ok.ensures in
    record {
      read = tt;
      refused = too_long files c.args.file c.args.name.now c.in-Ok.bytes.items
          (subst (λ (most : ℕ). LoadsFrom files c.args.name.now (most + 1) c.in-Ok.bytes.items) c.longest-most.ensures.longest
          (loads-from _ _ _ _ _ l.bytes l.gave files known))
          (omega (arith, c.len.ensures, c.longest-most.ensures.longest));
      failed = tt;
      loads = search rules;
      counts = search rules;
      shown = tt;
    }

pub returns-clause-step : goal.returns-clause-step
returns-clause-step g c files known =
    let l = c.in-Ok.ensures in
    record {
      read = gives_bytes files c.args.file c.args.name.now c.in-Ok.bytes.items
          (subst (λ (most : ℕ). LoadsFrom files c.args.name.now (most + 1) c.in-Ok.bytes.items) c.longest-most.ensures.longest
          (loads-from _ _ _ _ _ l.bytes l.gave files known))
          (omega (arith, c.len.ensures, c.longest-most.ensures.longest));
      refused = tt;
      failed = tt;
      loads = search rules;
      counts = search rules;
      shown = tt;
    }
