use Rattle.std.proofs.Common.{[], ap, ap₂, ◌∙◌}
use Rattle.energy.specs.Books.{books_of}
use Rattle.energy.proofs.Books.{books_by, no-books}
use Rattle.energy.proofs.account.Account.new.Goals as goal

pub returns : goal.returns
returns c =
    ap₂ (books_by 0 0 0 0 0) c.in_ok-tasks.ensures c.in_ok-points.ensures
    ∙ (no-books c.args.tasks c.count.result ∙ ap (λ n. books_of c.args.tasks n []) c.count.ensures)
