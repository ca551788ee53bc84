-- What is known if each task has a response, and the first task without one.
use Rattle.std.specs.Prelude.{◌≡◌, ℕ, List, Option}
use Rattle.sched_model.specs.Plan.{Plan, count, period}
use Rattle.rm_response_laws.specs.Responses.{response, AllRespond}
use Rattle.rm_response.specs.Denials.{responses, first_late}

-- each task has a response, and the entries are the responses
pub record AreAllKnown (p : Plan) (entries : List ℕ) : Type 0 where
  pub all : AllRespond p
  pub are : entries ≡ responses p

-- the first task in RM order without a response, if any
abbrev pub late_task : Plan → Option ℕ
late_task p = first_late (period p) (response p) (count p)
