-- Texts that were put to `notes`.
use Rattle.std.proofs.Common.{inl, inr, ℕ, List, Result, Ok, Err}
use Rattle.dvs_base.specs.Outside.{SinkView}
use Rattle.dvs_base.specs.WritesText.{WritesText}
use Rattle.statuses.specs.Noted.{NotedAs}

-- a text that was put is there whole or in part
pub noted : {T E : Type 0} (a b : SinkView) (t : List ℕ) (r : Result T E) → WritesText a b t r → NotedAs a b t
noted a b t (Ok v) w = inl w
noted a b t (Err e) w = inr w
