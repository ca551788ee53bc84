-- What writing a text does to a sink.
use Rattle.std.specs.Prelude.{◌≡◌, ℕ, ◌+◌, ◌≤◌, List, length, ◌<◌, Result, Ok, Err}
use Rattle.dvs_base.specs.Outside.{SinkView, Rose, Takes, TakesPrefix}

-- the whole text was written: the sink took it, no fault is counted, and `sure` falls by at most its length
pub record Wrote (old new : SinkView) (text : List ℕ) : Type 0 where
  pub bytes : Takes old new text
  pub steady : new.faults ≡ old.faults
  pub surety : old.sure ≤ new.sure + length text

-- a first part of the text was written: the count of faults rose, and the whole text was not guaranteed
pub record WroteSome (old new : SinkView) (text : List ℕ) : Type 0 where
  pub part : TakesPrefix old new text
  pub rose : Rose old.faults new.faults
  pub later : old.faults ≤ new.faults
  pub unsure : old.sure < length text

-- at Ok the whole text was written, at an error a first part of it
abbrev pub WritesText : {T E : Type 0} → SinkView → SinkView → List ℕ → Result T E → Type 0
WritesText old new text (Ok v) = Wrote old new text
WritesText old new text (Err e) = WroteSome old new text
