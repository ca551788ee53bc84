-- What a shelf and a sink in memory guarantee, and what writing a text may take of a guarantee, by evaluation.
use Rattle.std.proofs.Common.{◌≡◌, ℕ, ◌-◌, List, [], ◌∷◌, Some, None, refl, arith}
use Rattle.dvs_base.specs.declared.memory.FailAt.{FailAt}
use Rattle.dvs_base.specs.Widths.{u64_end}
use Rattle.dvs_base.specs.Outside.{SinkView}
use Rattle.dvs_base.specs.Memory.{calls_before, sure_bytes, empty_sink, after_put}
use Rattle.dvs_base.specs.WritesText.{Wrote}

-- loads 2 and 5 fail, listed in either order: one load is guaranteed, then none before load 2 and two after it
loads_before_a_failing_one :
    (calls_before (5 ∷ 2 ∷ []) 0 ∷ calls_before (2 ∷ 5 ∷ []) 0 ∷ calls_before (5 ∷ 2 ∷ []) 1 ∷ calls_before (5 ∷ 2 ∷ []) 2 ∷ [])
    ≡ (1 ∷ 1 ∷ 0 ∷ 2 ∷ [])
loads_before_a_failing_one = refl

-- after the last listed load all loads are guaranteed
loads_after_the_last : calls_before (5 ∷ 2 ∷ []) 5 ≡ u64_end - 1
loads_after_the_last = refl

abbrev fail_at : ℕ → ℕ → FailAt
fail_at call taken = record { call = call; taken = taken }

-- the free room is guaranteed, and falls with the bytes that are taken
room : (sure_bytes (empty_sink 7 []) ∷ sure_bytes (after_put (empty_sink 7 []) (1 ∷ 2 ∷ []) None) ∷ []) ≡ (7 ∷ 5 ∷ [])
room = refl

-- if a failing put is listed no byte is guaranteed, not even before that put
room_of_a_failing_sink : sure_bytes (empty_sink 7 (fail_at 9 7 ∷ [])) ≡ 0
room_of_a_failing_sink = refl

-- a sink of these bytes, which guarantees `sure` more
abbrev sink : List ℕ → ℕ → SinkView
sink bytes sure = record { written = Some bytes; taken = bytes; faults = 0; sure = sure }

-- a text of two bytes takes two of the bytes that were guaranteed
two_bytes : Wrote (sink [] 7) (sink (1 ∷ 2 ∷ []) 5) (1 ∷ 2 ∷ [])
two_bytes = record { bytes = (refl, refl); steady = refl; surety = omega arith }

-- it may not take three
two_bytes_for_three : Wrote (sink [] 7) (sink (1 ∷ 2 ∷ []) 4) (1 ∷ 2 ∷ []) → ⊥
two_bytes_for_three w = omega (arith, w.surety)
