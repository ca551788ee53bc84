-- Lines of a numbered list that were put one after another.
use Rattle.std.proofs.Common.{◌≡◌, ℕ, zero, suc, ◌+◌, ◌-◌, ◌<◌, List, [], ◌++◌, ap, ◌∙◌, sym, subst, arith, append-nil, append_assoc}
use Rattle.dvs_base.specs.Outside.{SinkView}
use Rattle.dvs_base.specs.WritesText.{Wrote, WroteSome}
use Rattle.dvs_base.proofs.TextPuts.{wrote-then, wrote-then-some, wrote-some-more}

-- the text of each of `most` lines, and of the first n of them
module _ (line_at lines : ℕ → List ℕ) (most : ℕ) (more : (n : ℕ) → n < most → lines (suc n) ≡ lines n ++ line_at n) where
  -- what is left of all lines after the first m
  abbrev Left : ℕ → Type 0
  Left m = (rest : List ℕ) × (lines most ≡ lines m ++ rest)

  left : (k m : ℕ) → m + k ≡ most → Left m
  left zero m all =
      let none : m ≡ most = omega (arith, all) in
      ([], subst (λ (n : ℕ). lines n ≡ lines m ++ []) none (sym (append-nil (lines m))))
  left (suc k) m all =
      let later = left k (suc m) (omega (arith, all)) in (
        line_at m ++ later.0,
        later.1 ∙ (ap (λ (t : List ℕ). t ++ later.0) (more m (omega (arith, all))) ∙ append_assoc (lines m) (line_at m) later.0),
      )

  -- one more line was put
  pub next-put : (a b c : SinkView) (m : ℕ) (line : List ℕ) → m < most → line ≡ line_at m
      → Wrote a b (lines m) → Wrote b c line → Wrote a c (lines (m + 1))
  next-put a b c m line lt is w v =
      let one : suc m ≡ m + 1 = omega arith in
      subst (λ (k : ℕ). Wrote a c (lines k)) one
      (subst (λ (t : List ℕ). Wrote a c t) (sym (more m lt))
      (wrote-then a b c (lines m) (line_at m) w (subst (λ (t : List ℕ). Wrote b c t) is v)))

  -- a line was put in part, and nothing after it
  pub part-put : (a b c : SinkView) (m : ℕ) (line : List ℕ) → m < most → line ≡ line_at m
      → Wrote a b (lines m) → WroteSome b c line → WroteSome a c (lines most)
  part-put a b c m line lt is w v =
      let k = left (most - suc m) (suc m) (omega (arith, lt)) in
      subst (λ (t : List ℕ). WroteSome a c t) (sym k.1)
      (wrote-some-more a c (lines (suc m)) k.0
      (subst (λ (t : List ℕ). WroteSome a c t) (sym (more m lt))
      (wrote-then-some a b c (lines m) (line_at m) w (subst (λ (t : List ℕ). WroteSome b c t) is v))))
