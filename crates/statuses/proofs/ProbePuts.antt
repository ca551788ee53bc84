-- The lines of probes that were put one after another.
use Rattle.std.proofs.Common.{◌≡◌, ℕ, zero, suc, ◌+◌, ◌<◌, List, [], ◌∷◌, ◌++◌, length, map, take, get_or, ap, ◌∙◌, sym, subst, arith, append-nil, append_assoc, inr}
use Rattle.std.proofs.lemmas.List.{take_all, length-map}
use Rattle.dvs_base.specs.Outside.{SinkView}
use Rattle.probes.specs.Tallies.{ProbeView}
use Rattle.dvs_base.specs.WritesText.{Wrote, WroteSome}
use Rattle.statuses.specs.ProbeLines.{probe_text, probe_lines}
use Rattle.statuses.specs.Noted.{NotedAs}
use Rattle.statuses.proofs.NumberedPuts as puts

module _ {X : Type 0} (names : List (List ℕ)) (f : X → ProbeView) (d : X) where
  -- the lines of the first n probes, and of one more probe after them
  one-more : (place n : ℕ) (xs : List X) → n < length xs
      → probe_lines names place (take (suc n) (map f xs))
      ≡ probe_lines names place (take n (map f xs)) ++ probe_text names (place + n) (f (get_or xs n d))
  one-more place n [] lt = absurd (omega (arith, lt))
  one-more place zero (y ∷ ys) lt =
      append-nil (probe_text names place (f y)) ∙ ap (λ (k : ℕ). probe_text names k (f y)) (let same : place ≡ place + 0 = omega arith in same)
  one-more place (suc n) (y ∷ ys) lt =
      let first = probe_text names place (f y) in
      let before = probe_lines names (place + 1) (take n (map f ys)) in
      let x = get_or ys n d in
      let own : probe_text names (place + 1 + n) (f x) ≡ probe_text names (place + suc n) (f x) = ap (λ k. probe_text names k (f x)) (omega arith) in
      ap (λ t. first ++ t) (one-more (place + 1) n ys (omega (arith, lt)) ∙ ap (λ t. before ++ t) own)
      ∙ sym (append_assoc first before (probe_text names (place + suc n) (f x)))

  module _ (xs : List X) where
    abbrev line_at : ℕ → List ℕ
    line_at n = probe_text names (n + 1) (f (get_or xs n d))

    abbrev lines : ℕ → List ℕ
    lines n = probe_lines names 1 (take n (map f xs))

    more : (n : ℕ) → n < length xs → lines (suc n) ≡ lines n ++ line_at n
    more n lt = one-more 1 n xs lt ∙ ap (λ k. lines n ++ probe_text names k (f (get_or xs n d))) (omega arith)

    -- one more line was put
    pub next-put : (a b c : SinkView) (at : ℕ) (x : X) (line : List ℕ) → at < length xs → x ≡ get_or xs at d
        → line ≡ probe_text names (at + 1) (f x) → Wrote a b (lines at) → Wrote b c line → Wrote a c (lines (at + 1))
    next-put a b c at x line lt is text =
        puts.next-put line_at lines (length xs) more a b c at line lt (text ∙ ap (λ y. probe_text names (at + 1) (f y)) is)

    -- a line was put in part, and nothing after it
    pub part-put : (a b c : SinkView) (at : ℕ) (x : X) (line : List ℕ) → at < length xs → x ≡ get_or xs at d
        → line ≡ probe_text names (at + 1) (f x) → Wrote a b (lines at) → WroteSome b c line → NotedAs a c (probe_lines names 1 (map f xs))
    part-put a b c at x line lt is text w v =
        inr (subst (λ (ps : List ProbeView). WroteSome a c (probe_lines names 1 ps)) (take_all (length xs) (map f xs) (omega (arith, length-map xs f)))
        (puts.part-put line_at lines (length xs) more a b c at line lt (text ∙ ap (λ y. probe_text names (at + 1) (f y)) is) w v))
