use Rattle.std.proofs.Common.{ℕ, ◌≡◌, ◌<◌, ◌+◌, ◌-◌, inl, inr, Option, List, ◌∷◌, length, max, ap, sym, ◌∙◌, subst, arith}
use Rattle.std.specs.Prelude.{MatchOption}
use Rattle.rm_response.specs.declared.inputs.Load.{Load}
use Rattle.rm_response.specs.declared.inputs.Search.{Search}
use Rattle.rm_response.specs.declared.inputs.Span.{Span}
use Rattle.rm_response.specs.declared.relaxed.Relaxed.{Relaxed}
use Rattle.rm_response.specs.Loads.{AreSearched, release_before}
use Rattle.rm_response.specs.Fits.{SearchesFit, AreNodes}
use Rattle.rm_response.proofs.Searches.{all-searched, searched-whole, others-searched, lack-found, taken-in, taken-before}
use Rattle.rm_response.proofs.RelaxedLoads.{none-found}
use Rattle.rm_response.proofs.RelaxedNodes.{left-none}
use Rattle.rm_response.proofs.search.+fitting_by.Goals as goal

-- the ticks of a span in the period of a load before the last one, or its last release is before the span
abbrev IsBefore : Load → ℕ → ℕ → Option Span → Type 0
IsBefore x low most ended = MatchOption ended (release_before most x < low)
    (λ e. (e.first ≡ max low (release_before most x + 1 - x.period)) × (e.last ≡ release_before most x))

-- the loads after the first are those of the search, and the nodes are for the last of them
others : (q : Search) (x : Load) (xs all : List Load) (rs nodes : List Relaxed) → all ≡ x ∷ xs → rs ≡ nodes → AreSearched q all
    → AreNodes q.whole all nodes → AreSearched q xs × AreNodes q.whole xs rs
others q x xs all rs nodes parts same loads are = (
  others-searched q x xs (subst (AreSearched q) parts loads),
  subst (AreNodes q.whole xs) (sym same) (subst (λ (ys : List Load). AreNodes q.whole ys nodes) parts are).1,
)

pub fitting_by-requires : goal.fitting_by-requires
fitting_by-requires t c =
    let q = c.args.search in
    let xs = c.args.left.loads.now in
    let same = c.without_nodes.ensures.loads in (
      omega (arith, c.decreases, c.if-left-search.true, ap (length {A = Load}) c.in-Some.ensures.parts, ap (length {A = Load}) same, c.by-whole.ensures.tail),
      (
        subst (AreSearched c.by-whole.result) (sym same)
            (all-searched c.by-whole.result q.whole xs c.by-whole.ensures.whole c.by-whole.ensures.low (searched-whole q xs c.requires.loads)),
        left-none c.by-whole.result.whole c.without_nodes.result c.without_nodes.ensures.nodes,
      ),
    )

pub returns-then-left-search : goal.returns-then-left-search
returns-then-left-search t c =
    let first = c.args.span.first in
    let last = c.args.span.last in
    lack-found c.args.search c.by-whole.result c.args.left.loads.now c.args.rest c.lack-lack.result first last c.fitting_by.result
    c.by-whole.ensures.low (omega (arith, c.if-left-search.true, ap (length {A = Load}) c.in-Some.ensures.parts)) c.lack-lack.ensures.most
    (subst (λ (ys : List Load). SearchesFit c.by-whole.result ys (c.args.rest + c.lack-lack.result) first last c.fitting_by.result)
    c.without_nodes.ensures.loads c.fitting_by.ensures)

pub fitting_by-requires-in_default-ended : goal.fitting_by-requires-in_default-ended
fitting_by-requires-in_default-ended t c =
    let ys = c.in-Some.others in (
      omega (arith, c.decreases, ap (length {A = Load}) c.in-Some.ensures.parts),
      others c.args.search c.in-Some.load ys.loads.now c.args.left.loads.now ys.nodes.now c.args.left.nodes.now
          c.in-Some.ensures.parts c.in-Some.ensures.nodes c.requires.loads c.requires.nodes,
    )

pub returns-in_default-ended : goal.returns-in_default-ended
returns-in_default-ended t c =
    let x = c.in-Some.load in
    let span = c.args.span in
    let begun = c.periods-ended.result.0 in
    taken-in c.args.search x c.in-Some.others.loads.now c.args.left.loads.now c.in-Some.ensures.parts c.requires.loads
    (omega (arith, c.if-left-search.false)) c.args.rest span.first span.last span.some span.ordered
    c.held.result begun.first begun.last c.fitting_by-in_default-ended.result c.held.ensures.value
    c.periods-ended.ensures.after c.periods-ended.ensures.last c.fitting_by-in_default-ended.ensures
    (inr (subst (IsBefore x span.first span.last) c.in_default-ended.is c.periods-ended.ensures.before))

pub relaxed_search-requires : goal.relaxed_search-requires
relaxed_search-requires t c = record {
  some = omega (arith, ap (length {A = Load}) c.in-Some.ensures.parts);
  nodes = c.requires.nodes;
}

pub fitting_by-requires-2 : goal.fitting_by-requires-2
fitting_by-requires-2 t c =
    let is = c.in-Some-relaxed_search.ensures in
    let heavy = c.in-Some-relaxed_search.heavy in (
      omega (arith, c.decreases, is.fewer),
      (is.searched, left-none c.in-Some-relaxed_search.relaxed.whole heavy is.none),
    )

pub returns : goal.returns
returns t c =
    let span = c.args.span in
    let is = c.in-Some-relaxed_search.ensures in
    none-found c.args.search c.args.left.loads.now c.in-Some-relaxed_search.relaxed c.in-Some-relaxed_search.heavy.loads.now
    c.args.rest span.first span.last c.fitting_by-2.result is.whole is.relaxed c.fitting_by-2.ensures c.if-is_none.ensures

pub fitting_by-found-requires : goal.fitting_by-found-requires
fitting_by-found-requires t c =
    let ys = c.in-Some.others in (
      omega (arith, c.decreases, ap (length {A = Load}) c.in-Some.ensures.parts),
      others c.args.search c.in-Some.load ys.loads.now c.args.left.loads.now ys.nodes.now c.args.left.nodes.now
          c.in-Some.ensures.parts c.in-Some.ensures.nodes c.requires.loads c.requires.nodes,
    )

pub returns-then-is_some : goal.returns-then-is_some
returns-then-is_some t c =
    let begun = c.periods-ended.result.0 in
    taken-in c.args.search c.in-Some.load c.in-Some.others.loads.now c.args.left.loads.now c.in-Some.ensures.parts c.requires.loads
    (omega (arith, c.if-left-search.false)) c.args.rest c.args.span.first c.args.span.last c.args.span.some
    c.args.span.ordered c.held-2.result begun.first begun.last c.fitting_by-found.result c.held-2.ensures.value
    c.periods-ended.ensures.after c.periods-ended.ensures.last c.fitting_by-found.ensures (inl (sym c.is_some.ensures ∙ c.if-is_some.true))

pub fitting_by-requires-3 : goal.fitting_by-requires-3
fitting_by-requires-3 t c =
    let ys = c.in-Some.others in (
      omega (arith, c.decreases, ap (length {A = Load}) c.in-Some.ensures.parts),
      others c.args.search c.in-Some.load ys.loads.now c.args.left.loads.now ys.nodes.now c.args.left.nodes.now
          c.in-Some.ensures.parts c.in-Some.ensures.nodes c.requires.loads c.requires.nodes,
    )

pub returns-2 : goal.returns-2
returns-2 t c =
    let x = c.in-Some.load in
    let span = c.args.span in
    let begun = c.periods-ended.result.0 in
    let ended = c.in-Some-ended.ended in
    taken-before c.args.search x c.in-Some.others.loads.now c.args.left.loads.now c.in-Some.ensures.parts c.requires.loads
    (omega (arith, c.if-left-search.false)) c.args.rest span.first span.last span.some span.ordered
    c.held-2.result begun.first begun.last c.fitting_by-found.result c.held-2.ensures.value c.periods-ended.ensures.after
    c.periods-ended.ensures.last c.fitting_by-found.ensures c.held-3.result ended.first ended.last c.fitting_by-3.result
    (sym c.is_some.ensures ∙ c.if-is_some.false)
    (subst (IsBefore x span.first span.last) c.in-Some-ended.is c.periods-ended.ensures.before)
    c.held-3.ensures.value c.fitting_by-3.ensures
