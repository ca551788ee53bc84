-- Texts written one after another.
use Rattle.std.proofs.Common.{ℕ, ◌+◌, List, [], ◌++◌, length, length-append, take, Option, Some, None, Result, Ok, Err, refl, sym, ◌∙◌, subst, arith, append-nil, append_assoc, ap, true≢false}
use Rattle.std.specs.Prelude.{IsErr}
use Rattle.std.specs.Io.KnownBytes.{Appends}
use Rattle.std.proofs.KnownBytes.{Appends-trans}
use Rattle.std.proofs.lemmas.List.{take-append-le}
use Rattle.std.proofs.Math.Seq.{take-append-add}
use Rattle.dvs_base.specs.Outside.{SinkView, Rose, Takes}
use Rattle.dvs_base.specs.WritesText.{Wrote, WroteSome, WritesText}

appends-none : (a : Option (List ℕ)) → Appends a a []
appends-none None = tt
appends-none (Some xs) = sym (append-nil xs)

-- what a sink took of one text after another, it took of both together
pub takes-then : (a b c : SinkView) (t u : List ℕ) → Takes a b t → Takes b c u → Takes a c (t ++ u)
takes-then a b c t u w x = (
  Appends-trans a.written b.written c.written t u w.0 x.0,
  x.1 ∙ (ap (λ (bytes : List ℕ). bytes ++ u) w.1 ∙ append_assoc a.taken t u),
)

-- writing the empty text changes nothing
pub wrote-none : (a : SinkView) → Wrote a a []
wrote-none a = record { bytes = (appends-none a.written, sym (append-nil a.taken)); steady = refl; surety = omega arith }

-- if two texts were written whole, one after the other, both together were written whole
pub wrote-then : (a b c : SinkView) (t u : List ℕ) → Wrote a b t → Wrote b c u → Wrote a c (t ++ u)
wrote-then a b c t u w x = record {
  bytes = takes-then a b c t u w.bytes x.bytes;
  steady = x.steady ∙ w.steady;
  surety = omega (arith, length-append t u, w.surety, x.surety);
}

-- if a text was written whole and the next in part, both together were written in part
pub wrote-then-some : (a b c : SinkView) (t u : List ℕ) → Wrote a b t → WroteSome b c u → WroteSome a c (t ++ u)
wrote-then-some a b c t u w x = record {
  part = (
    length t + x.part.0,
    omega (arith, length-append t u, x.part.1),
    rw (take-append-add t u x.part.0) (takes-then a b c t (take x.part.0 u) w.bytes x.part.2),
  );
  rose = subst (λ (f : ℕ). Rose f c.faults) w.steady x.rose;
  later = omega (arith, w.steady, x.later);
  unsure = omega (arith, length-append t u, w.surety, x.unsure);
}

-- if a text was written in part, so was any longer text that begins with it
pub wrote-some-more : (a b : SinkView) (t u : List ℕ) → WroteSome a b t → WroteSome a b (t ++ u)
wrote-some-more a b t u w = record {
  part = (
    w.part.0,
    omega (arith, length-append t u, w.part.1),
    rw (take-append-le w.part.0 t u w.part.1) w.part.2,
  );
  rose = w.rose;
  later = w.later;
  unsure = omega (arith, length-append t u, w.unsure);
}

-- a text that was written whole and then another as the result says: so were both together
pub writes-then : {T E : Type 0} (a b c : SinkView) (t u : List ℕ) (r : Result T E) → Wrote a b t → WritesText b c u r → WritesText a c (t ++ u) r
writes-then a b c t u (Ok v) w x = wrote-then a b c t u w x
writes-then a b c t u (Err e) w x = wrote-then-some a b c t u w x

-- a text that was written in part is written as an error says
pub writes-part : {T E : Type 0} (a b : SinkView) (t : List ℕ) (r : Result T E) → IsErr r → WroteSome a b t → WritesText a b t r
writes-part a b t (Ok v) is w = absurd (true≢false (sym is))
writes-part a b t (Err e) is w = w
