-- The bound that two corners give, how it is reached, that a certificate is of the least energy, and that a schedule is a
-- choice for each tick.
use Rattle.std.proofs.Common.{◌≡◌, ℕ, ◌+◌, ◌-◌, ◌*◌, ◌<◌, ◌≤◌, List, [], ◌∷◌, length, refl, arith, sym, subst, Bool, true, false, zero, suc, ◌++◌, replicate, ◌∙◌, ap, ap₂, mul-le-mul, mul-le-mul_left, length-append}
use Rattle.std.specs.Prelude.{sum_by, nat_lt, if◌then◌else◌}
use Rattle.std.specs.List.{AllByRecursion}
use Rattle.std.proofs.lemmas.List.Elements.{All-from_recursion, recursion_from_All, All-append, All-replicate}
use Rattle.std.proofs.lemmas.List.Sums.{sum_by-cons, sum_by-append}
use Rattle.std.specs.Int.{abs_diff}
use Rattle.std.proofs.Math.Nat.{le_of_mul-le-mul_left}
use Rattle.std.proofs.lemmas.Bool.Decides.{nat_tests}
use Rattle.std.proofs.lemmas.List.{length-replicate, length-map}
use Rattle.std.proofs.lemmas.List.Folds.{sum_by-replicate}
use Rattle.dvs_base.specs.declared.note.Note.{Note}
use Rattle.grid_fraction.specs.Numbers.{sum_below}
use Rattle.freq_table.specs.Tables.{Table, speed_at, IsTable}
use Rattle.sched_model.specs.declared.holder.Holder.{Holder}
use Rattle.sched_model.specs.declared.holder.Holder.TheVariants.{Nobody, Held}
use Rattle.sched_model.specs.Plan.{Plan, count, point}
use Rattle.sched_model.specs.Jobs.{JobDemands}
use Rattle.sched_model.specs.Ticks.{PublishedDemand, Tick, share}
use Rattle.sched_model.specs.Schedule.{IsNext, IsScheduleBy}
use Rattle.sched_model.specs.Notes.{run_energy_told, idle_energy_told, tick_units, notes_before_end, notes_of}
use Rattle.sched_model.proofs.NoteSums.{none-sum, with-end, segments-next, running, idling, run-next, idle-next}
use Rattle.sched_model.proofs.Schedules.{force-within}
use Rattle.sched_model.proofs.Units.{units-weight, shares-fit}
use Rattle.energy_bound.specs.Choices.{Choice, IsChoice, choice_cost, total_units, total_cost, AreChoices}
use Rattle.energy_bound.specs.Schedules.{choice_of, choices_of, run_units, CostsItsTicks, SchedulesCostTheirTicks, energy_spent, BoundsSchedules, IsLeast}
use Rattle.energy_bound.specs.Corners.{corner, corner_units, corner_cost, last_corner, Holds}
use Rattle.energy_bound.specs.Certificates.{least_of, IsCertificate}
use Rattle.energy_bound.specs.Bounds.{BoundsChoices, IsReached, HavePrices}
use Rattle.energy_bound.proofs.Corners.{volts, idle-cost, full-cost, units-climb, units-order, cost-climb, volts-climb, units-same}
use Rattle.energy_bound.specs.declared.least.Least.{Least}

module _ (p : Plan) (dem : JobDemands) (ask : PublishedDemand) (some : 1 ≤ length p.machine.points) where
  abbrev notes : List Tick → List Note
  notes = notes_before_end p dem ask

  -- what a unit adds to the running units
  abbrev unit : ℕ → Holder → ℕ
  unit e Nobody = 0
  unit e (Held i k) = 1

  units-next : (x : Tick) (past : List Tick) → IsScheduleBy p dem ask (x ∷ past)
      → sum_by run_units (notes (x ∷ past)) ≡ sum_by run_units (notes past) + sum_by (unit x.entry) (tick_units p past x)
  units-next =
      segments-next p dem ask run_units unit
      (record { run = λ from to i k units e. omega arith; idle = λ from to units e. omega arith; done = λ at_end i k used. refl })
      (record { release = λ tick i k. refl; speed = λ tick speed num den. refl })

  -- the cost of a tick is that of its running units and of its idle ones
  tick_cost : (v f w share : ℕ) → (w * (v * v * 1000) + (f - w) * 0) + (w * 0 + (f - w) * (v * v * share)) ≡ v * v * (1000 * w + share * (f - w))
  tick_cost v f w share = grind (arith, nat_tests)

  costs : (ticks : List Tick) → IsScheduleBy p dem ask ticks
      → sum_by run_energy_told (notes ticks) + sum_by idle_energy_told (notes ticks) ≡ total_cost p.machine (choices_of p ticks)
  costs [] h = omega (arith, none-sum p dem ask run_energy_told, none-sum p dem ask idle_energy_told)
  costs (x ∷ past) h =
      omega (
        arith,
        costs past h.0,
        run-next p dem ask x past h,
        idle-next p dem ask x past h,
        units-weight p past x (running p dem ask x.entry) ((point p x.entry).millivolts * (point p x.entry).millivolts * 1000) (λ i k. refl),
        units-weight p past x (idling p dem ask x.entry) 0 (λ i k. refl),
        tick_cost ((point p x.entry).millivolts) ((point p x.entry).speed) (sum_below (count p) (share x)) p.machine.idle,
        sum_by-cons (choice_cost p.machine) (choice_of p x) (choices_of p past),
      )

  units : (ticks : List Tick) → IsScheduleBy p dem ask ticks → sum_by run_units (notes ticks) ≡ total_units (choices_of p ticks)
  units [] h = none-sum p dem ask run_units
  units (x ∷ past) h =
      omega (
        arith,
        units past h.0,
        units-next x past h,
        units-weight p past x (unit x.entry) 1 (λ i k. refl),
        sum_by-cons (λ (y : Choice). y.units) (choice_of p x) (choices_of p past),
      )

  -- a legal tick gives at most its speed
  choice-next : (past : List Tick) (x : Tick) → IsNext p dem ask past x → IsChoice p.machine (choice_of p x)
  choice-next past x h = grind (arith, nat_tests, force-within, units, shares-fit)

  choices : (ticks : List Tick) → IsScheduleBy p dem ask ticks → AllByRecursion (IsChoice p.machine) (choices_of p ticks)
  choices [] h = tt
  choices (x ∷ past) h = (choice-next past x h.1, choices past h.0)

  pub costs-its-ticks : (ticks : List Tick) → IsScheduleBy p dem ask ticks → CostsItsTicks p ticks (notes_of p dem ask ticks)
  costs-its-ticks ticks h = grind (arith, choices, All-from_recursion, units, with-end, costs)

pub schedules-cost : (m : Table) → 1 ≤ length m.points → SchedulesCostTheirTicks m
schedules-cost m some p dem ask ticks machine h = costs-its-ticks p dem ask (subst (λ (t : Table). 1 ≤ length t.points) (sym machine) some) ticks h

-- a tick of w units, r below its speed f, costs no less than the mix of an idle tick and a full one
over_mix : (w r f v share f0 v0 : ℕ) → f0 * v0 * v0 ≤ f * v * v
    → r * (f0 * v0 * v0 * share) + w * (f * v * v * 1000) ≤ f * (v * v * (1000 * w + share * r))
over_mix w r f v share f0 v0 h = grind (arith, mul-le-mul_left (r * share) h)

-- if an idle tick and a full one are on or above a line, so is the tick: M * units + s is at most D * cost + g
over_line : (w r f M D s g idle full cost : ℕ) → w + r ≡ f → 0 < f → s ≤ D * idle + g → M * f + s ≤ D * full + g
    → r * idle + w * full ≤ f * cost → M * w + s ≤ D * cost + g
over_line w r f M D s g idle full cost whole pos h0 hf mix =
    le_of_mul-le-mul_left {m = M * w + s} {n = D * cost + g} {k = f}
    (omega (arith, ap (λ v. v * s) whole, ap (λ v. v * g) whole, mul-le-mul_left r h0, mul-le-mul_left w hf, mul-le-mul_left D mix)) pos

-- the energy of the two corners' ticks is on the line through the two
mixed_energy : (M ca ub cb ua T W h l : ℕ) → ca + M ≡ cb → T * ua + h ≡ W → W + l ≡ T * ub → h * cb + l * ca + T * (cb * ua) ≡ M * W + T * (ca * ub)
mixed_energy M ca ub cb ua T W h l rise low high =
    omega (arith, ap (λ v. cb * v) low, ap (λ v. v * W) rise, ap (λ v. ca * v) high)

mixed_units : (D ua ub T W h l : ℕ) → ua + D ≡ ub → T * ua + h ≡ W → W + l ≡ T * ub → l * ua + h * ub ≡ D * W
mixed_units D ua ub T W h l rise low high =
    omega (arith, ap (λ v. v * ub) low, ap (λ v. v * ua) high, ap (λ v. v * W) rise)

mixed_ticks : (D ua ub T W h l : ℕ) → ua + D ≡ ub → T * ua + h ≡ W → W + l ≡ T * ub → l + h ≡ D * T
mixed_ticks D ua ub T W h l rise low high = omega (arith, ap (λ v. T * v) rise, low, high)

-- if each tick is on or above the line, so are their sums
over_all : (M D s g : ℕ) (m : Table) (xs : List Choice) → AllByRecursion (λ x. M * x.units + s ≤ D * choice_cost m x + g) xs
    → M * total_units xs + length xs * s ≤ D * total_cost m xs + length xs * g
over_all M D s g m [] each = omega arith
over_all M D s g m (x ∷ xs) each =
    omega (
      arith,
      each.0,
      over_all M D s g m xs each.1,
      ap (λ v. M * v) (sum_by-cons (λ (y : Choice). y.units) x xs),
      ap (λ v. D * v) (sum_by-cons (choice_cost m) x xs),
    )

-- two numbers are equal once their difference is added to the smaller
difference : (s g : ℕ) (b : Bool) → nat_lt s g ≡ b → s + (if b then abs_diff s g else 0) ≡ g + (if b then 0 else abs_diff s g)
difference s g true e = let less : s < g = grind (arith, nat_tests) in omega arith
difference s g false e = let le : g ≤ s = grind (arith, nat_tests) in omega arith

module _ (m : Table) (table : IsTable m) (units ticks a b : ℕ) (h : Holds m units ticks a b) where
  -- D and M are the units and the cost by which the high corner exceeds the low one, and s and g make the line
  -- M * units + s = D * cost + g
  abbrev D : ℕ
  D = corner_units m b - corner_units m a

  abbrev M : ℕ
  M = corner_cost m b - corner_cost m a

  abbrev s : ℕ
  s = corner_cost m a * corner_units m b

  abbrev g : ℕ
  g = corner_cost m b * corner_units m a

  order : a < b
  order = units-order m table a b h.low h.high h.slower

  more-units : corner_units m a + D ≡ corner_units m b
  more-units = let less = h.slower in omega arith

  more-cost : corner_cost m a + M ≡ corner_cost m b
  more-cost = let le = cost-climb m table a b (omega (arith, order)) h.high in omega arith

  -- each choice for a tick is on or above the line
  tick-above : (x : Choice) → IsChoice m x → M * x.units + s ≤ D * choice_cost m x + g
  tick-above x c =
      over_line x.units (f - x.units) f M D s g (corner_cost m 0) (corner_cost m (suc x.entry)) (choice_cost m x) whole pos
      (let l = h.supporting 0 (omega arith) in omega arith) (h.supporting (suc x.entry) (omega (arith, c.entry))) mix
    where
      f : ℕ
      f = speed_at m x.entry

      whole : x.units + (f - x.units) ≡ f
      whole = let le = c.units in omega arith

      pos : 0 < f
      pos = let some = (table.each x.entry c.entry).some_speed in omega arith

      heavier : speed_at m 0 * volts m 0 * volts m 0 ≤ f * volts m x.entry * volts m x.entry
      heavier =
          mul-le-mul (mul-le-mul (units-climb m table 1 (suc x.entry) (omega arith) (omega (arith, c.entry)))
          (volts-climb m table 0 x.entry (omega arith) c.entry)) (volts-climb m table 0 x.entry (omega arith) c.entry)

      mix : (f - x.units) * corner_cost m 0 + x.units * corner_cost m (suc x.entry) ≤ f * choice_cost m x
      mix =
          let over = over_mix x.units (f - x.units) f (volts m x.entry) m.idle (speed_at m 0) (volts m 0) heavier in
          omega (arith, over, ap (λ v. (f - x.units) * v) (idle-cost m), ap (λ v. x.units * v) (full-cost m x.entry))

  -- the units are those of the low corner in all ticks, and the rest
  low-ticks : ticks * corner_units m a + (units - ticks * corner_units m a) ≡ units
  low-ticks = let le = h.enough in omega arith

  high-ticks : units + (ticks * corner_units m b - units) ≡ ticks * corner_units m b
  high-ticks = let le = h.within in omega arith

  abbrev mix_energy : ℕ
  mix_energy = (units - ticks * corner_units m a) * corner_cost m b + (ticks * corner_units m b - units) * corner_cost m a

  on-line : mix_energy + ticks * g ≡ M * units + ticks * s
  on-line = mixed_energy M (corner_cost m a) (corner_units m b) (corner_cost m b) (corner_units m a) ticks units
      (units - ticks * corner_units m a) (ticks * corner_units m b - units) more-cost low-ticks high-ticks

  all-above : (xs : List Choice) → AreChoices m xs → M * total_units xs + length xs * s ≤ D * total_cost m xs + length xs * g
  all-above xs each = over_all M D s g m xs (recursion_from_All _ xs (λ k d lt. tick-above _ (each k d lt)))

  pub bounds : BoundsChoices m units ticks (least_of m units ticks a b)
  bounds n xs each long whole =
      omega (
        arith,
        all-above xs each,
        ap (λ v. M * v) whole,
        ap (λ v. v * s) long,
        ap (λ v. v * g) long,
        ap (λ v. n * v) on-line,
      )

  corner-choice : (k : ℕ) → k ≤ last_corner m → IsChoice m (corner m k)
  corner-choice zero le = record { entry = (let some = table.some in omega arith); units = omega arith }
  corner-choice (suc e) le = record { entry = le; units = omega arith }

  abbrev low_part : List Choice
  low_part = replicate (ticks * corner_units m b - units) (corner m a)

  abbrev high_part : List Choice
  high_part = replicate (units - ticks * corner_units m a) (corner m b)

  mixed-sum : (f : Choice → ℕ) → sum_by f (low_part ++ high_part) ≡ (ticks * corner_units m b - units) * f
      (corner m a) + (units - ticks * corner_units m a) * f (corner m b)
  mixed-sum f = grind (arith, nat_tests, sum_by-append, sum_by-replicate, units)

  pub reached : IsReached m units ticks (least_of m units ticks a b)
  reached = record {
    some = (let less = h.slower in omega arith);
    low = a;
    high = b;
    reached = record {
      low_corner = h.low;
      low = refl;
      high_corner = h.high;
      high = refl;
      choices = All-append (IsChoice m) low_part high_part
          (All-replicate (IsChoice m) (ticks * corner_units m b - units) (corner m a) (corner-choice a h.low))
          (All-replicate (IsChoice m) (units - ticks * corner_units m a) (corner m b) (corner-choice b h.high));
      all_ticks =
          length-append low_part high_part
          ∙ (ap₂ (λ v w. v + w) (length-replicate (ticks * corner_units m b - units) (corner m a))
          (length-replicate (units - ticks * corner_units m a) (corner m b))
          ∙ mixed_ticks D (corner_units m a) (corner_units m b) ticks units (units - ticks * corner_units m a)
          (ticks * corner_units m b - units) more-units low-ticks high-ticks);
      all_units =
          mixed-sum (λ (x : Choice). x.units)
          ∙ mixed_units D (corner_units m a) (corner_units m b) ticks units (units - ticks * corner_units m a)
          (ticks * corner_units m b - units) more-units low-ticks high-ticks;
      cost = mixed-sum (choice_cost m) ∙ omega arith;
    };
  }

  pub prices : HavePrices m units ticks (least_of m units ticks a b)
  prices = record {
    each = λ x c. omega (arith, tick-above x c, difference s g (nat_lt s g) refl);
    all = omega (arith, on-line, ap (λ v. v * ticks) (difference s g (nat_lt s g) refl));
  }

module _ (m : Table) (table : IsTable m) (units ticks : ℕ) (l : Least) where
  -- the corners with the low and the high speed are those of the certificate
  pub certified : (a b : ℕ) → a ≤ last_corner m → b ≤ last_corner m → corner_units m a ≡ l.low → corner_units m b ≡ l.high
      → IsCertificate m units ticks l → Holds m units ticks a b × (l ≡ least_of m units ticks a b)
  certified a b al bl low high c = grind (arith, nat_tests, units-same, units)

  -- a bound on the choices for one repetition of the ticks is a bound on the schedules
  bounds-schedules : BoundsChoices m units ticks l → BoundsSchedules m units ticks l
  bounds-schedules bound p dem ask past machine sched long whole =
      let r : CostsItsTicks p past (notes_of p dem ask past) = schedules-cost m table.some p dem ask past machine sched in
      let each : AreChoices m (choices_of p past) = subst (λ (t : Table). AreChoices t (choices_of p past)) machine r.choices in
      let cost : energy_spent (notes_of p dem ask past) ≡ total_cost m (choices_of p past) =
      r.cost ∙ ap (λ (t : Table). total_cost t (choices_of p past)) machine in
      omega (
        arith,
        bound 1 (choices_of p past) each (omega (arith, length-map past (choice_of p), long)) (omega (arith, r.units, whole)),
        ap (λ v. l.rounds * v) cost,
      )

  -- a certificate is one of the least energy
  pub certificate-least : IsCertificate m units ticks l → IsLeast m units ticks l
  certificate-least (a, b, h, e) =
      let choices : BoundsChoices m units ticks l = subst (BoundsChoices m units ticks) (sym e) (bounds m table units ticks a b h) in
      record {
        prices = subst (HavePrices m units ticks) (sym e) (prices m table units ticks a b h);
        choices = choices;
        reached = subst (IsReached m units ticks) (sym e) (reached m table units ticks a b h);
        schedules = bounds-schedules choices;
      }
