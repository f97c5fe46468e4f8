use Rattle.std.proofs.Common.{◌≡◌, ◌+◌, ◌-◌, ◌^◌, arith, sym, pos}
use Rattle.std.specs.Prelude.{◌-ℤ◌}
use Rattle.std.proofs.Common.{to_z, of_z, w16}
use Rattle.std.proofs.lemmas.Int.{ints}
use Rattle.xls_rounding.proofs.ScaleLemmas.{scale_above, scale_below, scale_keeps, size_at}
use Rattle.xls_rounding.proofs.DecimalLemmas.{between_at, whole_at}
use Rattle.xls_rounding.proofs.doubles.rounded_size.Goals as goal

pub twice_at-twice-requires-in-up-clause-scale : goal.twice_at-twice-requires-in-up-clause-scale
twice_at-twice-requires-in-up-clause-scale c =
    let l = c.up in
    scale_above c.args.mantissa c.args.exponent l.scale c.requires.least c.requires.exponent.0 l.invariant.0 (rw l.invariant.1 at c.up-test.true)

pub up-smaller : goal.up-smaller
up-smaller c =
    let l = c.up in
    let more = scale_above c.args.mantissa c.args.exponent l.scale c.requires.least c.requires.exponent.0 l.invariant.0 (rw l.invariant.1 at c.up-test.true) in
    omega arith

pub up-preserved : goal.up-preserved
up-preserved c =
    let l = c.up in (
      scale_above c.args.mantissa c.args.exponent l.scale c.requires.least c.requires.exponent.0 l.invariant.0 (rw l.invariant.1 at c.up-test.true),
      c.twice_at-twice-in-up.ensures,
    )

pub overflow_sub-scale-in-down : goal.overflow_sub-scale-in-down
overflow_sub-scale-in-down c =
    let l = c.down in
    scale_below c.args.mantissa c.args.exponent l.scale c.requires.most c.requires.exponent.1 (rw l.invariant.1 at c.down-test.true)

pub down-smaller : goal.down-smaller
down-smaller c =
    let l = c.down in
    let some = scale_below c.args.mantissa c.args.exponent l.scale c.requires.most c.requires.exponent.1 (rw l.invariant.1 at c.down-test.true) in
    omega arith

pub down-preserved : goal.down-preserved
down-preserved c =
    let l = c.down in
    let high = rw l.invariant.1 at c.down-test.true in
    let some = scale_below c.args.mantissa c.args.exponent l.scale c.requires.most c.requires.exponent.1 high in
    let keeps = scale_keeps c.args.mantissa c.args.exponent l.scale some high in
    (omega arith, c.twice_at-twice-in-down.ensures, rw c.twice_at-twice-in-down.ensures keeps)

pub returns-clause-exact : goal.returns-clause-exact
returns-clause-exact c =
    let l = c.down in
    let m : 2 ^ 52 + (c.args.mantissa - 2 ^ 52) ≡ c.args.mantissa = omega arith in
    let z : to_z w16 (of_z w16 (pos 308 -ℤ to_z w16 l.scale)) ≡ pos 308 -ℤ pos l.scale = omega (arith, ints) in
    let is = size_at c.args.mantissa c.args.exponent l.scale l.twice l.invariant.0 l.invariant.1 l.invariant.2 (omega arith) in
    rw (z, m) (sym is)

pub returns-clause-scale : goal.returns-clause-scale
returns-clause-scale c =
    let l = c.down in
    let m : 2 ^ 52 + (c.args.mantissa - 2 ^ 52) ≡ c.args.mantissa = omega arith in
    let z : to_z w16 (of_z w16 (pos 308 -ℤ to_z w16 l.scale)) ≡ pos 308 -ℤ pos l.scale = omega (arith, ints) in
    rw (z, m) (between_at c.args.mantissa c.args.exponent l.scale l.twice l.invariant.1 l.invariant.2 (omega arith))

pub returns-clause-whole : goal.returns-clause-whole
returns-clause-whole c = λ n small same.
    let l = c.down in
    let m : 2 ^ 52 + (c.args.mantissa - 2 ^ 52) ≡ c.args.mantissa = omega arith in
    let z : to_z w16 (of_z w16 (pos 308 -ℤ to_z w16 l.scale)) ≡ pos 308 -ℤ pos l.scale = omega (arith, ints) in
    rw z (whole_at c.args.mantissa c.args.exponent l.scale l.twice n l.invariant.1 l.invariant.2 (omega arith) small (rw m at same))
