use Rattle.std.proofs.Common.{◌≡◌, ◌++◌, take}
use Rattle.std.specs.List.{flat_map}
use Rattle.std.specs.String.{string_bytes}
use Rattle.xls_bytes.specs.Growth.{IsGrown}
use Rattle.xls_rounding.proofs.formula_numbers.append_parts.Given as goal

abbrev pub invariant-loop-part : goal.invariant-loop-part
invariant-loop-part l =
    (string_bytes l.text ≡ string_bytes l.fn.text ++ flat_map (λ part. part.now) (take l.part-index l.parts))
    × IsGrown (string_bytes l.fn.text) (string_bytes l.text)
