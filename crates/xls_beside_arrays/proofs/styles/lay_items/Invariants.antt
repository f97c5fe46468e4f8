use Rattle.std.proofs.Common.{◌-◌, length, map}
use Rattle.std.specs.List.{range_with_len}
use Rattle.xls_beside_arrays.proofs.LaidLemmas.{IsPartly}
use Rattle.xls_beside_arrays.proofs.styles.lay_items.Given as goal
use Rattle.xls_beside_arrays.specs.Styles.{with_style}
use Rattle.xls_styles.specs.Styles.{style_of}

-- the styles so far are laid
abbrev pub invariant-loop-i : goal.invariant-loop-i
invariant-loop-i l =
    let count = length l.styles.xfs in
    IsPartly with_style (map (style_of l.styles) (range_with_len 0 count)) (map (style_of l.styles) (range_with_len l.i (count - l.i)))
    l.fn.rooms l.rooms
