use Rattle.std.proofs.Common.{◌≡◌, ◌+◌, ◌∙◌, sym, ap, length, arith}
use Rattle.xls_lay.specs.Writing.{saturated, canonical_size}
use Rattle.xls_lay.specs.Entries.{entries_in}
use Rattle.xls_lay.specs.Cutting.{globals_from, parts_from}
use Rattle.xls_lay.proofs.WholeLemmas.{whole_length}
use Rattle.xls_lay.proofs.length.canonical_length.Goals as goal

pub returns : goal.returns
returns c =
    let list = entries_in c.entries-entries.result.now in
    let sum : c.saturating_add.result ≡ saturated (length (globals_from 0 list) + length (parts_from list)) = omega (arith, c.saturating_add.ensures, c.globals_length.ensures, c.parts_length.ensures) in
    sum ∙ ap saturated (sym (whole_length list)) ∙ ap canonical_size c.entries-entries.ensures.same
