use Rattle.std.proofs.Common.{◌≡◌, ◌++◌, replicate, if◌then◌else◌}
use Rattle.xls_strings.specs.Texts.{text_of}
use Rattle.xls_formula_shown.proofs.waiting.push_blanks.Given as goal

abbrev pub invariant-blanks : goal.invariant-blanks
invariant-blanks l = text_of l.out ≡ text_of l.initial.out ++ replicate l.i (if l.fn.space.is_newline then 0x0A else 0x20)
