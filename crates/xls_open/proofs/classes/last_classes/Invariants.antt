use Rattle.std.proofs.Common.{◌≡◌, ℕ, map, take}
use Rattle.std.specs.Ordering.{nat_cmp}
use Rattle.std.specs.BTreeMap.{get}
use Rattle.xls_meaning.specs.Settings.{last_class, classed}
use Rattle.xls_open.specs.Workbook.{code_texts}
use Rattle.xls_open.proofs.classes.last_classes.Given as goal

-- the classes of the formats so far
abbrev pub invariant-loop-format : goal.invariant-loop-format
invariant-loop-format l = (ifmt : ℕ) → get nat_cmp l.classes ifmt ≡ last_class (classed (map code_texts (take l.format-index l.codes))) ifmt
