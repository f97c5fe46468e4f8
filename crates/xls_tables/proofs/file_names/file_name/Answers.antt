use Rattle.std.proofs.Common.{ℕ, List, subst, sym, length, ◌≤◌}
use Rattle.std.specs.Str.{chars}
use Rattle.std.proofs.lemmas.Result.{IfOk-weaker}
use Rattle.xls_tables.specs.FileNames.{IsSafeName}
use Rattle.xls_tables.proofs.NameLemmas.{name_safe, name_short}
use Rattle.xls_tables.proofs.file_names.file_name.Goals as goal

pub returns-clause-safe : goal.returns-clause-safe
returns-clause-safe c =
    let safe = name_safe c.args.number (chars c.args.sheet.now) c.ranges.number.fits in
    IfOk-weaker c.named.result _ _ (λ text e. subst IsSafeName (sym e) safe) c.named.ensures

pub returns-clause-short : goal.returns-clause-short
returns-clause-short c =
    let short = name_short c.args.number (chars c.args.sheet.now) c.ranges.number.fits in
    IfOk-weaker c.named.result _ _ (λ text e. subst (λ (l : List ℕ). length l ≤ 211) (sym e) short) c.named.ensures
