use Rattle.std.proofs.Common.{rules}
use Rattle.std.specs.String.{string_bytes}
use Rattle.std.proofs.lemmas.Str.{IsUtf8-string_bytes}
use Rattle.xls_readable.proofs.GrowthLemmas.{grows_split}
use Rattle.xls_readable.proofs.cell_lines.CellLines.push_exact.Goals as goal

pub truncate-requires : goal.truncate-requires
truncate-requires c = λ _. grows_split (string_bytes c.args.buf.now)
    (string_bytes c.append_exact-done.new.buf) c.len-before.result
    c.append_exact-done.ensures.grown (IsUtf8-string_bytes c.args.buf.now)
    (IsUtf8-string_bytes c.append_exact-done.new.buf) (search rules)
