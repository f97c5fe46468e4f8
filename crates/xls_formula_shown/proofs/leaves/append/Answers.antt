use Rattle.std.specs.String.{string_bytes}
use Rattle.std.proofs.lemmas.Str.{IsUtf8-string_bytes}
use Rattle.xls_formula_books.proofs.TextLemmas.{appended}
use Rattle.xls_formula_shown.proofs.leaves.append.Goals as goal

pub returns : goal.returns
returns c = appended c.push_str.result (string_bytes c.args.leaf.now) c.args.text.now _ (IsUtf8-string_bytes c.args.leaf.now) c.push_str.ensures.bytes
