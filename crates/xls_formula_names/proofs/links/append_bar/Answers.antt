use Rattle.std.proofs.Common.{codes}
use Rattle.std.specs.String.{string_bytes}
use Rattle.std.proofs.lemmas.Str.{IsUtf8-string_bytes}
use Rattle.xls_formula_names.proofs.AppendLemmas.{appended, one_bar}
use Rattle.xls_formula_names.proofs.links.append_bar.Goals as goal

pub returns-clause-ok : goal.returns-clause-ok
returns-clause-ok c = appended c.push_str.result (string_bytes c.args.out.now) (codes "|") _ _ (IsUtf8-string_bytes c.args.out.now) c.push_str.ensures.bytes one_bar
