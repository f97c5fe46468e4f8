use Rattle.std.proofs.Common.{codes, rules, encode_utf8}
use Rattle.std.specs.String.{string_bytes}
use Rattle.std.proofs.lemmas.Str.{IsUtf8-string_bytes}
use Rattle.xls_formula_names.proofs.AppendLemmas.{appended}
use Rattle.xls_formula_names.proofs.PathLemmas.{folder, folder_above, other_char}
use Rattle.xls_formula_names.proofs.paths.append_spelled_char.Goals as goal

pub returns-then-c-eq3 : goal.returns-then-c-eq3
returns-then-c-eq3 c = appended c.push_str.result (string_bytes c.args.out.now) (codes "\\") _ _ (IsUtf8-string_bytes c.args.out.now) c.push_str.ensures.bytes (folder c.args.c (search rules))

pub returns-then-c-eq4 : goal.returns-then-c-eq4
returns-then-c-eq4 c = appended c.push_str-then-c-eq4.result (string_bytes c.args.out.now) (codes "..\\") _ _ (IsUtf8-string_bytes c.args.out.now) c.push_str-then-c-eq4.ensures.bytes (folder_above c.args.c (search rules))

pub returns : goal.returns
returns c = appended c.push.result (string_bytes c.args.out.now) (encode_utf8 c.args.c) _ _ (IsUtf8-string_bytes c.args.out.now) c.push.ensures.bytes (other_char c.args.c (search rules) (search rules) (search rules))
