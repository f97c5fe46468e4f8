use Rattle.std.proofs.Common.{codes, rules, encode_utf8}
use Rattle.std.specs.Char.{IsScalar}
use Rattle.std.specs.String.{string_bytes}
use Rattle.std.proofs.lemmas.Str.{IsUtf8-encode, IsUtf8-string_bytes}
use Rattle.xls_formula_names.proofs.AppendLemmas.{appended, grown_by, once, twice}
use Rattle.xls_formula_names.proofs.appends.append_doubled_char.Goals as goal

pub returns-then-c-eq39-clause-ok : goal.returns-then-c-eq39-clause-ok
returns-then-c-eq39-clause-ok c =
    appended c.push_str.result (string_bytes c.args.out.now) (codes "''") _ _ (IsUtf8-string_bytes c.args.out.now) c.push_str.ensures.bytes (twice c.args.c (search rules))

pub returns-clause-ok : goal.returns-clause-ok
returns-clause-ok c =
    appended c.push.result (string_bytes c.args.out.now) (encode_utf8 c.args.c) _ _ (IsUtf8-string_bytes c.args.out.now) c.push.ensures.bytes (once c.args.c (search rules) (search rules))

pub returns-clause-grown : goal.returns-clause-grown
returns-clause-grown c =
    let scalar : IsScalar c.args.c = search rules in
    grown_by c.push.result (string_bytes c.args.out.now) (encode_utf8 c.args.c) _ (IsUtf8-encode c.args.c scalar) c.push.ensures.bytes
