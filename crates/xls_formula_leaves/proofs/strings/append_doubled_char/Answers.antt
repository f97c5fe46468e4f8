use Rattle.std.proofs.Common.{codes, rules, encode_utf8}
use Rattle.std.specs.Char.{IsScalar}
use Rattle.std.specs.String.{string_bytes}
use Rattle.std.proofs.lemmas.Str.{IsUtf8-encode}
use Rattle.xls_formula_leaves.proofs.LeafLemmas.{grown_by, once, pushed, twice}
use Rattle.xls_formula_leaves.proofs.strings.append_doubled_char.Goals as goal

pub returns-then-c-eq34-clause-ok : goal.returns-then-c-eq34-clause-ok
returns-then-c-eq34-clause-ok c =
    pushed c.push_str.result c.args.out.now c.push_str.new.self (codes "\"\"") _ c.push_str.ensures.bytes (twice c.args.c (search rules))

pub returns-clause-ok : goal.returns-clause-ok
returns-clause-ok c =
    pushed c.push.result c.args.out.now c.push.new.self (encode_utf8 c.args.c) _ c.push.ensures.bytes (once c.args.c (search rules)
    (search rules))

pub returns-clause-grown : goal.returns-clause-grown
returns-clause-grown c =
    let scalar : IsScalar c.args.c = search rules in
    grown_by c.push.result (string_bytes c.args.out.now) (encode_utf8 c.args.c) _ (IsUtf8-encode c.args.c scalar) c.push.ensures.bytes
