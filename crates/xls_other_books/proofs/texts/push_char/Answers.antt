use Rattle.std.proofs.Common.{rules, encode_utf8}
use Rattle.std.specs.String.{string_bytes}
use Rattle.std.proofs.lemmas.Str.{IsUtf8-string_bytes}
use Rattle.xls_other_books.proofs.PathLemmas.{appended, char_text}
use Rattle.xls_other_books.proofs.texts.push_char.Goals as goal

pub returns : goal.returns
returns c = appended c.push.result (string_bytes c.args.out.now) (encode_utf8 c.args.c) _ _ (IsUtf8-string_bytes c.args.out.now) c.push.ensures.bytes (char_text c.args.c (search rules))
