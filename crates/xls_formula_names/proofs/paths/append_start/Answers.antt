use Rattle.std.proofs.Common.{codes, rules}
use Rattle.std.specs.Char.{IsScalar}
use Rattle.std.specs.String.{string_bytes}
use Rattle.std.proofs.lemmas.Str.{IsUtf8-string_bytes}
use Rattle.xls_formula_names.proofs.AppendLemmas.{appended}
use Rattle.xls_formula_names.proofs.PathLemmas.{drive_text, root, share}
use Rattle.xls_formula_names.proofs.paths.append_start.Goals as goal

pub returns-in-Share : goal.returns-in-Share
returns-in-Share c = appended c.push_str.result (string_bytes c.args.out.now) (codes "\\\\") _ _ (IsUtf8-string_bytes c.args.out.now) c.push_str.ensures.bytes (share c.args.start c.in-Share.is)

pub returns-in_ok-push-in-Drive : goal.returns-in_ok-push-in-Drive
returns-in_ok-push-in-Drive c =
    let scalar : IsScalar c.in-Drive.letter = search rules in
    drive_text c.push_str-in-Drive.result (string_bytes c.args.out.now) (string_bytes c.push.new.self) _ c.args.start c.in-Drive.letter
    (IsUtf8-string_bytes c.args.out.now) (IsUtf8-string_bytes c.push.new.self) scalar c.in-Drive.is c.in_ok-push-in-Drive.ensures.bytes c.push_str-in-Drive.ensures.bytes

pub returns-in-Root : goal.returns-in-Root
returns-in-Root c = appended c.push_str-in-Root.result (string_bytes c.args.out.now) (codes "\\") _ _ (IsUtf8-string_bytes c.args.out.now) c.push_str-in-Root.ensures.bytes (root c.args.start c.in-Root.is)
