use Rattle.std.proofs.Common.{codes}
use Rattle.std.specs.String.{string_bytes}
use Rattle.xls_readable.specs.Lines.{custom_members}
use Rattle.xls_documents.specs.Lines.{IsLineText}
use Rattle.xls_output.proofs.EachLemmas.{puts-memory, puts-one}
use Rattle.xls_documents.proofs.properties.put_custom.Goals as goal

pub returns-in_err-push_custom : goal.returns-in_err-push_custom
returns-in_err-push_custom g c = puts-memory (IsLineText c.args.form) _ _ _ _ _ c.from_residual.result c.from_residual.ensures.1

pub returns : goal.returns
returns g c =
    puts-one (IsLineText c.args.form) (codes "custom", custom_members (string_bytes c.args.name.now) (string_bytes c.args.value.now)) _ _ _ _ _
    c.pass.result (rw (c.as_str.ensures.value, c.as_str-2.ensures.value) at c.in_ok-push_custom.ensures.ok) c.pass.ensures.puts
