use Rattle.std.proofs.Common.{◌++◌, ap, codes, sym, ◌∙◌}
use Rattle.std.specs.Str.{chars}
use Rattle.std.specs.String.{string_bytes}
use Rattle.std.proofs.lemmas.Result.{on_ok_weaker}
use Rattle.std.proofs.lemmas.Str.{IsUtf8-string_bytes}
use Rattle.xls_formula_names.specs.Prefixes.{named, sheets_prefix}
use Rattle.xls_formula_names.specs.declared.sheets.Sheets.{Sheets}
use Rattle.xls_formula_names.proofs.AppendLemmas.{appended, gone, range_prefix}
use Rattle.xls_formula_names.proofs.sheets.push_sheets.Goals as goal

pub returns-in-Gone-clause-ok : goal.returns-in-Gone-clause-ok
returns-in-Gone-clause-ok c =
    appended c.push_str.result (string_bytes c.args.out.now) (codes "#REF") _ _ (IsUtf8-string_bytes c.args.out.now) c.push_str.ensures.bytes (gone ∙ ap (λ (x : Sheets). sheets_prefix (named x)) (sym c.in-Gone.is))

pub returns-in-Range-clause-ok : goal.returns-in-Range-clause-ok
returns-in-Range-clause-ok c =
    on_ok_weaker c.push_parts-in-Range.result (λ e. e ∙ ap (λ xs. chars (string_bytes c.args.out.now) ++ xs) (range_prefix c.args.sheets c.in-Range.first c.in-Range.last _ c.in-Range.is c.need_quotes-is_quoted.ensures)) c.push_parts-in-Range.ensures.ok
