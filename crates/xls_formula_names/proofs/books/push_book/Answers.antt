use Rattle.std.proofs.Common.{◌++◌, ap, ◌∙◌}
use Rattle.std.specs.Str.{chars}
use Rattle.std.specs.String.{string_bytes}
use Rattle.std.proofs.lemmas.Result.{on_ok_weaker}
use Rattle.xls_formula_names.proofs.AppendLemmas.{book_is, gone_tail, one_tail, range_tail}
use Rattle.xls_formula_names.proofs.books.push_book.Goals as goal

pub returns-in-Gone-clause-ok : goal.returns-in-Gone-clause-ok
returns-in-Gone-clause-ok c =
    on_ok_weaker c.push_parts.result (λ e. e ∙ ap (λ xs. chars (string_bytes c.args.out.now) ++ xs) (book_is c.args.dir.now c.args.file.now _ c.args.sheets _ (gone_tail c.args.sheets c.in-Gone.is) c.needs_quotes_with-is_quoted.ensures)) c.push_parts.ensures.ok

pub returns-in-One-clause-ok : goal.returns-in-One-clause-ok
returns-in-One-clause-ok c =
    on_ok_weaker c.push_parts-in-One.result (λ e. e ∙ ap (λ xs. chars (string_bytes c.args.out.now) ++ xs) (book_is c.args.dir.now c.args.file.now _ c.args.sheets _ (one_tail c.args.sheets c.in-One.name c.in-One.is) c.needs_quotes_with-is_quoted.ensures)) c.push_parts-in-One.ensures.ok

pub returns-in-Range-clause-ok : goal.returns-in-Range-clause-ok
returns-in-Range-clause-ok c =
    on_ok_weaker c.push_parts-in-Range.result (λ e. e ∙ ap (λ xs. chars (string_bytes c.args.out.now) ++ xs) (book_is c.args.dir.now c.args.file.now _ c.args.sheets _ (range_tail c.args.sheets c.in-Range.first c.in-Range.last c.in-Range.is) c.needs_quotes_with-is_quoted.ensures)) c.push_parts-in-Range.ensures.ok
