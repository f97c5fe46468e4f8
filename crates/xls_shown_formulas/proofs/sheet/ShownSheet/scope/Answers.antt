use Rattle.std.proofs.Common.{◌∙◌, ap, false}
use Rattle.xls_formula_books.specs.Prefixes.{Here}
use Rattle.xls_shown_formulas.specs.Books.{Book, scope}
use Rattle.xls_shown_formulas.specs.Sheets.{Sheet}
use Rattle.xls_shown_formulas.proofs.sheet.ShownSheet.scope.Goals as goal

pub returns : goal.returns
returns c =
    let book = ap (λ (s : Sheet). s.book) c.self.view_is in
    c.scope.ensures ∙ (ap (λ (b : Book). scope b c.here.result false c.args.at) book
    ∙ ap (λ (h : Here). scope c.args.self.now.book h false c.args.at) c.here.ensures)
