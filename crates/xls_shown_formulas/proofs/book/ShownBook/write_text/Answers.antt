use Rattle.std.proofs.Common.{◌∙◌, ap, true}
use Rattle.xls_formula_books.specs.Prefixes.{Here}
use Rattle.xls_formula_shown.specs.Scope.{Scope}
use Rattle.xls_formula_shown.specs.ShownFold.{shown_text}
use Rattle.xls_shown_formulas.specs.Books.{first_cell, name_here, scope}
use Rattle.xls_shown_formulas.proofs.NameLemmas.{some_tokens}
use Rattle.xls_shown_formulas.proofs.TellLemmas.{told}
use Rattle.xls_shown_formulas.proofs.book.ShownBook.write_text.Goals as goal

pub returns : goal.returns
returns c =
    let tokens = c.args.bytes.tokens.now in
    let extra = c.args.bytes.extra.now in
    let scope_is = c.scope-scope.ensures ∙ ap (λ (h : Here). scope c.args.self.now h true first_cell) c.here.ensures in
    told _ c.write_own.result _ _ (ap (λ (s : Scope). shown_text s tokens extra) scope_is ∙ some_tokens (scope c.args.self.now (name_here c.args.self.now c.args.sheet) true first_cell) tokens extra c.if-is_empty.ensures)
    c.write_own.ensures
