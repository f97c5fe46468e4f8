use Rattle.std.proofs.Common.{◌∙◌, ap, sym, true, ℕ, List}
use Rattle.xls_bodies.specs.Bodies.{body_of}
use Rattle.xls_defined_names.specs.Fields.{formula_in}
use Rattle.xls_record.specs.declared.version.Biff.{Biff}
use Rattle.xls_shared_formulas.specs.Contents.{bytes_view}
use Rattle.xls_shown_formulas.specs.Books.{Book, first_cell, name_here, scope, text_of_tokens}
use Rattle.xls_shown_formulas.proofs.TellLemmas.{bound, told}
use Rattle.xls_shown_formulas.proofs.book.ShownBook.write_name.Goals as goal

pub returns : goal.returns
returns c =
    let book = c.args.self.now in
    let inside = c.self.inside in
    let offset = c.args.name.now.offset in
    let version = ap (λ (b : Book). b.version) c.self.view_is in
    let stream = ap (λ (b : Book). b.stream) c.self.view_is in
    let read =
    ap (λ (v : Biff). formula_in v (body_of 0 book.stream offset)) (sym version)
    ∙ (ap (λ (s : List ℕ). formula_in inside.version (body_of 0 s offset)) (sym stream)
    ∙ (ap (λ (b : List ℕ). formula_in inside.version b) (sym (c.as_slice.ensures ∙ c.in_ok-record.ensures))
    ∙ c.in_ok-bytes.ensures))
    in
    bound _ c.write_text.result (formula_in book.version (body_of 0 book.stream offset)) (bytes_view c.in_ok-bytes.bytes)
    (text_of_tokens (scope book (name_here book c.args.name.now.sheet) true first_cell)) read
    (told _ c.write_text.result _ _
    (ap (λ (n : ℕ). text_of_tokens (scope book (name_here book n) true first_cell) (bytes_view c.in_ok-bytes.bytes)) c.from.ensures)
    c.write_text.ensures)
