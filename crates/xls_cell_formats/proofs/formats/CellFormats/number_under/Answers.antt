use Rattle.std.proofs.Common.{ℕ, List, Bool, ap, ◌∙◌}
use Rattle.xls_data.specs.Numeric.{numeric_content}
use Rattle.xls_view.specs.Viewing.{Viewed}
use Rattle.xls_cell_formats.specs.CellCodes.{code_of_identifier, code_of_xf}
use Rattle.xls_cell_formats.specs.Numbers.{content_under}
use Rattle.xls_cell_formats.proofs.formats.CellFormats.number_under.Goals as goal

pub returns-in-Some : goal.returns-in-Some
returns-in-Some c =
    let xf = c.args.xf in
    let w = c.self.view_is in
    let code =
    c.in-Some.ensures (code_of_identifier c.self.inside.view.now.codes) c.self.invariant.1
    ∙ ap (code_of_identifier c.self.inside.view.now.codes) c.identifier_of-identifier.ensures
    ∙ ap (λ (v : Viewed). code_of_xf v.codes v.identifiers xf) w in
    let epoch = c.has_1904_epoch-is_1904.ensures ∙ ap (λ (v : Viewed). v.book.is_1904) w in
    let number = numeric_content c.args.number in
    c.numeric_under.ensures
    ∙ ap (λ (cs : List ℕ). content_under cs c.has_1904_epoch-is_1904.result number) code
    ∙ ap (λ (b : Bool). content_under (code_of_xf c.args.self.now.codes c.args.self.now.identifiers xf) b number) epoch
