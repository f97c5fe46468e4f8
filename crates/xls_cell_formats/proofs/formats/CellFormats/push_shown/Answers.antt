use Rattle.std.proofs.Common.{ℕ, List, Bool, OnOk, ap, subst, ◌∙◌}
use Rattle.std.specs.Str.{chars}
use Rattle.std.specs.String.{string_bytes}
use Rattle.xls_data.specs.Refs.{ref_content_of}
use Rattle.xls_shown.specs.Shown.{Gains}
use Rattle.xls_view.specs.Viewing.{Viewed}
use Rattle.xls_cell_formats.specs.CellCodes.{code_of_identifier, code_of_xf}
use Rattle.xls_cell_formats.specs.Contents.{IsContentShown}
use Rattle.xls_cell_formats.proofs.formats.CellFormats.push_shown.Goals as goal

pub returns-in-Some-clause-ok : goal.returns-in-Some-clause-ok
returns-in-Some-clause-ok c =
    let xf = c.args.xf in
    let w = c.self.view_is in
    let code =
    c.in-Some.ensures (code_of_identifier c.self.inside.view.now.codes) c.self.invariant.1
    ∙ ap (code_of_identifier c.self.inside.view.now.codes) c.identifier_of-identifier.ensures
    ∙ ap (λ (v : Viewed). code_of_xf v.codes v.identifiers xf) w in
    let epoch = c.has_1904_epoch-is_1904.ensures ∙ ap (λ (v : Viewed). v.book.is_1904) w in
    let value = ref_content_of c.args.value.now in
    let gains = λ (cs : List ℕ) (b : Bool). OnOk c.push_content.result (Gains (IsContentShown cs b value)
    (chars (string_bytes c.args.buf.now)) (chars (string_bytes c.push_content.new.buf))) in
    subst (gains (code_of_xf c.args.self.now.codes c.args.self.now.identifiers xf)) epoch
    (subst (λ (cs : List ℕ). gains cs c.has_1904_epoch-is_1904.result) code c.push_content.ensures.ok)
