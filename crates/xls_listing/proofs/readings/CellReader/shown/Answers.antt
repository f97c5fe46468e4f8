use Rattle.std.proofs.Common.{ap, subst, sym, ◌∙◌}
use Rattle.std.specs.Str.{chars}
use Rattle.xls_data.specs.Refs.{ref_content_of}
use Rattle.xls_cell_formats.specs.CellCodes.{code_of_xf}
use Rattle.xls_cell_formats.specs.Contents.{IsContentShown}
use Rattle.xls_listing.proofs.ReadingLemmas.{shown_alone}
use Rattle.xls_listing.proofs.readings.CellReader.shown.Goals as goal

pub returns : goal.returns
returns c =
    let view = c.in-Shown.formats in
    let shown = IsContentShown (code_of_xf view.codes view.identifiers c.args.xf) view.book.is_1904 (ref_content_of c.args.value.now) in
    rw c.in-Shown.is
    (subst (λ bytes. shown (chars bytes)) (sym c.as_str.ensures.value)
    (shown_alone shown _ _ c.clear.ensures.bytes c.in_ok-push_shown.ensures.ok))
