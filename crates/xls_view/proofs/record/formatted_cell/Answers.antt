use Rattle.std.proofs.Common.{◌∷◌, [], sym, ap, ◌∙◌}
use Rattle.std.specs.Option.{option_map}
use Rattle.xls_stream.specs.Listing.{kept_group}
use Rattle.xls_biff.specs.Walking.{group_of}
use Rattle.xls_meaning.specs.SheetTable.{listed_cell}
use Rattle.xls_view.specs.Formats.{FormattedCell, with_format, with_formats, xf_in}
use Rattle.xls_view.specs.Values.{bare_entry}
use Rattle.xls_view.proofs.record.formatted_cell.Goals as goal

pub returns-in-Some : goal.returns-in-Some
returns-in-Some c = λ none.
    let xf = xf_in c.args.last.xf (kept_group (group_of c.args.r.now)) in
    let cell = bare_entry c.in-Some.cell in
    ap (λ (x : FormattedCell). x ∷ []) (c.with_format.ensures ∙ ap (with_format cell) c.xf_in.ensures)
    ∙ ap (with_formats xf 0) (ap (λ o. listed_cell (option_map bare_entry o)) (sym c.in-Some.is) ∙ c.single_cell.ensures none)

pub returns-in-None : goal.returns-in-None
returns-in-None c = λ none.
    let xf = xf_in c.args.last.xf (kept_group (group_of c.args.r.now)) in
    ap (with_formats xf 0) (ap (λ o. listed_cell (option_map bare_entry o)) (sym c.in-None.is) ∙ c.single_cell.ensures none)
