use Rattle.std.proofs.Common.{sym, ap, subst, ◌∙◌}
use Rattle.xls_range.specs.Grid.{IsRange}
use Rattle.xls_open.specs.Opening.{IsOpened, default_options}
use Rattle.xls_open.specs.Workbook.{view_named}
use Rattle.xls_command.proofs.BuildLemmas.{name_chars}
use Rattle.xls_command.proofs.RangeLemmas.{sample_shows}
use Rattle.xls_command.proofs.summary.summary_of.Goals as goal

-- the range is that of the sheet of the workbook that the stream opens to
pub summary_in-requires-clause-sample : goal.summary_in-requires-clause-sample
summary_in-requires-clause-sample c =
    let book = c.in-Ok.book in
    let opened = subst (IsOpened default_options book) (c.new-source.ensures ∙ c.in_ok-sample_bytes.ensures) c.in-Ok.ensures.ok in
    let displayed = c.in-Ok-worksheet_range.ensures.range in
    sample_shows c.args.rows c.requires.least c.requires.most book opened displayed.0 (sym (ap (view_named book) name_chars) ∙ displayed.1) c.in-Ok-worksheet_range.range (subst IsRange c.range.view_is c.range.invariant) displayed.2
