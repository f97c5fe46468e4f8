use Rattle.std.specs.String.{string_bytes}
use Rattle.std.proofs.Common.{codes}
use Rattle.xls_readable.specs.Items.{item_of}
use Rattle.xls_readable.specs.Lines.{cell_members}
use Rattle.xls_readable.specs.declared.forms.Form.TheVariants.{Text, Json}
use Rattle.xls_listing.proofs.ReadingLemmas.{adds_shown}
use Rattle.xls_listing.proofs.forms.push_with_shown.Goals as goal

pub returns-in-Text-clause-ok : goal.returns-in-Text-clause-ok
returns-in-Text-clause-ok c = rw c.in-Text.is (λ s is.
    adds_shown Text (codes "cell") (cell_members c.args.position.0 c.args.position.1 c.args.kind.now (item_of c.args.field.now)) s
    c.args.text.now (string_bytes c.args.buf.now) _ c.push_shown_cell.result c.utf8.text is c.push_shown_cell.ensures.ok)

pub returns-in-Json-clause-ok : goal.returns-in-Json-clause-ok
returns-in-Json-clause-ok c = rw c.in-Json.is (λ s is.
    adds_shown Json (codes "cell") (cell_members c.args.position.0 c.args.position.1 c.args.kind.now (item_of c.args.field.now)) s
    c.args.text.now (string_bytes c.args.buf.now) _ c.push_shown_cell-in-Json.result c.utf8.text is c.push_shown_cell-in-Json.ensures.ok)
