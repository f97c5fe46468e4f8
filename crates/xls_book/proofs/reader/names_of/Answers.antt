use Rattle.std.proofs.Common.{◌≡◌, ap, string_bytes, ◌∙◌}
use Rattle.std.specs.Str.{chars}
use Rattle.std.proofs.lemmas.Result.{IfOk-at_ok}
use Rattle.xls_strings.specs.Texts.{text_of}
use Rattle.xls_view.proofs.IndexLemmas.{names_next}
use Rattle.xls_book.proofs.reader.names_of.Goals as goal

pub loop-sheet-preserved : goal.loop-sheet-preserved
loop-sheet-preserved c =
    let l = c.loop-sheet in
    let copied = IfOk-at_ok (λ s. string_bytes s ≡ c.as_str.result.now) c.in_ok-name.was c.from_str.ensures.ok in
    names_next text_of c.args.sheets.now l.sheet-index c.sheet-item.result l.names.items c.push.new.self.items c.in_ok-name.name c.loop-sheet-test.true c.sheet-item.is l.invariant c.in_ok-push.ensures.items (ap chars (copied ∙ c.as_str.ensures.value))
