use Rattle.std.proofs.Common.{sym, ap, ◌∙◌, rules, arith}
use Rattle.std.specs.Char.Utf16.{utf16_lossy_chars}
use Rattle.std.proofs.lemmas.Bool.{false≢true}
use Rattle.xls_strings.proofs.TextLemmas.{text_spelled}
use Rattle.xls_strings.proofs.SstLemmas.{next_lighter, reading_fails, texts_more}
use Rattle.xls_strings.proofs.sst.read_table.Goals as goal

pub table-smaller : goal.table-smaller
table-smaller c =
    let x = c.in_ok-next_string.ensures in
    omega (arith, next_lighter c.table.text c.next_string.new.text x.0 x.2)

pub table-preserved : goal.table-preserved
table-preserved c =
    let l = c.table in
    texts_more c.args.text l.text c.next_string.new.text l.invariant.0 l.strings c.push_text.new.self c.clear.new.self.items c.next_string.new.units.items _ l.invariant.1 l.invariant.2 c.clear.ensures.items c.in_ok-next_string.ensures (text_spelled c.in_ok-string.string _ c.in_ok-string.ensures ∙ ap utf16_lossy_chars c.deref.ensures.value) c.in_ok-push_text.ensures.ok

pub returns-in_err-next_string : goal.returns-in_err-next_string
returns-in_err-next_string c =
    search (rules, reading_fails c.in_err-next_string.field-0.0 c.args.text c.table.invariant.0 c.table.text c.table.invariant.1 (λ e. false≢true (sym c.table-test.true ∙ c.is_over.ensures.1 e)) c.in_err-next_string.ensures)
