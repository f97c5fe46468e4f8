use Rattle.std.proofs.Common.{◌≡◌, ap, sym, ◌∙◌, List, ℕ, Some, Option, subst, encode_utf8_all}
use Rattle.std.specs.Global.{Vec}
use Rattle.std.specs.Char.Utf16.{utf16_lossy_chars}
use Rattle.xls_stream.specs.StringTable.{Mark, prefix_of, units_at}
use Rattle.xls_strings.proofs.TextLemmas.{text_spelled}
use Rattle.xls_other_books.specs.Strings.{TakesUnits, head_at, head_view, units_behind}
use Rattle.xls_other_books.proofs.marked.read_text.Goals as goal

pub returns-clause-text : goal.returns-clause-text
returns-clause-text c =
    let ms = c.args.text.now.marks in
    let h = c.in-Some.head in
    let units = c.in-Some-2.units in
    let after = c.read_units.new.text.marks in
    let head : head_at (prefix_of ms) ≡ Some (head_view h) = sym (c.in-Some.ensures.is ∙ ap head_at c.at_hand.ensures) in
    let read = subst (λ (found : Option (Vec ℕ)). TakesUnits (units_at h.count h.is_wide c.skip.new.self.marks) found after) c.in-Some-2.is c.in_ok-units.ensures.units in
    let behind = sym (ap (λ (left : List Mark). units_at h.count h.is_wide left) c.skip.ensures.marks) ∙ read in
    let text = text_spelled c.in_ok-text_of_units.field-0 (utf16_lossy_chars units.items) (c.in_ok-text_of_units.ensures ∙ ap (λ (us : List ℕ). encode_utf8_all (utf16_lossy_chars us)) c.deref.ensures.value) in
    (units.items, ap (units_behind ms) head ∙ behind, text)
