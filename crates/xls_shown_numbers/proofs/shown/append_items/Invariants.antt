use Rattle.std.proofs.Common.{◌≡◌, ◌++◌, length}
use Rattle.std.specs.Str.{chars}
use Rattle.std.specs.String.{string_bytes}
use Rattle.xls_bytes.specs.Growth.{IsGrown}
use Rattle.xls_shown_numbers.specs.Numbers.{value}
use Rattle.xls_shown_numbers.specs.Parts.{tokens_left, filled}
use Rattle.xls_shown_numbers.specs.Plain.{none_seen, text_from}
use Rattle.xls_shown_numbers.proofs.PlainLemmas.{IsWithin}
use Rattle.xls_shown_numbers.proofs.shown.append_items.Given as goal

abbrev pub invariant-items : goal.invariant-items
invariant-items l = record {
  shown : chars (string_bytes l.text) ++ text_from l.plain (value l.n) l.seen (filled l.fills l.seen (tokens_left l.items))
      ≡ chars (string_bytes l.fn.text) ++ text_from l.plain (value l.n) none_seen (filled l.fills none_seen (tokens_left l.fn.items));
  grown : IsGrown (string_bytes l.fn.text) (string_bytes l.text);
  within : IsWithin l.seen (length (tokens_left l.items)) (length (tokens_left l.fn.items));
}
