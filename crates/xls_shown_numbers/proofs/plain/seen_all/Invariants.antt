use Rattle.std.proofs.Common.{◌≡◌, length}
use Rattle.xls_number_formats.specs.Sections.{kinds}
use Rattle.xls_shown_numbers.specs.Parts.{tokens_left}
use Rattle.xls_shown_numbers.specs.Plain.{seen_all, none_seen}
use Rattle.xls_shown_numbers.proofs.PlainLemmas.{IsWithin}
use Rattle.xls_shown_numbers.proofs.plain.seen_all.Given as goal

abbrev pub invariant-items : goal.invariant-items
invariant-items l = record {
  all : seen_all l.seen (kinds (tokens_left l.items)) ≡ seen_all none_seen (kinds (tokens_left l.fn.items));
  within : IsWithin l.seen (length (tokens_left l.items)) (length (tokens_left l.fn.items));
}
