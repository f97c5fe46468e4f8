use Rattle.std.proofs.Common.{◌≡◌, ◌+◌, ◌≤◌, ◌||◌, length}
use Rattle.xls_number_formats.specs.Sections.{kinds}
use Rattle.xls_shown_numbers.specs.Parts.{part_of, tokens_left}
use Rattle.xls_shown_numbers.specs.Plain.{none_seen, grouping_from, thousands_from}
use Rattle.xls_shown_numbers.proofs.PlainLemmas.{IsWithin}
use Rattle.xls_shown_numbers.proofs.plain.read_part.Given as goal

abbrev pub invariant-items : goal.invariant-items
invariant-items l = record {
  thousands : l.thousands + thousands_from l.all l.seen (kinds (tokens_left l.items)) ≡ thousands_from l.all none_seen (kinds (part_of l.fn.part l.fn.section));
  grouping : (l.grouping || grouping_from l.all l.seen (kinds (tokens_left l.items))) ≡ grouping_from l.all none_seen (kinds (part_of l.fn.part l.fn.section));
  counted : l.thousands + length (tokens_left l.items) ≤ length (part_of l.fn.part l.fn.section);
  within : IsWithin l.seen (length (tokens_left l.items)) (length (part_of l.fn.part l.fn.section));
}
