use Rattle.std.proofs.Common.{◌≡◌, length}
use Rattle.xls_number_formats.specs.Sections.{kinds}
use Rattle.xls_shown_fractions.specs.Roles.{at_start, spot_all}
use Rattle.xls_shown_fractions.proofs.RoleLemmas.{IsWithin}
use Rattle.xls_shown_fractions.proofs.needs.spot_all.Given as goal

abbrev pub invariant-items : goal.invariant-items
invariant-items l = record {
  all : spot_all l.spot (kinds l.items) ≡ spot_all at_start (kinds l.fn.section);
  within : IsWithin l.spot (length l.items) (length l.fn.section);
}
