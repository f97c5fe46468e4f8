use Rattle.std.proofs.Common.{◌≡◌, ◌++◌, length}
use Rattle.std.specs.Str.{chars}
use Rattle.std.specs.String.{string_bytes}
use Rattle.xls_bytes.specs.Growth.{IsGrown}
use Rattle.xls_shown_fractions.specs.Roles.{at_start}
use Rattle.xls_shown_fractions.specs.Shown.{mixed}
use Rattle.xls_shown_fractions.specs.Texts.{text_from}
use Rattle.xls_shown_fractions.proofs.RoleLemmas.{IsWithin}
use Rattle.xls_shown_fractions.proofs.texts.append_ratio.Given as goal

abbrev pub invariant-items : goal.invariant-items
invariant-items l = record {
  shown : chars (string_bytes l.text) ++ text_from l.fraction (mixed l.ratio) l.look l.spot l.items
      ≡ chars (string_bytes l.fn.text) ++ text_from l.fraction (mixed l.ratio) l.look at_start l.fn.section;
  grown : IsGrown (string_bytes l.fn.text) (string_bytes l.text);
  within : IsWithin l.spot (length l.items) (length l.fn.section);
}
