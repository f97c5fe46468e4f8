use Rattle.std.proofs.Common.{◌≡◌, ◌++◌}
use Rattle.std.specs.Str.{chars}
use Rattle.std.specs.List.{flat_map}
use Rattle.std.specs.String.{string_bytes}
use Rattle.xls_bytes.specs.Growth.{IsGrown}
use Rattle.xls_number_formats.specs.Texts.{shown_token}
use Rattle.xls_number_formats.proofs.shown_texts.append_section.Given as goal

abbrev pub invariant-items : goal.invariant-items
invariant-items l = record {
  shown : chars (string_bytes l.buf) ++ flat_map (shown_token (chars l.text)) l.items
      ≡ chars (string_bytes l.fn.buf) ++ flat_map (shown_token (chars l.text)) l.fn.section;
  grown : IsGrown (string_bytes l.fn.buf) (string_bytes l.buf);
}
