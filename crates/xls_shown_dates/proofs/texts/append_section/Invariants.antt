use Rattle.std.proofs.Common.{◌≡◌, ◌++◌, drop}
use Rattle.std.specs.Str.{chars}
use Rattle.std.specs.List.{flat_map}
use Rattle.std.specs.String.{string_bytes}
use Rattle.xls_bytes.specs.Growth.{IsGrown}
use Rattle.xls_shown_dates.specs.Fields.{letters, first, fields, fields_from}
use Rattle.xls_shown_dates.specs.Texts.{field_text}
use Rattle.xls_shown_dates.proofs.texts.append_section.Given as goal

abbrev pub invariant-items : goal.invariant-items
invariant-items l = record {
  shown : chars (string_bytes l.text) ++ flat_map (λ f. field_text l.clock l.moment f.0 f.1) (fields_from l.before l.zeros l.items)
      ≡ chars (string_bytes l.fn.text) ++ flat_map (λ f. field_text l.clock l.moment f.0 f.1) (fields l.fn.section);
  grown : IsGrown (string_bytes l.fn.text) (string_bytes l.text);
  behind : l.behind ≡ first (letters l.items);
  ahead : letters l.ahead ≡ drop 1 (letters l.items);
}
