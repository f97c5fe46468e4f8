use Rattle.std.proofs.Common.{◌≡◌, ◌++◌}
use Rattle.std.specs.Str.{chars}
use Rattle.xls_number_formats.specs.Grammar.{items}
use Rattle.xls_number_formats.specs.SectionItems.{tokens_of}
use Rattle.xls_number_formats.specs.Walk.{items_left}
use Rattle.xls_number_formats.proofs.section_items.SectionItems.new.Given as goal

-- the items that are kept, and those left
abbrev pub invariant-items : goal.invariant-items
invariant-items l = tokens_of l.kept.items ++ items_left l.items ≡ items (chars l.fn.code)
