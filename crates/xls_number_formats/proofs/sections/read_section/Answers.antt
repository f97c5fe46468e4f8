use Rattle.std.proofs.Common.{◌≡◌, [], ap, sym, ◌∙◌}
use Rattle.std.specs.Str.{chars}
use Rattle.xls_number_formats.specs.Grammar.{items}
use Rattle.xls_number_formats.specs.Walk.{items_left}
use Rattle.xls_number_formats.specs.Sections.{kinds}
use Rattle.xls_number_formats.specs.Scans.{scan_all, no_items, section_by}
use Rattle.xls_number_formats.proofs.ScanLemmas.{section_by_all}
use Rattle.xls_number_formats.proofs.sections.read_section.Goals as goal

pub returns-clause-section : goal.returns-clause-section
returns-clause-section c =
    let none : items_left c.items.items ≡ [] = c.in_default.ensures.steps.0 in
    let all : c.items.scan ≡ scan_all no_items (kinds (items (chars c.args.code.now))) = sym (ap (λ ts. scan_all c.items.scan (kinds ts)) none) ∙ c.items.invariant.scan in
    c.section_by.ensures ∙ ap section_by all ∙ section_by_all (kinds (items (chars c.args.code.now)))
