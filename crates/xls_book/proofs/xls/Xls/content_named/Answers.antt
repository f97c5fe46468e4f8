use Rattle.std.proofs.Common.{sym, ap, map, subst, ◌∙◌}
use Rattle.std.specs.List.{AllByRecursion}
use Rattle.std.specs.Str.{chars}
use Rattle.xls_data.specs.Sheets.{sheet_content}
use Rattle.xls_meaning.specs.Reading.{last_named, paired}
use Rattle.xls_open.specs.Workbook.{IsOrdered}
use Rattle.xls_book.proofs.NamedLemmas.{found_holds}
use Rattle.xls_book.proofs.xls.Xls.content_named.Goals as goal

pub returns-clause-found : goal.returns-clause-found
returns-clause-found c =
    let name = chars c.args.name.now in
    rw (← c.self.view_is)
    (c.find_named.ensures
    ∙ ap (λ ss. last_named (paired (map sheet_content ss) c.deref-2.result.now) name) c.deref.ensures.value
    ∙ ap (λ vs. last_named (paired (map sheet_content c.self.inside.metadata.sheets.items) vs) name) c.deref-2.ensures.value)

pub returns-clause-ordered : goal.returns-clause-ordered
returns-clause-ordered c =
    found_holds IsOrdered (map sheet_content c.deref.result.now) c.deref-2.result.now (chars c.args.name.now) c.find_named.result
    (subst (AllByRecursion IsOrdered) (sym c.deref-2.ensures.value) c.self.invariant.2) c.find_named.ensures
