-- What formulas cite, by what is in force.
use Rattle.std.proofs.Common.{◌≡◌, ℕ, List, Option, Some, Result, OnOk, ap, subst, sym, ◌∙◌}
use Rattle.std.specs.List.{fold}
use Rattle.xls_record.specs.declared.version.Biff.{Biff}
use Rattle.xls_text.specs.declared.encoding.XlsEncoding.{XlsEncoding}
use Rattle.xls_other_books.specs.Formulas.{Outside}
use Rattle.xls_other_books.specs.Links.{Links, links_of}
use Rattle.xls_parts.specs.PartRecords.{globals_records}
use Rattle.xls_beside.specs.declared.parts.SheetPart.{SheetPart}
use Rattle.xls_beside_arrays.specs.Filled.{Lays}
use Rattle.xls_beside_arrays.specs.Opened.{things_if}
use Rattle.xls_beside_arrays.specs.Outside.{cited_in, outside_in, with_outside}
use Rattle.xls_beside_arrays.specs.declared.items.OutsideItem.{OutsideItem}
use Rattle.xls_beside_arrays.specs.declared.opening.OpenedSheet.{OpenedSheet}
use Rattle.xls_beside_arrays.specs.declared.rooms.Rooms.{Rooms}

pub part-laid : {X E : Type 0} (sheet : OpenedSheet) (part : SheetPart) (stream : List ℕ) (links : Links) (version : Biff)
    (page : XlsEncoding) (r s : Rooms OutsideItem) (done : Result X E) → sheet.part ≡ Some part
    → links ≡ links_of version page (globals_records stream)
    → version ≡ sheet.globals.version → page ≡ sheet.globals.page
    → OnOk done (Lays r s (λ a. fold with_outside a (cited_in links stream part)))
    → OnOk done (Lays r s (λ a. fold with_outside a (things_if (outside_in sheet.globals stream) sheet.part)))
part-laid sheet part stream links version page r s done here is v p laid =
    let linked : links ≡ links_of sheet.globals.version sheet.globals.page (globals_records stream) =
    is ∙ ap (λ (w : Biff). links_of w page (globals_records stream)) v
    ∙ ap (λ (e : XlsEncoding). links_of sheet.globals.version e (globals_records stream)) p in
    let cited : cited_in links stream part ≡ things_if (outside_in sheet.globals stream) sheet.part =
    ap (λ (l : Links). cited_in l stream part) linked
    ∙ ap (λ (o : Option SheetPart). things_if (outside_in sheet.globals stream) o) (sym here) in
    subst (λ (os : List (Option Outside)). OnOk done (Lays r s (λ a. fold with_outside a os))) cited laid
