-- All that records refer to, in their order. An ExternName belongs to the last SupBook before it, or before BIFF8 to the last ExternSheet.
use Rattle.std.specs.Prelude.{List, [], ◌∷◌, ◌++◌, ◌==◌, if◌then◌else◌}
use Rattle.xls_parts.specs.PartRecords.{Placed}
use Rattle.xls_text.specs.declared.encoding.XlsEncoding.{XlsEncoding}
use Rattle.xls_record.specs.declared.version.Biff.{Biff}
use Rattle.xls_record.specs.declared.version.Biff.TheVariants.{Biff5, Biff8}
use Rattle.xls_stream.specs.declared.types.TheConstants.{EXTERN_SHEET}
use Rattle.xls_other_books.specs.declared.types.TheConstants.{EXTERN_NAME, SUP_BOOK}
use Rattle.xls_other_books.specs.Strings.{continues}
use Rattle.xls_formula_books.specs.ExternNames.{Name, name_of}
use Rattle.xls_formula_books.specs.Sources.{Source, with_names}
use Rattle.xls_formula_books.specs.SheetRefs.{sheet_ref}
use Rattle.xls_formula_books.specs.SupBooks.{sup_book}

-- a name more of the last one
abbrev pub with_name : Name → List Source → List Source
with_name name [] = []
with_name name (s ∷ []) = with_names (s.names ++ name ∷ []) s ∷ []
with_name name (s ∷ t ∷ ss) = s ∷ with_name name (t ∷ ss)

abbrev pub with_other : Biff → XlsEncoding → Placed → List Source → List Source
with_other version page r sources =
    if r.typ == EXTERN_NAME then with_name (name_of version page r.body) sources else sources

-- those of BIFF8, behind some
abbrev pub sup_books : XlsEncoding → List Source → List Placed → List Source
sup_books page sources [] = sources
sup_books page sources (r ∷ rs) =
    if r.typ == SUP_BOOK then sup_books page (sources ++ sup_book r.body (continues rs) ∷ []) rs
    else sup_books page (with_other Biff8 page r sources) rs

-- those before BIFF8
abbrev pub with_early : XlsEncoding → Placed → List Source → List Source
with_early page r sources =
    if r.typ == EXTERN_SHEET then sources ++ sheet_ref page r.body ∷ [] else with_other Biff5 page r sources

abbrev pub sheet_refs : XlsEncoding → List Source → List Placed → List Source
sheet_refs page sources [] = sources
sheet_refs page sources (r ∷ rs) = sheet_refs page (with_early page r sources) rs
