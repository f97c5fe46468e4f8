-- What a workbook tells of a sheet, its name as a list of characters.
use Rattle.std.specs.Prelude.{ℕ, List}
use Rattle.std.specs.String.{string_bytes}
use Rattle.std.specs.Str.{chars}
use Rattle.xls_data.specs.declared.sheets.Sheet.{Sheet}
use Rattle.xls_data.specs.declared.sheets.SheetType.{SheetType}
use Rattle.xls_data.specs.declared.sheets.SheetVisible.{SheetVisible}

-- name, kind and visibility
pub record SheetContent : Type 0 where
  pub name : List ℕ
  pub typ : SheetType
  pub visible : SheetVisible

-- the content of a sheet's description
abbrev pub sheet_content : Sheet → SheetContent
sheet_content s = record { name = chars (string_bytes s.name); typ = s.typ; visible = s.visible }
