-- The printed texts of kinds and refusals.
use Rattle.std.specs.Prelude.{ℕ, List, ◌++◌, codes}
use Rattle.xls_compound.specs.Errors.{error_text}
use Rattle.xls_container.specs.declared.kind.FileKind.{FileKind}
use Rattle.xls_container.specs.declared.kind.FileKind.TheVariants as kinds
use Rattle.xls_container.specs.declared.fault.FileFault.{FileFault}
use Rattle.xls_container.specs.declared.fault.FileFault.TheVariants as faults

abbrev pub kind_text : FileKind → List ℕ
kind_text kinds.Empty = codes "it is empty"
kind_text kinds.Zip = codes "it is a ZIP file, as .xlsx, .xlsb and .ods are"
kind_text kinds.Html = codes "it is HTML or XML text"
kind_text kinds.Mhtml = codes "it is MHTML text"
kind_text kinds.Sylk = codes "it is a SYLK file"
kind_text kinds.RichText = codes "it is RTF text"
kind_text kinds.Pdf = codes "it is a PDF file"
kind_text kinds.Excel2 = codes "it is a worksheet of Excel 2, which isn't read"
kind_text kinds.Excel3 = codes "it is a worksheet of Excel 3, which isn't read"
kind_text kinds.Excel4 = codes "it is a worksheet of Excel 4, which isn't read"
kind_text kinds.Other = codes "it begins with other bytes"

abbrev pub fault_text : FileFault → List ℕ
fault_text (faults.Kind kind) = codes "no workbook: " ++ kind_text kind
fault_text (faults.Compound error) = codes "a damaged compound file: " ++ error_text error
fault_text faults.NoWorkbook = codes "it has no stream Workbook or Book"
fault_text faults.Memory = codes "Out of memory"
