-- Values that the formats give, so that a wrong rule in the specs does not check.
use Rattle.std.proofs.Common.{ℕ, ◌≡◌, [], ◌∷◌, ◌++◌, map, codes, true, false, zero, suc, sym, ap, ◌∙◌, refl, arith}
use Rattle.xls_container.specs.Kinds.{begins_with, is_compound, is_bare, kind_of}
use Rattle.xls_container.specs.Obfuscation.{OBFUSCATION, LOOKED_AT, after_record, after_records, IsObfuscated}
use Rattle.xls_container.specs.Texts.{kind_text, fault_text}
use Rattle.xls_container.specs.declared.kind.FileKind.TheVariants.{Empty, Zip, Html, Mhtml, Sylk, RichText, Pdf, Excel2, Excel3, Excel4, Other}
use Rattle.xls_container.specs.declared.fault.FileFault.TheVariants as faults

-- all eight bytes of a compound file's signature
pub compounds : map is_compound ((0xD0 ∷ 0xCF ∷ 0x11 ∷ 0xE0 ∷ 0xA1 ∷ 0xB1 ∷ 0x1A ∷ 0xE1 ∷ 0 ∷ [])
    ∷ (0xD0 ∷ 0xCF ∷ 0x11 ∷ 0xE0 ∷ 0xA1 ∷ 0xB1 ∷ 0x1A ∷ []) ∷ []) ≡ true ∷ false ∷ []
compounds = refl

-- a BOF of BIFF8 ([MS-XLS] 2.4.21) in a stream alone, and one of Excel 4
pub bare : map is_bare ((0x09 ∷ 0x08 ∷ 0x10 ∷ 0x00 ∷ 0x00 ∷ 0x06 ∷ []) ∷ (0x09 ∷ 0x04 ∷ 0x06 ∷ 0x00 ∷ []) ∷ (0x09 ∷ []) ∷ [])
    ≡ true ∷ false ∷ false ∷ []
bare = refl

pub archives : map kind_of ((0x50 ∷ 0x4B ∷ 0x03 ∷ 0x04 ∷ 0x14 ∷ []) ∷ (0x50 ∷ 0x4B ∷ 0x05 ∷ 0x06 ∷ []) ∷ (0x50 ∷ 0x4B ∷ []) ∷ [])
    ≡ Zip ∷ Zip ∷ Other ∷ []
archives = refl

pub texts : map kind_of (codes "<html>" ∷ codes "\r\n\t <?xml?>" ∷ (0xEF ∷ 0xBB ∷ 0xBF ∷ codes "<table>") ∷ codes "a<b" ∷ codes " "
    ∷ codes "MIME-Version: 1.0" ∷ codes "mime-version:" ∷ codes "MIME-Version" ∷ codes "ID;PWXL" ∷ codes "{\\rtf1" ∷ codes "%PDF-1.4" ∷ [])
    ≡ Html ∷ Html ∷ Html ∷ Other ∷ Other ∷ Mhtml ∷ Mhtml ∷ Other ∷ Sylk ∷ RichText ∷ Pdf ∷ []
texts = refl

pub worksheets : map kind_of ((0x09 ∷ 0x00 ∷ 0x04 ∷ 0x00 ∷ []) ∷ (0x09 ∷ 0x02 ∷ 0x06 ∷ 0x00 ∷ []) ∷ (0x09 ∷ 0x04 ∷ 0x06 ∷ 0x00 ∷ []) ∷ (0x09 ∷ []) ∷ [] ∷ [])
    ≡ Excel2 ∷ Excel3 ∷ Excel4 ∷ Other ∷ Empty ∷ []
worksheets = refl

-- the body of a record of 3 bytes ends before byte 7; a record that is cut has nothing after it
pub after : map after_record ((0x09 ∷ 0x08 ∷ 0x03 ∷ 0x00 ∷ 1 ∷ 2 ∷ 3 ∷ 4 ∷ 5 ∷ []) ∷ (0x09 ∷ 0x08 ∷ 0x03 ∷ 0x00 ∷ 1 ∷ []) ∷ (0x09 ∷ []) ∷ [])
    ≡ (4 ∷ 5 ∷ []) ∷ [] ∷ [] ∷ []
after = refl

pub second : after_records 2 ((0x09 ∷ 0x08 ∷ 0x01 ∷ 0x00 ∷ 1 ∷ []) ++ ((0x2F ∷ 0x00 ∷ 0x00 ∷ 0x00 ∷ []) ++ OBFUSCATION)) ≡ OBFUSCATION
second = refl

-- XOR obfuscation with a key and a verifier, after a BOF
pub obfuscated : IsObfuscated ((0x09 ∷ 0x08 ∷ 0x01 ∷ 0x00 ∷ 1 ∷ []) ++ (0x2F ∷ 0x00 ∷ 0x06 ∷ 0x00 ∷ 0x00 ∷ 0x00 ∷ 0x59 ∷ 0xB3 ∷ 0x0A ∷ 0x9A ∷ []))
obfuscated = record { before = 1; is_early = omega arith; begins = refl }

-- a stream without a record isn't
nothing_after : (count : ℕ) → after_records count [] ≡ []
nothing_after zero = refl
nothing_after (suc count) = ap after_record (nothing_after count)

pub plain : IsObfuscated [] → ⊥
plain h = absurd (let e : false ≡ true = ap (begins_with OBFUSCATION) (sym (nothing_after h.before)) ∙ h.begins in cc e)

pub looked_at : LOOKED_AT ≡ 100
looked_at = refl

pub kinds : map kind_text (Empty ∷ Zip ∷ Html ∷ Mhtml ∷ Sylk ∷ RichText ∷ Pdf ∷ Excel2 ∷ Excel3 ∷ Excel4 ∷ Other ∷ [])
    ≡ codes "it is empty" ∷ codes "it is a ZIP file, as .xlsx, .xlsb and .ods are" ∷ codes "it is HTML or XML text"
    ∷ codes "it is MHTML text" ∷ codes "it is a SYLK file" ∷ codes "it is RTF text" ∷ codes "it is a PDF file"
    ∷ codes "it is a worksheet of Excel 2, which isn't read" ∷ codes "it is a worksheet of Excel 3, which isn't read"
    ∷ codes "it is a worksheet of Excel 4, which isn't read" ∷ codes "it begins with other bytes" ∷ []
kinds = refl

pub refusals : map fault_text (faults.Kind Zip ∷ faults.NoWorkbook ∷ faults.Memory ∷ [])
    ≡ codes "no workbook: it is a ZIP file, as .xlsx, .xlsb and .ods are" ∷ codes "it has no stream Workbook or Book" ∷ codes "Out of memory" ∷ []
refusals = refl
