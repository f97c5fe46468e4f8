-- What a file is, by its first bytes.
use Rattle.std.specs.Prelude.{ℕ, List, [], ◌∷◌, ◌++◌, take, drop, length, codes, nat_eq, Bool, if◌then◌else◌}
use Rattle.std.specs.Char.{is_ascii_whitespace}
use Rattle.std.specs.List.{starts_with, prefix_len}
use Rattle.std.specs.Str.{str_eq_ignore_ascii_case}
use Rattle.xls_sectors.specs.Header.{signature}
use Rattle.xls_container.specs.declared.kind.FileKind.{FileKind}
use Rattle.xls_container.specs.declared.kind.FileKind.TheVariants as kinds

-- the file begins with these bytes
abbrev pub begins_with : List ℕ → List ℕ → Bool
begins_with mark file = starts_with nat_eq file mark

-- with the signature of a compound file ([MS-CFB] 2.2)
abbrev pub is_compound : List ℕ → Bool
is_compound file = begins_with signature file

-- its first record has the type of a workbook's BOF, 0809 ([MS-XLS] 2.4.21)
abbrev pub is_bare : List ℕ → Bool
is_bare file = begins_with (0x09 ∷ 0x08 ∷ []) file

-- the mark of UTF-8
abbrev pub byte_order_mark : List ℕ
byte_order_mark = 0xEF ∷ 0xBB ∷ 0xBF ∷ []

abbrev pub without_byte_order_mark : List ℕ → List ℕ
without_byte_order_mark file = if begins_with byte_order_mark file then drop 3 file else file

-- without the white space of ASCII at its start
abbrev pub without_white_space : List ℕ → List ℕ
without_white_space text = drop (prefix_len is_ascii_whitespace text) text

-- HTML or XML text: `<` after white space
abbrev pub is_markup : List ℕ → Bool
is_markup file = begins_with (codes "<") (without_white_space (without_byte_order_mark file))

-- MHTML text begins with this field, in either case (RFC 2045, section 4)
abbrev pub MIME_VERSION : List ℕ
MIME_VERSION = codes "MIME-Version:"

abbrev pub is_mime : List ℕ → Bool
is_mime file = str_eq_ignore_ascii_case (take (length MIME_VERSION) file) MIME_VERSION

-- how files of other kinds begin. Worksheets of Excel 2, 3 and 4 begin with a BOF of the type 0009, 0209 or 0409
abbrev pub MARKS : List (List ℕ × FileKind)
MARKS =
    (codes "PK" ++ 0x03 ∷ 0x04 ∷ [], kinds.Zip)
    ∷ (codes "PK" ++ 0x05 ∷ 0x06 ∷ [], kinds.Zip)
    ∷ (codes "ID;", kinds.Sylk)
    ∷ (codes "{\\rtf", kinds.RichText)
    ∷ (codes "%PDF", kinds.Pdf)
    ∷ (0x09 ∷ 0x00 ∷ [], kinds.Excel2)
    ∷ (0x09 ∷ 0x02 ∷ [], kinds.Excel3)
    ∷ (0x09 ∷ 0x04 ∷ [], kinds.Excel4) ∷ []

-- the kind of the first mark with which the file begins
abbrev pub marked_kind : List (List ℕ × FileKind) → List ℕ → FileKind
marked_kind [] file = kinds.Other
marked_kind (mark ∷ marks) file = if begins_with mark.0 file then mark.1 else marked_kind marks file

-- the kind of a file that is neither a compound file nor a workbook's stream
abbrev pub kind_of : List ℕ → FileKind
kind_of [] = kinds.Empty
kind_of (byte ∷ bytes) =
    if is_markup (byte ∷ bytes) then kinds.Html
    else if is_mime (byte ∷ bytes) then kinds.Mhtml
    else marked_kind MARKS (byte ∷ bytes)
