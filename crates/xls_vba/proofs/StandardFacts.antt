-- Values that [MS-OVBA] gives, so that a wrong rule in the specs does not check.
use Rattle.std.proofs.Common.{◌≡◌, ℕ, List, [], ◌∷◌, ◌++◌, length, map, None, Some, Ok, Err, true, false, refl}
use Rattle.std.specs.Prelude.{codes, replicate}
use Rattle.std.specs.List.{concat}
use Rattle.std.specs.Fmt.{digits}
use Rattle.xls_text.specs.declared.encoding.XlsEncoding.TheVariants.{Windows1252}
use Rattle.xls_text.specs.declared.error.CfbError.TheVariants.{CodePageNotFound}
use Rattle.xls_vba.specs.declared.error.VbaError.TheVariants as errors
use Rattle.xls_vba.specs.declared.error.VbaPart.TheVariants as parts
use Rattle.xls_vba.specs.Errors.{part_text, vba_error_text}
use Rattle.xls_vba.specs.Fields.{u16_from, id_from, skip, var_from, rec_from, skip_rec, skip_4a, information_from, header_from}
use Rattle.xls_vba.specs.Libids.{at_last_hash, parted, says_nothing}
use Rattle.xls_vba.specs.Items.{after_mark, named, registered, control, project, text_from, libid_from, named_from, original_from, extended_from, second_from, control_from, registered_from, project_from, item_from}
use Rattle.xls_vba.specs.Modules.{Mod, rec_text_from, skip_47, offset_from, cookie_from, kind_from, end_from, names_from, module_from, modules_part}
use Rattle.xls_vba.specs.Project.{last_module}
use Rattle.xls_vba.specs.References.{references_of}

-- a number that isn't there, and one that differs
cut_short : u16_from (0x16 ∷ []) ≡ Err errors.Truncated
cut_short = refl

another_record : id_from 0x3E (0x16 ∷ 0 ∷ []) ≡ Err (errors.InvalidRecordId 0x3E 0x16)
unfolding id_from
another_record = refl

-- a length and its bytes, the low byte first
two_bytes : var_from (2 ∷ 0 ∷ 0 ∷ 0 ∷ 7 ∷ 8 ∷ 9 ∷ []) ≡ Ok (7 ∷ 8 ∷ [], 9 ∷ [])
unfolding var_from
two_bytes = refl

-- a libid: the last part, and the one before it
libid : parted (at_last_hash (codes "v#p#d")) ≡ Ok (Some (codes "p", codes "d"))
libid = refl

two_parts : parted (at_last_hash (codes "p#d")) ≡ Ok (Some (codes "p", codes "d"))
two_parts = refl

no_hash : parted (at_last_hash (codes "A")) ≡ Err errors.LibId
no_hash = refl

-- what changes nothing
empty_libid : says_nothing [] ≡ true
empty_libid = refl

two_hashes : says_nothing (codes "p##") ≡ true
two_hashes = refl

one_hash : says_nothing (codes "p#") ≡ false
one_hash = refl

-- a path with its mark, and one without
marked : after_mark (codes "*\\CC:\\a") ≡ codes "C:\\a"
marked = refl

unmarked : after_mark (codes "*\\DC:\\a") ≡ codes "*\\DC:\\a"
unmarked = refl

-- a private module: the number 0028, and the terminator
private : end_from (0 ∷ 0 ∷ 0 ∷ 0 ∷ 0x28 ∷ 0 ∷ 0 ∷ 0 ∷ 0 ∷ 0 ∷ 0x2B ∷ 0 ∷ 0 ∷ 0 ∷ 0 ∷ 0 ∷ 1 ∷ []) ≡ Ok (1 ∷ [])
unfolding skip
private = refl

another_end : end_from (0 ∷ 0 ∷ 0 ∷ 0 ∷ 0x26 ∷ 0 ∷ []) ≡ Err (errors.Unknown parts.RecordId 0x26)
another_end = refl

-- a name, a libid, and a path that stays; an empty name isn't listed
listing : references_of (registered (Some (codes "q", codes "e")) ∷ named (codes "a") ∷ registered (Some (codes "p", codes "d"))
    ∷ registered (Some (codes "q", codes "e")) ∷ named [] ∷ named (codes "b") ∷ project (codes "x") ∷ [])
    ≡ record { name = codes "a"; description = codes "e"; path = codes "p" } ∷ record { name = codes "b"; description = codes "b"; path = codes "x" } ∷ []
listing = refl

-- a length and bytes, and a record of a number
abbrev counted : List ℕ → List ℕ
counted bytes = length bytes ∷ 0 ∷ 0 ∷ 0 ∷ bytes

abbrev numbered : ℕ → List ℕ → List ℕ
numbered number bytes = number ∷ 0 ∷ counted bytes

-- a header under page 1252 (04E4), with some bytes after its first record, and one byte after it
abbrev header_with : List ℕ → List ℕ
header_with more = concat (numbered 0x01 (1 ∷ 0 ∷ 0 ∷ 0 ∷ []) ∷ more
    ∷ numbered 0x02 (9 ∷ 4 ∷ 0 ∷ 0 ∷ []) ∷ numbered 0x14 (9 ∷ 4 ∷ 0 ∷ 0 ∷ []) ∷ numbered 0x03 (0xE4 ∷ 0x04 ∷ [])
    ∷ numbered 0x04 (codes "P") ∷ numbered 0x05 (codes "D") ∷ numbered 0x40 (0x44 ∷ 0 ∷ []) ∷ numbered 0x06 (codes "H") ∷ numbered 0x3D (codes "H")
    ∷ numbered 0x07 (0 ∷ 0 ∷ 0 ∷ 0 ∷ []) ∷ numbered 0x08 (0 ∷ 0 ∷ 0 ∷ 0 ∷ []) ∷ (0x09 ∷ 0 ∷ 4 ∷ 0 ∷ 0 ∷ 0 ∷ 1 ∷ 2 ∷ 3 ∷ 4 ∷ 5 ∷ 6 ∷ [])
    ∷ numbered 0x0C (codes "C") ∷ numbered 0x3C (0x43 ∷ 0 ∷ []) ∷ (0xFF ∷ []) ∷ [])

-- PROJECTCOMPATVERSION, the record 004A, may be left out, and no other may stand there
headers : map (λ more. header_from (header_with more)) ([] ∷ numbered 0x4A (1 ∷ 2 ∷ 3 ∷ 4 ∷ []) ∷ [])
    ≡ Ok (Windows1252, 0xFF ∷ []) ∷ Ok (Windows1252, 0xFF ∷ []) ∷ []
unfolding header_from information_from skip skip_4a skip_rec rec_from var_from id_from lib.Utf8.encode
headers = refl

-- each of the reference items: the end, a name, an original, a control without and with a name, a registered one, a project
reference_items : map (item_from Windows1252) (
    (0x0F ∷ 0 ∷ 0xFF ∷ [])
    ∷ concat (numbered 0x16 (codes "N") ∷ numbered 0x3E (0x4E ∷ 0 ∷ []) ∷ (0xFF ∷ []) ∷ [])
    ∷ concat (numbered 0x33 (codes "a#p#d") ∷ (0xFF ∷ []) ∷ [])
    ∷ concat ((0x2F ∷ 0 ∷ 0 ∷ 0 ∷ 0 ∷ 0 ∷ []) ∷ counted (codes "##") ∷ (0 ∷ 0 ∷ 0 ∷ 0 ∷ 0 ∷ 0 ∷ [])
    ∷ (0x30 ∷ 0 ∷ 0 ∷ 0 ∷ 0 ∷ 0 ∷ []) ∷ counted (codes "a#p#d") ∷ replicate 26 0 ∷ (0xFF ∷ []) ∷ [])
    ∷ concat ((0x2F ∷ 0 ∷ 0 ∷ 0 ∷ 0 ∷ 0 ∷ []) ∷ counted (codes "##") ∷ (0 ∷ 0 ∷ 0 ∷ 0 ∷ 0 ∷ 0 ∷ [])
    ∷ numbered 0x16 (codes "N") ∷ numbered 0x3E (0x4E ∷ 0 ∷ [])
    ∷ (0x30 ∷ 0 ∷ 0 ∷ 0 ∷ 0 ∷ 0 ∷ []) ∷ counted (codes "a#p#d") ∷ replicate 26 0 ∷ (0xFF ∷ []) ∷ [])
    ∷ concat ((0x0D ∷ 0 ∷ 0 ∷ 0 ∷ 0 ∷ 0 ∷ []) ∷ counted (codes "a#p#d") ∷ (0 ∷ 0 ∷ 0 ∷ 0 ∷ 0 ∷ 0 ∷ 0xFF ∷ []) ∷ [])
    ∷ concat ((0x0E ∷ 0 ∷ 0 ∷ 0 ∷ 0 ∷ 0 ∷ []) ∷ counted (codes "*\\Cp") ∷ counted (codes "*\\Cq") ∷ (0 ∷ 0 ∷ 0 ∷ 0 ∷ 0 ∷ 0 ∷ 0xFF ∷ []) ∷ [])
    ∷ [])
    ≡ Ok (None, 0xFF ∷ [])
    ∷ Ok (Some (named (codes "N")), 0xFF ∷ [])
    ∷ Ok (Some (registered (Some (codes "p", codes "d"))), 0xFF ∷ [])
    ∷ Ok (Some (control None (Some (codes "p", codes "d"))), 0xFF ∷ [])
    ∷ Ok (Some (control None (Some (codes "p", codes "d"))), 0xFF ∷ [])
    ∷ Ok (Some (registered (Some (codes "p", codes "d"))), 0xFF ∷ [])
    ∷ Ok (Some (project (codes "p")), 0xFF ∷ []) ∷ []
unfolding item_from named_from original_from control_from second_from extended_from registered_from project_from text_from libid_from skip skip_rec rec_from var_from id_from lib.Utf8.encode
reference_items = refl

-- a module whose type is the record of a number, which is read-only and private
abbrev module_of_kind : ℕ → List ℕ
module_of_kind kind = concat (numbered 0x19 (codes "m") ∷ numbered 0x47 (0x6D ∷ 0 ∷ []) ∷ numbered 0x1A (codes "s") ∷ numbered 0x32 (0x73 ∷ 0 ∷ [])
    ∷ numbered 0x1C (codes "d") ∷ numbered 0x48 (0x64 ∷ 0 ∷ []) ∷ numbered 0x31 (5 ∷ 1 ∷ 0 ∷ 0 ∷ [])
    ∷ numbered 0x1E (0 ∷ 0 ∷ 0 ∷ 0 ∷ []) ∷ numbered 0x2C (0xFF ∷ 0xFF ∷ []) ∷ numbered kind [] ∷ numbered 0x25 [] ∷ numbered 0x28 []
    ∷ numbered 0x2B [] ∷ [])

-- a module, as it is listed
abbrev known_module : Mod
known_module = record { name = codes "m"; stream_name = codes "s"; text_offset = 0x105 }

-- the types are the records 0021 and 0022
kinds : map (λ kind. module_from Windows1252 (module_of_kind kind ++ 0xFF ∷ [])) (0x20 ∷ 0x21 ∷ 0x22 ∷ 0x23 ∷ [])
    ≡ Err (errors.Unknown parts.ModuleKind 0x20) ∷ Ok (known_module, 0xFF ∷ []) ∷ Ok (known_module, 0xFF ∷ [])
    ∷ Err (errors.Unknown parts.ModuleKind 0x23) ∷ []
unfolding module_from names_from rec_text_from skip_47 offset_from cookie_from kind_from skip skip_rec rec_from var_from id_from lib.Utf8.encode
kinds = refl

-- modules behind their count and the record 0013
counted_modules : modules_part Windows1252 (concat ((2 ∷ 0 ∷ 0 ∷ 0 ∷ 2 ∷ 0 ∷ []) ∷ numbered 0x13 (0xFF ∷ 0xFF ∷ []) ∷ module_of_kind 0x22 ∷ module_of_kind 0x21 ∷ []))
    ≡ Ok (known_module ∷ known_module ∷ [])
unfolding modules_part module_from names_from rec_text_from skip_47 offset_from cookie_from kind_from skip skip_rec rec_from var_from id_from lib.Utf8.encode
counted_modules = refl

-- the words of each part
part_texts : map part_text (parts.ReferenceControl ∷ parts.CheckId ∷ parts.ModuleKind ∷ parts.RecordId ∷ [])
    ≡ codes "token in reference control" ∷ codes "check id" ∷ codes "module typ" ∷ codes "record id" ∷ []
part_texts = refl

-- what each refusal prints that carries no text
error_texts : map vba_error_text (errors.Truncated ∷ errors.Unknown parts.CheckId 0x1A ∷ errors.InvalidRecordId 0x3E 0xAB ∷ errors.LibId
    ∷ errors.Cfb (CodePageNotFound 0x1B5) ∷ errors.Memory ∷ [])
    ≡ codes "Unexpected end of directory" ∷ codes "Unknown check id '1A'" ∷ codes "Invalid record id: expecting 3E found AB"
    ∷ codes "Unexpected libid format" ∷ codes "Cfb error: Codepage 1B5 not found" ∷ codes "Out of memory" ∷ []
unfolding digits
error_texts = refl

-- the last module of a name is it
abbrev module_at : ℕ → Mod
module_at at = record { name = codes "b"; stream_name = codes "s"; text_offset = at }

last_modules : map (λ q. last_module q (module_at 1 ∷ known_module ∷ module_at 2 ∷ [])) (codes "b" ∷ codes "m" ∷ codes "c" ∷ [])
    ≡ Some (module_at 2) ∷ Some known_module ∷ None ∷ []
last_modules = refl
