-- The table of the globals' records, line by line.
use Rattle.std.proofs.Common.{◌≡◌, ℕ, List, true, false, Option, rules, Ok, refl, arith}
use Rattle.xls_text.specs.declared.encoding.XlsEncoding.{XlsEncoding}
use Rattle.xls_stream.specs.Listing.{is_among, globals_types, is_plain_type}
use Rattle.xls_record.specs.declared.version.Biff.{Biff}
use Rattle.xls_biff.proofs.TableLemmas.{every_type}
use Rattle.xls_meaning.specs.GlobalsTable.{PlainLine, other_record, other_line, globals_table, plain_record_at}

-- ---- types that the globals don't have

-- a line of one of them gives nothing
abbrev IsOfListed : ℕ → PlainLine → Type 0
IsOfListed typ line = is_among typ globals_types ≡ false
    → (forced : Option ℕ) (page : XlsEncoding) (version : Biff) (body : List ℕ) → line forced page version body ≡ Ok other_record

-- they give nothing
pub unlisted : (forced : Option ℕ) (page : XlsEncoding) (version : Biff) (typ : ℕ) (body : List ℕ) → is_among typ globals_types ≡ false
    → plain_record_at forced page version typ body ≡ Ok other_record
unlisted forced page version typ body h =
    every_type other_line IsOfListed globals_table typ (λ t u forced page version body. refl) (search rules) h forced page version body

-- and have no items of their own
pub unlisted_plain : (typ : ℕ) → is_among typ globals_types ≡ false → is_plain_type typ ≡ true
unlisted_plain typ h = grind arith
