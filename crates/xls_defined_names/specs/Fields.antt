-- The fields of Lbl ([MS-XLS] 2.4.150), by the bytes of its body with those of its Continue records: flags at 0, the count of the name's
-- characters (cch) at 3, the count of its tokens' bytes (cce) at 4, the number of its sheet from 1 (itab) at 8, and the name at 0E: a flags
-- byte and units (XLUnicodeStringNoCch), or before BIFF8 bytes in the page. The tokens (rgce) stand directly behind it, and extra bytes
-- behind them. What stands before BIFF8 is this project's rule.
use Rattle.std.specs.Prelude.{ℕ, ◌+◌, ◌*◌, List, drop, length, slice_index, nat_lt, if◌then◌else◌, Some, None, Result, Err}
use Rattle.xls_ptg.specs.Fields.{word_at}
use Rattle.xls_text.specs.declared.encoding.XlsEncoding.{XlsEncoding}
use Rattle.xls_text.specs.Pages.{string_text}
use Rattle.xls_stream.specs.declared.part.Part.TheVariants as parts
use Rattle.xls_record.specs.declared.version.Biff.{Biff}
use Rattle.xls_record.specs.Version.{is_biff8}
use Rattle.xls_shown_ptg.specs.declared.fault.Fault.{Fault}
use Rattle.xls_shared_formulas.specs.Contents.{has_bit, short, tokens_in}
use Rattle.xls_defined_names.specs.declared.fields.NameUnits.{NameUnits}

-- where the units of a name of so many characters stand, whether they have two bytes, where that is said, and how many bytes they have
abbrev pub units_by : ℕ → ℕ → NameUnits
units_by flags count = record {
  start = 0x0F;
  high_byte = Some (has_bit 0x01 flags);
  size = if has_bit 0x01 flags then 2 * count else count;
}

abbrev pub early_units : ℕ → NameUnits
early_units count = record { start = 0x0E; high_byte = None; size = count }

abbrev pub name_units : Biff → List ℕ → NameUnits
name_units version body =
    if is_biff8 version then units_by (slice_index body 0x0E) (slice_index body 3) else early_units (slice_index body 3)

-- the name as it is stored; where its count passes the bytes the shorter text
abbrev pub stored_name : XlsEncoding → Biff → List ℕ → List ℕ
stored_name page version body =
    string_text page (name_units version body).high_byte (drop (name_units version body).start body) (slice_index body 3)

-- what stands behind the name
abbrev pub behind_name : NameUnits → List ℕ → List ℕ
behind_name units body = drop (units.start + units.size) body

-- the tokens of its formula, and the extra bytes
abbrev pub formula_in : Biff → List ℕ → Result (List ℕ × List ℕ) Fault
formula_in version body =
    if nat_lt (length body) 0x0E then Err (short parts.Lbl 0x0E (length body))
    else tokens_in parts.NameFormula (word_at 4 body) (behind_name (name_units version body) body)
