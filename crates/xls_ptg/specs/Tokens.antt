-- Tokens of a formula: what each is by its bytes, or its first fault by its bytes and the code
-- tables. Those of BIFF8 follow [MS-XLS] 2.5.198; the sizes and layouts before BIFF8, and which
-- attributes are read, are this project's rule.
use Rattle.std.specs.Prelude.{ℕ, ◌%◌, List, drop, slice_index, ◌&&◌, nat_lt, ◌==◌, if◌then◌else◌, Ok, Err}
use Rattle.xls_stream.specs.declared.part.Part.TheVariants as parts
use Rattle.xls_record.specs.declared.error.XlsError.TheVariants as errors
use Rattle.xls_record.specs.declared.version.Biff.{Biff}
use Rattle.xls_ptg.specs.declared.tokens.Ptg.TheVariants as ptg
use Rattle.xls_ptg.specs.Operators.{operator_of}
use Rattle.xls_ptg.specs.Readings.{Reading}
use Rattle.xls_ptg.specs.Control.{exp_at, elf_at}
use Rattle.xls_ptg.specs.Constants.{err_at, bool_at, int_at, num_at, array_at}
use Rattle.xls_ptg.specs.PtgStr.{str_token_at}
use Rattle.xls_ptg.specs.Attributes.{attr_at}
use Rattle.xls_ptg.specs.FunctionTokens.{func_at, func_var_at}
use Rattle.xls_ptg.specs.NameTokens.{name_at, name_x_at}
use Rattle.xls_ptg.specs.References.{ref_token_at, area_at, ref_err_at, area_err_at}
use Rattle.xls_ptg.specs.References3d.{ref3d_at, area3d_at, ref_err3d_at, area_err3d_at}

-- basic tokens, below 20
abbrev pub basic_by : Biff → ℕ → List ℕ → Reading
basic_by biff token rest =
    if token == 0x01 then exp_at rest
    else if nat_lt 0x02 token && nat_lt token 0x12 then Ok (ptg.Binary (operator_of token), 0)
    else if token == 0x12 then Ok (ptg.Uplus, 0)
    else if token == 0x13 then Ok (ptg.Uminus, 0)
    else if token == 0x14 then Ok (ptg.Percent, 0)
    else if token == 0x15 then Ok (ptg.Paren, 0)
    else if token == 0x16 then Ok (ptg.MissArg, 0)
    else if token == 0x17 then str_token_at biff rest
    else if token == 0x18 then elf_at rest
    else if token == 0x19 then attr_at rest
    else if token == 0x1C then err_at rest
    else if token == 0x1D then bool_at rest
    else if token == 0x1E then int_at rest
    else if token == 0x1F then num_at rest
    else Err (errors.Unrecognized parts.Ptg token)

-- tokens of another workbook or another sheet, by their low five bits; 79 is none
abbrev pub by_3d : Biff → ℕ → List ℕ → Reading
by_3d biff token rest =
    if (token % 0x20 == 0x19) && nat_lt token 0x60 then name_x_at biff rest
    else if token % 0x20 == 0x1A then ref3d_at biff rest
    else if token % 0x20 == 0x1B then area3d_at biff rest
    else if token % 0x20 == 0x1C then ref_err3d_at biff rest
    else if token % 0x20 == 0x1D then area_err3d_at biff rest
    else Err (errors.Unrecognized parts.Ptg token)

-- classed tokens, from 20 to 7F, by their low five bits: 21, 41 and 61 are one
abbrev pub classed_by : Biff → ℕ → List ℕ → Reading
classed_by biff token rest =
    if token % 0x20 == 0x00 then array_at rest
    else if token % 0x20 == 0x01 then func_at rest
    else if token % 0x20 == 0x02 then func_var_at rest
    else if token % 0x20 == 0x03 then name_at biff rest
    else if token % 0x20 == 0x04 then ref_token_at biff rest
    else if token % 0x20 == 0x05 then area_at biff rest
    else if token % 0x20 == 0x0A then ref_err_at biff rest
    else if token % 0x20 == 0x0B then area_err_at biff rest
    else by_3d biff token rest

-- a token by its first byte and the bytes after it
abbrev pub ptg_by : Biff → ℕ → List ℕ → Reading
ptg_by biff token rest =
    if nat_lt token 0x20 then basic_by biff token rest
    else if nat_lt token 0x80 then classed_by biff token rest
    else Err (errors.Unrecognized parts.Ptg token)

abbrev pub ptg_at : Biff → List ℕ → Reading
ptg_at biff bytes = ptg_by biff (slice_index bytes 0) (drop 1 bytes)
