-- 19, the attributes ([MS-XLS] 2.5.198). Which of them are read is this project's rule. Sizes count the
-- bytes after the attribute byte, and a reading that byte too.
use Rattle.std.specs.Prelude.{ℕ, ◌+◌, ◌*◌, ◌%◌, List, drop, slice_index, Bool, ◌||◌, nat_lt, ◌==◌, if◌then◌else◌, Result, Ok, Err}
use Rattle.xls_record.specs.Reading.{gives}
use Rattle.xls_stream.specs.declared.part.Part.TheVariants as parts
use Rattle.xls_record.specs.declared.error.XlsError.{XlsError}
use Rattle.xls_record.specs.declared.error.XlsError.TheVariants as errors
use Rattle.xls_ptg.specs.declared.tokens.Ptg.{Ptg}
use Rattle.xls_ptg.specs.declared.tokens.Ptg.TheVariants as ptg
use Rattle.xls_ptg.specs.Fields.{word_at, sized}
use Rattle.xls_ptg.specs.Readings.{Reading}

-- two bytes that aren't read
abbrev pub plain_attr : Ptg (List ℕ) → List ℕ → Reading
plain_attr token body = sized 2 body (Ok (token, 3))

-- 04 (PtgAttrChoose): a count of jumps (cOffset), so many words and one more
abbrev pub attr_choose_at : List ℕ → Reading
attr_choose_at body =
    sized 2 body
    (sized (4 + 2 * word_at 0 body) body (Ok (ptg.AttrChoose, 1 + (4 + 2 * word_at 0 body))))

-- PtgAttrSpaceType: a kind, spaces for an even one and returns for an odd one, and a count
abbrev pub space_by : ℕ → ℕ → Result (Bool × ℕ) XlsError
space_by kind count =
    if nat_lt 6 kind then Err (errors.Unrecognized parts.SpaceKind kind)
    else Ok (kind % 2 == 1, count)

abbrev pub space_at : List ℕ → Result (Bool × ℕ) XlsError
space_at body = sized 2 body (space_by (slice_index body 0) (slice_index body 1))

-- 40 (PtgAttrSpace)
abbrev pub attr_space : Result (Bool × ℕ) XlsError → Reading
attr_space read = gives (λ space. (ptg.AttrSpace space.0 space.1, 3)) read

-- 41 (PtgAttrSpaceSemi)
abbrev pub attr_space_semi : Result (Bool × ℕ) XlsError → Reading
attr_space_semi read = gives (λ space. (ptg.AttrSpaceSemi space.0 space.1, 3)) read

abbrev pub attr_by : ℕ → List ℕ → Reading
attr_by attribute body =
    if attribute == 0x01 then plain_attr ptg.AttrSemi body
    else if attribute == 0x02 then plain_attr ptg.AttrIf body
    else if attribute == 0x04 then attr_choose_at body
    else if attribute == 0x08 then plain_attr ptg.AttrGoto body
    else if attribute == 0x10 then plain_attr ptg.AttrSum body
    else if (attribute == 0x20) || (attribute == 0x21) then plain_attr ptg.AttrBaxcel body
    else if attribute == 0x40 then attr_space (space_at body)
    else if attribute == 0x41 then attr_space_semi (space_at body)
    else Err (errors.Etpg attribute)

abbrev pub attr_at : List ℕ → Reading
attr_at rest = sized 1 rest (attr_by (slice_index rest 0) (drop 1 rest))
