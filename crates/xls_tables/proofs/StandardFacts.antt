-- Values that RFC 4180, Unicode and the README give, so that a wrong rule in the specs does not check.
use Rattle.std.proofs.Common.{◌≡◌, [], ◌∷◌, ◌++◌, true, false, refl, inl, inr, pos}
use Rattle.std.specs.Prelude.{codes, encode_utf8_all}
use Rattle.std.specs.Fmt.{digits}
use Rattle.xls_data.specs.Content.{int, text, truth}
use Rattle.xls_view.specs.Viewing.{Viewed}
use Rattle.xls_csv.specs.Boxes.{BeginsBox, IsRow}
use Rattle.xls_csv.specs.Walk.{no_cell}
use Rattle.xls_readable.specs.declared.choices.FieldStyle.{FieldStyle}
use Rattle.xls_readable.specs.declared.choices.FieldStyle.TheVariants.{Shown, Values}
use Rattle.xls_tables.specs.FileNames.{file_name, fitting}
use Rattle.xls_tables.specs.Rows.{IsContentField, IsContentText, IsShownField, form_fields}
use Rattle.xls_tables.specs.Tables.{byte_order_mark}

-- U+FEFF
pub known_mark : byte_order_mark true ≡ encode_utf8_all (0xFEFF ∷ [])
unfolding lib.Utf8.encode
known_mark = refl

-- a text outside ASCII
pub known_text : IsContentText (text (0xE9 ∷ [])) (0xC3 ∷ 0xA9 ∷ [])
unfolding lib.Utf8.encode
known_text = refl

-- a number
pub known_number : IsContentField 0x2C (int (pos 10)) (codes "10")
unfolding digits
known_number = (codes "10", refl, refl)

-- a blank, a text with the delimiter, a truth value: by their values, whatever their formats are
pub known_row : (view : Viewed)
    → IsRow (form_fields Values 0x2C view) (no_cell ∷ (text (codes "a,b"), 7) ∷ (truth true, 0) ∷ []) (codes ",\"a,b\",TRUE\n")
unfolding lib.Utf8.encode
known_row view = (
  codes ",\"a,b\",TRUE",
  (
    [],
    codes ",\"a,b\",TRUE",
    ([], refl, refl),
    (
      codes ",\"a,b\"",
      codes ",TRUE",
      (codes "\"a,b\"", (codes "a,b", refl, refl), refl),
      (codes ",TRUE", [], (codes "TRUE", (codes "TRUE", refl, refl), refl), refl, refl),
      refl,
    ),
    refl,
  ),
  refl,
)

-- a text that is shown, with the delimiter
pub known_shown : IsShownField 0x3B (λ shown. shown ≡ codes "1;5") (codes "\"1;5\"")
unfolding lib.Utf8.encode
known_shown = (codes "1;5", refl, refl)

-- a blank alone
pub known_blank : (style : FieldStyle) (view : Viewed) → IsRow (form_fields style 0x2C view) (no_cell ∷ []) (codes "\"\"\n")
known_blank Values view = ([], ([], [], ([], refl, refl), refl, refl), refl)
known_blank Shown view = ([], ([], [], ([], refl, refl), refl, refl), refl)

-- a whole row, and the first of the two fields of the next one
pub known_part : (view : Viewed)
    → BeginsBox (form_fields Values 0x2C view) ((no_cell ∷ []) ∷ ((truth false, 0) ∷ no_cell ∷ []) ∷ []) (codes "\"\"\nFALSE")
known_part view = inr (
  codes "\"\"\n",
  codes "FALSE",
  known_blank Values view,
  inl (1, (codes "FALSE", [], (codes "FALSE", refl, refl), refl, refl)),
  refl,
)

-- two digits, and a low line for a slash and a colon; a hundred and a letter outside ASCII
pub known_name : file_name 7 (codes "a/b: (c).-_") ≡ codes "07-a_b_ (c).-_"
unfolding digits lib.Utf8.encode
known_name = refl

pub known_hundred : file_name 100 (0xE9 ∷ []) ≡ codes "100-" ++ 0xC3 ∷ 0xA9 ∷ []
unfolding digits lib.Utf8.encode
known_hundred = refl

-- a character of two bytes doesn't fit into the one that is left
pub known_cut : fitting 3 (0xE9 ∷ 0xE9 ∷ 0x61 ∷ []) ≡ 0xE9 ∷ []
known_cut = refl
