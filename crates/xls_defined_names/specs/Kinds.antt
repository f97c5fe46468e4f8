-- The kinds of a defined name, by the flags of Lbl ([MS-XLS] 2.4.150), and their words.
use Rattle.std.specs.Prelude.{ℕ, List, [], ◌∷◌, ◌++◌, Bool, if◌then◌else◌, codes}
use Rattle.xls_shared_formulas.specs.Contents.{has_bit}
use Rattle.xls_defined_names.specs.declared.kinds.NameKinds.{NameKinds}

-- fHidden, fFunc, fOB, fProc, and fBuiltin
abbrev pub kinds_of : ℕ → NameKinds
kinds_of flags = record {
  is_hidden = has_bit 0x0001 flags;
  is_function = has_bit 0x0002 flags;
  is_vba = has_bit 0x0004 flags;
  is_macro = has_bit 0x0008 flags;
  is_built_in = has_bit 0x0020 flags;
}

-- what stands before a word: a space behind others
abbrev pub gap : List ℕ → List ℕ
gap [] = []
gap (c ∷ cs) = codes " "

abbrev pub with_word : Bool → List ℕ → List ℕ → List ℕ
with_word is_wanted word words = if is_wanted then words ++ (gap words ++ word) else words

abbrev pub kinds_text : NameKinds → List ℕ
kinds_text k =
    with_word k.is_built_in (codes "builtin") (with_word k.is_macro (codes "macro") (with_word k.is_vba (codes "vba")
    (with_word k.is_function (codes "function") (with_word k.is_hidden (codes "hidden") []))))
