-- How a text stands in its cell ([MS-XLS] HorizAlign and VertAlign, and trot, cIndent, fWrap and
-- fShrinkToFit of XF).
use Rattle.std.specs.Prelude.{ℕ, List, [], ◌∷◌, ◌++◌, ◌==◌, if◌then◌else◌, codes, Option, Some, None}
use Rattle.std.specs.Fmt.{decimal}
use Rattle.xls_styles.specs.declared.alignments.Alignment.{Alignment}
use Rattle.xls_styles.specs.declared.xfs.Xf.{Xf}
use Rattle.xls_styles.specs.Texts.{word_if, words}

abbrev pub alignment_of : Xf → Alignment
alignment_of xf = record {
  across = xf.across;
  down = xf.down;
  is_wrapped = xf.is_wrapped;
  is_shrunk = xf.is_shrunk;
  indent = xf.indent;
  turn = xf.turn;
}

-- 0 hangs on the value
abbrev pub across_word : ℕ → Option (List ℕ)
across_word n =
    if n == 1 then Some (codes "left")
    else if n == 2 then Some (codes "center")
    else if n == 3 then Some (codes "right")
    else if n == 4 then Some (codes "fill")
    else if n == 5 then Some (codes "justify")
    else if n == 6 then Some (codes "centerContinuous")
    else if n == 7 then Some (codes "distributed")
    else None

-- 2 is the bottom
abbrev pub down_word : ℕ → Option (List ℕ)
down_word n =
    if n == 0 then Some (codes "top")
    else if n == 1 then Some (codes "center")
    else if n == 3 then Some (codes "justify")
    else if n == 4 then Some (codes "distributed")
    else None

-- a number behind a name, where it isn't 0
abbrev pub number_word : List ℕ → ℕ → Option (List ℕ)
number_word name n = if n == 0 then None else Some (name ++ (0x3A ∷ decimal n))

abbrev pub alignment_text : Alignment → List ℕ
alignment_text a = words (
    across_word a.across ∷ down_word a.down ∷ word_if a.is_wrapped (codes "wrap") ∷ word_if a.is_shrunk (codes "shrink")
    ∷ number_word (codes "indent") a.indent ∷ number_word (codes "turn") a.turn ∷ []
    )
