-- How the code keeps operands on a stack of texts, for the proof that they are those of the definitions. A name lies as two texts, its
-- white space and above it what is left of it without its marks, so that both of its texts are made by joining them.
use Rattle.std.specs.Prelude.{◌≡◌, ◌≤◌, ℕ, List, [], ◌∷◌, ◌++◌, codes, drop, length, reverse}
use Rattle.xls_operands.specs.Pieces.{Texts}
use Rattle.xls_formula_shown.specs.ShownFold.{bare}
use Rattle.xls_formula_shown.specs.State.{Operand, alike}
use Rattle.xls_formula_shown.specs.declared.held.Held.{Held}
use Rattle.xls_formula_shown.specs.declared.held.Held.TheVariants as helds
use Rattle.xls_formula_shown.specs.declared.held.Marks.{Marks}
use Rattle.xls_formula_shown.specs.declared.held.Marks.TheVariants as marks

abbrev pub marks_text : Marks → List ℕ
marks_text marks.Neither = []
marks_text marks.Xlfn = codes "_xlfn."
marks_text marks.Xlws = codes "_xlws."
marks_text marks.Both = codes "_xlfn._xlws."

-- a name is its marks and what is left of it
pub record SplitsMarks (m : Marks) (rest name : List ℕ) : Type 0 where
  pub whole : name ≡ marks_text m ++ rest
  pub bare : rest ≡ bare name

-- how many texts an operand has
abbrev pub size : Held → ℕ
size helds.Alike = 1
size (helds.Named m) = 2

-- the operand on top
abbrev pub operand_of : Held → Texts → Operand
operand_of helds.Alike (t ∷ ts) = alike t
operand_of (helds.Named m) (name ∷ white ∷ ts) =
    record { shown = white ++ (marks_text m ++ name); called = white ++ name }
operand_of held ts = alike []

-- all of them, the last one first
abbrev pub operands_of : List Held → Texts → List Operand
operands_of [] ts = []
operands_of (h ∷ hs) ts = operand_of h ts ∷ operands_of hs (drop (size h) ts)

-- the texts are those of the operands
abbrev pub AreHeld : List Held → Texts → Type 0
AreHeld [] ts = ts ≡ []
AreHeld (h ∷ hs) ts = (size h ≤ length ts) × AreHeld hs (drop (size h) ts)

-- what lies so, as operands
pub record Stands (held : List Held) (texts : Texts) (operands : List Operand) : Type 0 where
  pub sound : AreHeld (reverse held) texts
  pub are : operands_of (reverse held) texts ≡ operands
