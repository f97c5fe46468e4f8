-- Lines that are put one after another.
use Rattle.std.proofs.Common.{◌≡◌, ℕ, List, [], ◌∷◌, ◌++◌, ◌≤◌, length, take, map, refl, sym, ap, subst, ◌∙◌, codes, Result}
use Rattle.std.proofs.lemmas.List.{take_all}
use Rattle.std.specs.List.{flat_map}
use Rattle.std.specs.Prelude.{encode_utf8_all}
use Rattle.std.specs.Str.{chars, IsUtf8}
use Rattle.std.proofs.lemmas.Str.{encodes-chars}
use Rattle.xls_data.specs.Sheets.{SheetContent}
use Rattle.xls_output.specs.Added.{AddsText}
use Rattle.xls_output.specs.Each.{DeliversEach}
use Rattle.xls_output.specs.SinkState.{SinkState}
use Rattle.xls_output.specs.declared.stop.Stop.{Stop}
use Rattle.xls_readable.specs.Lines.{IsLine, sheet_members}
use Rattle.xls_readable.specs.declared.forms.Form.{Form}
use Rattle.xls_beside.specs.Lines.{Line, IsLineText, sheet}

-- the lines of items, one by one
pub item_lines : {X : Type 0} (f : X → Line) (items : List X) → flat_map (λ (x : X). f x ∷ []) items ≡ map f items
item_lines f [] = refl
item_lines f (x ∷ xs) = ap (λ (l : List Line). f x ∷ l) (item_lines f xs)

-- the line of a sheet, by the bytes of its name
pub sheet_added : (form : Form) (s : SheetContent) (lent bytes old new : List ℕ) → IsUtf8 lent → lent ≡ bytes → s.name ≡ chars bytes
    → AddsText (IsLine form (codes "sheet") (sheet_members lent s.typ s.visible)) old new → AddsText (IsLineText form (sheet s)) old new
sheet_added form s lent bytes old new fits same named added =
    let encoded : lent ≡ encode_utf8_all s.name =
    sym (encodes-chars lent fits) ∙ ap (λ (l : List ℕ). encode_utf8_all (chars l)) same ∙ ap encode_utf8_all (sym named) in
    subst (λ (name : List ℕ). AddsText (IsLine form (codes "sheet") (sheet_members name s.typ s.visible)) old new) encoded added

-- the lines of all, where the index has come to the end
pub whole_lines : {X : Type 0} (lines : X → List Line) (xs : List X) (k : ℕ) → length xs ≤ k → flat_map lines (take k xs) ≡ flat_map lines xs
whole_lines lines xs k end = ap (flat_map lines) (take_all k xs end)

-- by what the things of a list hold
pub lines_by : {X Y : Type 0} (lines : Y → List Line) (view : X → Y) (xs : List X)
    → flat_map (λ x. lines (view x)) xs ≡ flat_map lines (map view xs)
lines_by lines view [] = refl
lines_by lines view (x ∷ xs) = ap (λ (l : List Line). lines (view x) ++ l) (lines_by lines view xs)

-- the lines of what the things of a list hold, one by one
pub viewed_lines : {X Y : Type 0} (f : Y → Line) (view : X → Y) (xs : List X) → flat_map (λ (x : X). f (view x) ∷ []) xs ≡ map f (map view xs)
viewed_lines {X} {Y} f view xs = lines_by (λ (y : Y). f y ∷ []) view xs ∙ item_lines f (map view xs)

-- the characters of a text in UTF-8
pub encoded : (lent bytes : List ℕ) → IsUtf8 lent → lent ≡ bytes → lent ≡ encode_utf8_all (chars bytes)
encoded lent bytes fits same = sym (encodes-chars lent fits) ∙ ap (λ (l : List ℕ). encode_utf8_all (chars l)) same

-- lists of equal things
pub each_same : {A : Type 0} {x y : A} {xs ys : List A} → x ≡ y → xs ≡ ys → x ∷ xs ≡ y ∷ ys
each_same {A} {x} {y} {xs} {ys} e es = ap (λ (a : A). a ∷ xs) e ∙ ap (λ (l : List A). y ∷ l) es

pub none_same : {A : Type 0} → ◌≡◌ {A = List A} [] []
none_same = refl

-- the same lines, spelled otherwise
pub delivers_as : {X : Type 0} (form : Form) {xs ys : List Line} (a b : SinkState) (r : Result X Stop)
    → xs ≡ ys → DeliversEach (IsLineText form) xs a b r → DeliversEach (IsLineText form) ys a b r
delivers_as form a b r e p = subst (λ (l : List Line). DeliversEach (IsLineText form) l a b r) e p
