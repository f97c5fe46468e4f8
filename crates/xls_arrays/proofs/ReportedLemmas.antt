-- What the items of the arrays cite.
use Rattle.std.proofs.Common.{◌≡◌, ℕ, zero, suc, ◌+◌, ◌≤◌, List, [], ◌∷◌, ◌++◌, length, take, drop, refl, sym, ap, subst, ◌∙◌, arith, encode_utf8_all}
use Rattle.std.proofs.lemmas.List.{append-nil, append_assoc, drop-append-le, drop_at, length-drop, length-take, take-append-le, take_all}
use Rattle.std.specs.List.{AllZip}
use Rattle.xls_data.specs.declared.regions.Dimensions.{Dimensions}
use Rattle.xls_biff.specs.Cells.{CellEntry}
use Rattle.xls_meaning.specs.SheetTable.{FormulaEntry}
use Rattle.xls_arrays.specs.Values.{cell_item, content_text}
use Rattle.xls_arrays.specs.Arrays.{Arrays, Reported, empty, laid, next_span, sheet_item, with_cell_laid, with_content, with_formula, with_name, with_region, with_sheet, with_sheet_item, with_text}
use Rattle.xls_arrays.specs.Laws.{AreOf, ArraysAreReported, IsCellOf, IsFormulaOf, IsNameOf, IsRegionOf, IsSheetOf, StandsAt}
use Rattle.xls_arrays.specs.declared.items.SheetItem.{SheetItem}
use Rattle.xls_arrays.specs.declared.items.NameItem.{NameItem}
use Rattle.xls_arrays.specs.declared.items.CellItem.{CellItem}
use Rattle.xls_arrays.specs.declared.items.FormulaItem.{FormulaItem}

-- ---- lists that grow

-- one list begins with another
record Longer {X : Type 0} (xs ys : List X) : Type 0 where
  more : List X
  is : ys ≡ xs ++ more

longer-refl : {X : Type 0} (xs : List X) → Longer xs xs
longer-refl xs = record { more = []; is = sym (append-nil xs) }

longer-by : {X : Type 0} (xs more : List X) → Longer xs (xs ++ more)
longer-by xs more = record { more = more; is = refl }

longer-trans : {X : Type 0} {xs ys zs : List X} → Longer xs ys → Longer ys zs → Longer xs zs
longer-trans {xs = xs} l k =
    record { more = l.more ++ k.more; is = k.is ∙ ap (λ ws. ws ++ k.more) l.is ∙ append_assoc xs l.more k.more }

stands-on : {X : Type 0} (xs more : List X) (first count : ℕ) (ys : List X) → count ≡ length ys
    → take count (drop first xs) ≡ ys → take count (drop first (xs ++ more)) ≡ ys
stands-on xs more first zero ys many these = these
stands-on xs more first (suc n) ys many these =
    let long : length (take (suc n) (drop first xs)) ≡ suc n = ap length these ∙ sym many in
    let bound : first + suc n ≤ length xs =
    omega (arith, long, length-take (suc n) (drop first xs), length-drop first xs) in
    ap (take (suc n)) (drop-append-le first xs more (omega arith))
    ∙ take-append-le (suc n) (drop first xs) more (omega (arith, length-drop first xs)) ∙ these

-- what stands in a list stands in a longer one
stands-longer : {X : Type 0} {xs zs : List X} {first count : ℕ} {ys : List X} → Longer xs zs → StandsAt xs first count ys
    → StandsAt zs first count ys
stands-longer {xs = xs} {first = first} {count = count} {ys = ys} l s =
    record {
      many = s.many;
      these = ap (λ ws. take count (drop first ws)) l.is ∙ stands-on xs l.more first count ys s.many s.these;
    }

stands-new : {X : Type 0} (xs ys : List X) → StandsAt (xs ++ ys) (length xs) (length ys) ys
stands-new xs ys =
    record {
      many = refl;
      these = ap (take (length ys)) (drop_at xs ys (length xs) refl) ∙ take_all (length ys) ys (omega arith);
    }

zip-weaker : {A B : Type 0} (P Q : A → B → Type 0) → ((x : A) (y : B) → P x y → Q x y) → (xs : List A) (ys : List B)
    → AllZip P xs ys → AllZip Q xs ys
zip-weaker P Q then [] [] z = tt
zip-weaker P Q then [] (y ∷ ys) z = z
zip-weaker P Q then (x ∷ xs) [] z = z
zip-weaker P Q then (x ∷ xs) (y ∷ ys) z = (then x y z.0, zip-weaker P Q then xs ys z.1)

zip-length : {A B : Type 0} (P : A → B → Type 0) (xs : List A) (ys : List B) → AllZip P xs ys → length xs ≡ length ys
zip-length P [] [] z = refl
zip-length P [] (y ∷ ys) z = absurd z
zip-length P (x ∷ xs) [] z = absurd z
zip-length P (x ∷ xs) (y ∷ ys) z = ap suc (zip-length P xs ys z.1)

-- ---- arrays that grow

record Grows (a b : Arrays) : Type 0 where
  sheets : Longer a.sheets b.sheets
  names : Longer a.names b.names
  cells : Longer a.cells b.cells
  formulas : Longer a.formulas b.formulas
  regions : Longer a.regions b.regions
  texts : Longer a.texts b.texts

grows-refl : (a : Arrays) → Grows a a
grows-refl a =
    record {
      sheets = longer-refl a.sheets;
      names = longer-refl a.names;
      cells = longer-refl a.cells;
      formulas = longer-refl a.formulas;
      regions = longer-refl a.regions;
      texts = longer-refl a.texts;
    }

grows-trans : {a b c : Arrays} → Grows a b → Grows b c → Grows a c
grows-trans g h =
    record {
      sheets = longer-trans g.sheets h.sheets;
      names = longer-trans g.names h.names;
      cells = longer-trans g.cells h.cells;
      formulas = longer-trans g.formulas h.formulas;
      regions = longer-trans g.regions h.regions;
      texts = longer-trans g.texts h.texts;
    }

grows-laid : {X : Type 0} (step : Arrays → X → Arrays) → ((a : Arrays) (x : X) → Grows a (step a x)) → (a : Arrays) (xs : List X)
    → Grows a (laid step a xs)
unfolding laid
grows-laid step grows a [] = grows-refl a
grows-laid step grows a (x ∷ xs) = grows-trans (grows a x) (grows-laid step grows (step a x) xs)

grows-cell : (a : Arrays) (c : CellEntry) → Grows a (with_cell_laid a c)
grows-cell a c =
    record {
      sheets = longer-refl a.sheets;
      names = longer-refl a.names;
      cells = longer-by a.cells _;
      formulas = longer-refl a.formulas;
      regions = longer-refl a.regions;
      texts = longer-by a.texts (content_text c.1);
    }

grows-formula : (a : Arrays) (f : FormulaEntry) → Grows a (with_formula a f)
grows-formula a f =
    record {
      sheets = longer-refl a.sheets;
      names = longer-refl a.names;
      cells = longer-refl a.cells;
      formulas = longer-by a.formulas _;
      regions = longer-refl a.regions;
      texts = longer-by a.texts (encode_utf8_all f.1);
    }

grows-region : (a : Arrays) (d : Dimensions) → Grows a (with_region a d)
grows-region a d =
    record {
      sheets = longer-refl a.sheets;
      names = longer-refl a.names;
      cells = longer-refl a.cells;
      formulas = longer-refl a.formulas;
      regions = longer-by a.regions _;
      texts = longer-refl a.texts;
    }

grows-text : (a : Arrays) (text : List ℕ) → Grows a (with_text a text)
grows-text a text =
    record {
      sheets = longer-refl a.sheets;
      names = longer-refl a.names;
      cells = longer-refl a.cells;
      formulas = longer-refl a.formulas;
      regions = longer-refl a.regions;
      texts = longer-by a.texts text;
    }

grows-name : (a : Arrays) (n : List ℕ × List ℕ) → Grows a (with_name a n)
grows-name a n =
    record {
      sheets = longer-refl a.sheets;
      names = longer-by a.names _;
      cells = longer-refl a.cells;
      formulas = longer-refl a.formulas;
      regions = longer-refl a.regions;
      texts = longer-trans (longer-by a.texts (encode_utf8_all n.0)) (longer-by (a.texts ++ encode_utf8_all n.0) (encode_utf8_all n.1));
    }

grows-content : (a : Arrays) (t : Reported) → Grows a (with_content a t.1)
grows-content a t =
    let cells = laid with_cell_laid a t.1.cells in
    let formulas = laid with_formula cells t.1.formulas in
    grows-trans (grows-laid with_cell_laid grows-cell a t.1.cells)
    (grows-trans (grows-laid with_formula grows-formula cells t.1.formulas)
    (grows-laid with_region grows-region formulas t.1.merges))

grows-item : (a : Arrays) (item : SheetItem) → Grows a (with_sheet_item a item)
grows-item a item =
    record {
      sheets = longer-by a.sheets (item ∷ []);
      names = longer-refl a.names;
      cells = longer-refl a.cells;
      formulas = longer-refl a.formulas;
      regions = longer-refl a.regions;
      texts = longer-refl a.texts;
    }

grows-sheet : (a : Arrays) (t : Reported) → Grows a (with_sheet a t)
grows-sheet a t =
    let name = encode_utf8_all t.0.name in
    let named = with_text a name in
    grows-trans (grows-text a name)
    (grows-trans (grows-content named t)
    (grows-item (with_content named t.1) (sheet_item a (next_span a name) t.0 t.1)))

-- ---- things that are laid one after another

module _ {X I : Type 0} (step : Arrays → X → Arrays) (items : Arrays → List I) (Is : Arrays → I → X → Type 0)
    (grows : (a : Arrays) (x : X) → Grows a (step a x))
    (longer : (a b : Arrays) → Grows a b → Longer (items a) (items b))
    (stays : (a b : Arrays) (i : I) (x : X) → Grows a b → Is a i x → Is b i x)
    (adds : (a : Arrays) (x : X) → (i : I) × (items (step a x) ≡ items a ++ i ∷ []) × Is (step a x) i x) where
  -- after what was there, there is an item for each
  laid-items : (a : Arrays) (xs : List X)
      → (those : List I) × (items (laid step a xs) ≡ items a ++ those) × AllZip (Is (laid step a xs)) those xs
  unfolding laid
  laid-items a [] = ([], sym (append-nil (items a)), tt)
  laid-items a (x ∷ xs) =
      let rest = laid-items (step a x) xs in
      let new = adds a x in
      let b = laid step (step a x) xs in
      let first : Is b new.0 x = stays (step a x) b new.0 x (grows-laid step grows (step a x) xs) new.2 in
      (new.0 ∷ rest.0, rest.1 ∙ ap (λ is. is ++ rest.0) new.1 ∙ append_assoc (items a) (new.0 ∷ []) rest.0, (first, rest.2))

  -- and so it is in arrays that grew from these
  laid-are : (a b : Arrays) (xs : List X) → Grows (laid step a xs) b → AreOf (Is b) (items b) (length (items a)) (length xs) xs
  laid-are a b xs g =
      let all = laid-items a xs in
      let many = zip-length (Is (laid step a xs)) all.0 xs all.2 in
      let stand : StandsAt (items a ++ all.0) (length (items a)) (length xs) all.0 =
      subst (λ n. StandsAt (items a ++ all.0) (length (items a)) n all.0) many (stands-new (items a) all.0) in
      let here : StandsAt (items b) (length (items a)) (length xs) all.0 =
      stands-longer (longer (laid step a xs) b g) (subst (λ is. StandsAt is (length (items a)) (length xs) all.0) (sym all.1) stand) in
      (all.0, here, zip-weaker (Is (laid step a xs)) (Is b) (λ i x. stays (laid step a xs) b i x g) all.0 xs all.2)

-- ---- cells, formulas, regions

stays-cell : (a b : Arrays) (i : CellItem) (c : CellEntry) → Grows a b → IsCellOf a i c → IsCellOf b i c
stays-cell a b i c g is = (is.0, is.1, stands-longer g.texts is.2)

cells-are : (a b : Arrays) (cs : List CellEntry) → Grows (laid with_cell_laid a cs) b
    → AreOf (IsCellOf b) b.cells (length a.cells) (length cs) cs
cells-are =
    laid-are with_cell_laid (λ a. a.cells) IsCellOf grows-cell (λ a b g. g.cells) stays-cell
    (λ a c. (cell_item (length a.texts) c, refl, (length a.texts, refl, stands-new a.texts (content_text c.1))))

stays-formula : (a b : Arrays) (i : FormulaItem) (f : FormulaEntry) → Grows a b → IsFormulaOf a i f → IsFormulaOf b i f
stays-formula a b i f g is = (is.0, stands-longer g.texts is.1)

formulas-are : (a b : Arrays) (fs : List FormulaEntry) → Grows (laid with_formula a fs) b
    → AreOf (IsFormulaOf b) b.formulas (length a.formulas) (length fs) fs
formulas-are =
    laid-are with_formula (λ a. a.formulas) IsFormulaOf grows-formula (λ a b g. g.formulas) stays-formula
    (λ a f. (_, refl, (refl, stands-new a.texts (encode_utf8_all f.1))))

regions-are : (a b : Arrays) (ds : List Dimensions) → Grows (laid with_region a ds) b
    → AreOf (IsRegionOf b) b.regions (length a.regions) (length ds) ds
regions-are =
    laid-are with_region (λ a. a.regions) IsRegionOf grows-region (λ a b g. g.regions) (λ a b i d g is. is) (λ a d. (_, refl, refl))

-- ---- names and sheets

stays-name : (a b : Arrays) (i : NameItem) (n : List ℕ × List ℕ) → Grows a b → IsNameOf a i n → IsNameOf b i n
stays-name a b i n g is = (stands-longer g.texts is.0, stands-longer g.texts is.1)

adds-name : (a : Arrays) (n : List ℕ × List ℕ)
    → (i : NameItem) × ((with_name a n).names ≡ a.names ++ i ∷ []) × IsNameOf (with_name a n) i n
adds-name a n =
    let name = encode_utf8_all n.0 in
    let formula = encode_utf8_all n.1 in
    (_, refl, (stands-longer (longer-by (a.texts ++ name) formula) (stands-new a.texts name), stands-new (a.texts ++ name) formula))

stays-sheet : (a b : Arrays) (i : SheetItem) (t : Reported) → Grows a b → IsSheetOf a i t → IsSheetOf b i t
stays-sheet a b i t g is =
    record {
      name = stands-longer g.texts is.name;
      kind = is.kind;
      visibility = is.visibility;
      cells = (
        is.cells.0,
        stands-longer g.cells is.cells.1,
        zip-weaker (IsCellOf a) (IsCellOf b) (λ j c. stays-cell a b j c g) is.cells.0 t.1.cells is.cells.2,
      );
      formulas = (
        is.formulas.0,
        stands-longer g.formulas is.formulas.1,
        zip-weaker (IsFormulaOf a) (IsFormulaOf b) (λ j f. stays-formula a b j f g) is.formulas.0 t.1.formulas is.formulas.2,
      );
      regions = (is.regions.0, stands-longer g.regions is.regions.1, is.regions.2);
    }

-- what no step changes
laid-same : {X Y : Type 0} (step : Arrays → X → Arrays) (items : Arrays → List Y) → ((a : Arrays) (x : X) → items (step a x) ≡ items a)
    → (a : Arrays) (xs : List X) → items (laid step a xs) ≡ items a
unfolding laid
laid-same step items same a [] = refl
laid-same step items same a (x ∷ xs) = laid-same step items same (step a x) xs ∙ same a x

-- a sheet's content changes neither names nor sheets
content-keeps : {Y : Type 0} (items : Arrays → List Y) → ((a : Arrays) (c : CellEntry) → items (with_cell_laid a c) ≡ items a)
    → ((a : Arrays) (f : FormulaEntry) → items (with_formula a f) ≡ items a) → ((a : Arrays) (d : Dimensions) → items (with_region a d) ≡ items a)
    → (a : Arrays) (t : Reported) → items (with_content a t.1) ≡ items a
content-keeps items of_cell of_formula of_region a t =
    let cells = laid with_cell_laid a t.1.cells in
    let formulas = laid with_formula cells t.1.formulas in
    laid-same with_region items of_region formulas t.1.merges
    ∙ (laid-same with_formula items of_formula cells t.1.formulas ∙ laid-same with_cell_laid items of_cell a t.1.cells)

adds-sheet : (a : Arrays) (t : Reported)
    → (i : SheetItem) × ((with_sheet a t).sheets ≡ a.sheets ++ i ∷ []) × IsSheetOf (with_sheet a t) i t
adds-sheet a t =
    let name = encode_utf8_all t.0.name in
    let named = with_text a name in
    let cells = laid with_cell_laid named t.1.cells in
    let formulas = laid with_formula cells t.1.formulas in
    let regions = laid with_region formulas t.1.merges in
    let all = with_sheet a t in
    let item = sheet_item a (next_span a name) t.0 t.1 in
    let end : Grows regions all = grows-item regions item in
    let after_formulas : Grows formulas all = grows-trans (grows-laid with_region grows-region formulas t.1.merges) end in
    let after_cells : Grows cells all = grows-trans (grows-laid with_formula grows-formula cells t.1.formulas) after_formulas in
    let after_name : Grows named all = grows-trans (grows-laid with_cell_laid grows-cell named t.1.cells) after_cells in
    let same : regions.sheets ≡ a.sheets = content-keeps (λ b. b.sheets) (λ b c. refl) (λ b f. refl) (λ b d. refl) named t in
    let first : length cells.formulas ≡ length a.formulas =
    ap length (laid-same with_cell_laid (λ b. b.formulas) (λ b c. refl) named t.1.cells) in
    let region : length formulas.regions ≡ length a.regions =
    ap length (laid-same with_formula (λ b. b.regions) (λ b f. refl) cells t.1.formulas
    ∙ laid-same with_cell_laid (λ b. b.regions) (λ b c. refl) named t.1.cells) in
    let itself : IsSheetOf all item t =
    record {
      name = stands-longer after_name.texts (stands-new a.texts name);
      kind = refl;
      visibility = refl;
      cells = cells-are named all t.1.cells after_cells;
      formulas =
          subst (λ n. AreOf (IsFormulaOf all) all.formulas n (length t.1.formulas) t.1.formulas) first
          (formulas-are cells all t.1.formulas after_formulas);
      regions =
          subst (λ n. AreOf (IsRegionOf all) all.regions n (length t.1.merges) t.1.merges) region
          (regions-are formulas all t.1.merges end);
    } in
    (item, ap (λ ss. ss ++ item ∷ []) same, itself)

sheets-keep-names : (a : Arrays) (t : Reported) → (with_sheet a t).names ≡ a.names
sheets-keep-names a t =
    content-keeps (λ b. b.names) (λ b c. refl) (λ b f. refl) (λ b d. refl) (with_text a (encode_utf8_all t.0.name)) t

pub arrays-are-reported : ArraysAreReported
arrays-are-reported names sheets =
    let named = laid with_name empty names in
    let all = laid with_sheet named sheets in
    let of_names = laid-items with_name (λ a. a.names) IsNameOf grows-name (λ a b g. g.names) stays-name adds-name empty names in
    let of_sheets = laid-items with_sheet (λ a. a.sheets) IsSheetOf grows-sheet (λ a b g. g.sheets) stays-sheet adds-sheet named sheets in
    let kept : all.names ≡ of_names.0 =
    laid-same with_sheet (λ a. a.names) sheets-keep-names named sheets ∙ of_names.1 in
    let none : named.sheets ≡ [] = laid-same with_name (λ a. a.sheets) (λ a n. refl) empty names in
    let reported : all.sheets ≡ of_sheets.0 = of_sheets.1 ∙ ap (λ ss. ss ++ of_sheets.0) none in
    let grown : Grows named all = grows-laid with_sheet grows-sheet named sheets in
    record {
      each_name =
          subst (λ is. AllZip (IsNameOf all) is names) (sym kept)
          (zip-weaker (IsNameOf named) (IsNameOf all) (λ i n. stays-name named all i n grown) of_names.0 names of_names.2);
      each_sheet = subst (λ is. AllZip (IsSheetOf all) is sheets) (sym reported) of_sheets.2;
    }
