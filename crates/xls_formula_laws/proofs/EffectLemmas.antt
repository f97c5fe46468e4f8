-- What each token does in both readings.
use Rattle.std.proofs.Common.{◌≡◌, ℕ, List, [], ◌∷◌, ◌++◌, Bool, true, false, append_assoc, refl, sym, ap, ◌∙◌, subst, codes, Result, Ok}
use Rattle.std.proofs.Common.{Err, Option, Some, None, if◌then◌else◌}
use Rattle.std.proofs.lemmas.Bool.{eqb-true}
use Rattle.std.specs.Prelude.{ℤ, ◌+◌, not, ◌||◌, ◌==◌, slice_get}
use Rattle.std.specs.Fmt.{decimal}
use Rattle.xls_bytes.specs.Columns.{column_name}
use Rattle.xls_text.specs.Pages.{string_text}
use Rattle.xls_record.specs.Reading as exactly
use Rattle.xls_record.specs.declared.error.XlsError.{XlsError}
use Rattle.xls_record.specs.declared.version.Biff.{Biff}
use Rattle.xls_ptg.specs.declared.corner.Corner.{Corner}
use Rattle.xls_ptg.specs.declared.operators.Operator.{Operator}
use Rattle.xls_ptg.specs.declared.operators.Operator.TheVariants as operators
use Rattle.xls_ptg.specs.declared.tokens.Ptg.{Ptg}
use Rattle.xls_ptg.specs.declared.tokens.Ptg.TheVariants as ptg
use Rattle.xls_formula.specs.Context.{Context}
use Rattle.xls_formula.specs.Effects as exact
use Rattle.xls_formula.specs.Functions.{Function}
use Rattle.xls_formula.specs.Tree.{area, corner_text, dollar, ref, word}
use Rattle.xls_formula.specs.Words.{bool_word, err_text, operator_text}
use Rattle.xls_formula.specs.declared.numbers.NumberStyle.TheVariants as styles
use Rattle.xls_rounding.specs.FormulaNumbers.{formula_number}
use Rattle.xls_shown_ptg.specs.Counts.{operand_count}
use Rattle.xls_shown_ptg.specs.Reading.{gives}
use Rattle.xls_shown_ptg.specs.declared.fault.Fault.{Fault}
use Rattle.xls_shown_ptg.specs.declared.fault.Fault.TheVariants as faults
use Rattle.xls_shown_ptg.specs.declared.tokens.ShownPtg.{ShownPtg}
use Rattle.xls_shown_ptg.specs.declared.tokens.ShownPtg.TheVariants as shown
use Rattle.xls_formula_leaves.specs.Cells.{area_text, cell_text, has_all_columns, has_all_rows, range_text}
use Rattle.xls_formula_leaves.specs.Constants.{doubled, quoted}
use Rattle.xls_formula_leaves.specs.Operators.{sign_of}
use Rattle.xls_formula_shown.specs.Scope.{Scope}
use Rattle.xls_formula_shown.specs.ShownEffects as shows
use Rattle.xls_formula_laws.specs.Alike.{AlikeTokens, has_quote, is_alike, is_alike_operator, is_whole, keeps_count}
use Rattle.xls_formula_laws.proofs.StepLemmas.{Does, calls_do, encloses_do, keeps_do, leads_do, pairs_do, pushes_do, sum_does, trails_do}

-- ---- texts

signs : (o : Operator) → is_alike_operator o ≡ true → sign_of o ≡ operator_text o
signs operators.Ge h = absurd cc
signs operators.Gt h = absurd cc
signs o h = refl

doubled_tail : (b : Bool) (c : ℕ) (cs : List ℕ) → not (b || has_quote cs) ≡ true
    → (not (has_quote cs) ≡ true → doubled cs ≡ cs) → (if b then 0x22 ∷ 0x22 ∷ [] else c ∷ []) ++ doubled cs ≡ c ∷ cs
doubled_tail true c cs h rest = absurd cc
doubled_tail false c cs h rest = ap (λ (x : List ℕ). c ∷ x) (rest h)

no_quotes : (cs : List ℕ) → not (has_quote cs) ≡ true → doubled cs ≡ cs
no_quotes [] h = refl
no_quotes (c ∷ cs) h = doubled_tail (c == 0x22) c cs h (no_quotes cs)

strings : (cs : List ℕ) → not (has_quote cs) ≡ true → quoted cs ≡ codes "\"" ++ (cs ++ codes "\"")
strings cs h = ap (λ (x : List ℕ). 0x22 ∷ (x ++ (0x22 ∷ []))) (no_quotes cs h)

cells : (c : Corner) → cell_text c ≡ corner_text c
cells c = append_assoc (dollar c.is_column_relative) (column_name c.column) (dollar c.is_row_relative ++ decimal (c.row + 1))

neither : (a b : Bool) (x y z : List ℕ) → not (a || b) ≡ true → (if a then x else if b then y else z) ≡ z
neither true b x y z h = absurd cc
neither false true x y z h = absurd cc
neither false false x y z h = refl

areas : (biff : Biff) (first last : Corner) → not (is_whole biff first last) ≡ true
    → area_text biff first last ≡ corner_text first ++ (codes ":" ++ corner_text last)
areas biff first last h =
    neither (has_all_columns first last) (has_all_rows biff first last) _ _ (range_text cell_text first last) h
    ∙ (ap (λ (x : List ℕ). x ++ (codes ":" ++ cell_text last)) (cells first)
    ∙ ap (λ (x : List ℕ). corner_text first ++ (codes ":" ++ x)) (cells last))

-- ---- one token

-- what it does, and that it is refused
abbrev pub Same : Result exact.Effect XlsError → Result (shows.Effect × List ℕ) Fault → Type 0
Same (Ok e) (Ok f) = Does e f.0
Same (Err e) (Err f) = f ≡ faults.Xls e
Same x y = ⊥

-- what both are read by
abbrev pub context_of : List (List ℕ) → List (List ℕ × List ℕ) → List ℤ → Scope → Context
context_of sheets names refs scope =
    record {
      sheets = sheets;
      names = names;
      refs = refs;
      page = scope.page;
      biff = scope.biff;
      functions = scope.functions;
      numbers = styles.Decimal;
    }

func_same : (iftab : ℕ) (extra : List ℕ) (f : Option Function) → keeps_count iftab f ≡ true
    → Same (exactly.gives (λ f. exact.calls f.1 f.0) (exact.known_function iftab f))
    (gives (λ (e : shows.Effect). (e, extra)) (gives (λ (f : Function). shows.calls (operand_count iftab f.1) f.0) (shows.known iftab f)))
func_same iftab extra (Some f) h = calls_do f.1 (operand_count iftab f.1) f.0 (eqb-true (operand_count iftab f.1) f.1 h)
func_same iftab extra None h = refl

func_var_same : (count iftab : ℕ) (extra : List ℕ) (f : Option Function)
    → Same (exactly.gives (λ f. exact.calls count f.0) (exact.known_function iftab f))
    (gives (λ (e : shows.Effect). (e, extra)) (gives (λ (f : Function). shows.calls count f.0) (shows.known iftab f)))
func_var_same count iftab extra (Some f) = calls_do count count f.0 refl
func_var_same count iftab extra None = refl

module _ (sheets : List (List ℕ)) (names : List (List ℕ × List ℕ)) (refs : List ℤ) (scope : Scope) (extra : List ℕ) where
  abbrev context : Context
  context = context_of sheets names refs scope

  token_same : (t : Ptg (List ℕ)) → is_alike scope t ≡ true → Same (exact.effect context t) (shows.effect scope extra (shown.Known t))
  token_same ptg.Exp h = absurd cc
  token_same (ptg.Binary o) h = pairs_do (operator_text o) (sign_of o) (signs o h)
  token_same ptg.Uplus h = leads_do (codes "+")
  token_same ptg.Uminus h = leads_do (codes "-")
  token_same ptg.Percent h = trails_do (codes "%")
  token_same ptg.Paren h = encloses_do
  token_same ptg.MissArg h = pushes_do (word []) [] refl
  token_same (ptg.Str units cch high) h =
      let text : List ℕ = string_text scope.page high units cch in
      pushes_do (word (codes "\"" ++ (text ++ codes "\""))) (quoted text) (strings text h)
  token_same ptg.Elf h = absurd cc
  token_same ptg.AttrSemi h = keeps_do
  token_same ptg.AttrIf h = keeps_do
  token_same ptg.AttrChoose h = keeps_do
  token_same ptg.AttrGoto h = keeps_do
  token_same ptg.AttrSum h = sum_does
  token_same ptg.AttrBaxcel h = keeps_do
  token_same (ptg.AttrSpace is_return count) h = absurd cc
  token_same (ptg.AttrSpaceSemi is_return count) h = absurd cc
  token_same (ptg.Err error) h = pushes_do (word (err_text error)) (err_text error) refl
  token_same (ptg.Bool truth) h = pushes_do (word (bool_word truth)) (bool_word truth) refl
  token_same (ptg.Int n) h = pushes_do (word (decimal n)) (decimal n) refl
  token_same (ptg.Num bits) h = pushes_do (word (formula_number bits)) (formula_number bits) refl
  token_same ptg.Array h = absurd cc
  token_same (ptg.Func iftab) h = func_same iftab extra (slice_get scope.functions iftab) h
  token_same (ptg.FuncVar count iftab) h = func_var_same count iftab extra (slice_get scope.functions iftab)
  token_same (ptg.Name index) h = absurd cc
  token_same (ptg.Ref corner) h = pushes_do (ref None corner) (cell_text corner) (cells corner)
  token_same (ptg.Area first last) h = pushes_do (area None first last) (area_text scope.biff first last) (areas scope.biff first last h)
  token_same ptg.RefErr h = pushes_do (word (codes "#REF!")) (codes "#REF!") refl
  token_same ptg.AreaErr h = pushes_do (word (codes "#REF!")) (codes "#REF!") refl
  token_same ptg.NameX h = absurd cc
  token_same (ptg.Ref3d ixti corner) h = absurd cc
  token_same (ptg.Area3d ixti first last) h = absurd cc
  token_same (ptg.RefErr3d ixti) h = absurd cc
  token_same (ptg.AreaErr3d ixti) h = absurd cc

  label_same : (t : Ptg (List ℕ)) (left : List ℕ) → t ≡ ptg.Elf → Same (exact.effect context t) (Ok (shows.keeps, left))
  label_same t left e = subst (λ x. Same (exact.effect context x) (Ok (shows.keeps, left))) (sym e) keeps_do

  pub tokens_same : (t : Ptg (List ℕ)) (u : ShownPtg (List ℕ)) → AlikeTokens scope t u
      → Same (exact.effect context t) (shows.effect scope extra u)
  tokens_same t (shown.Known u) h =
      subst (λ x. Same (exact.effect context t) (shows.effect scope extra (shown.Known x))) h.0 (token_same t h.1)
  tokens_same t shown.Nothing h = label_same t extra h
  tokens_same t shown.ElfRadicalS h = label_same t _ h
  tokens_same t u h = absurd h
