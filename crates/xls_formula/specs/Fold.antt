-- From tokens to the tree of a formula, and its first refusal ([MS-XLS] 2.5.198).
use Rattle.std.specs.Prelude.{ℕ, zero, suc, ◌+◌, List, [], ◌∷◌, length, take, drop, Result, Ok, Err}
use Rattle.xls_record.specs.Reading.{◌>>=◌, gives}
use Rattle.xls_stream.specs.declared.part.Part.TheVariants as parts
use Rattle.xls_record.specs.declared.error.XlsError.{XlsError}
use Rattle.xls_record.specs.declared.error.XlsError.TheVariants as errors
use Rattle.xls_formula.specs.Context.{Context}
use Rattle.xls_formula.specs.Effects.{Effect, pushes, wraps, pairs, calls, spaces, keeps, effect_at}
use Rattle.xls_ptg.specs.Fields.{word_at, sized_as}
use Rattle.xls_formula.specs.Tree.{Tree, Trees, wrap, pair, call, no_trees, tree, render}

-- ---- one token

-- what a token leaves of the operands, the last one first
abbrev pub Folded : Type 0
Folded = Result (List Tree) XlsError

abbrev pub on_one : (Tree → Tree) → List Tree → Folded
on_one f [] = Err errors.StackLen
on_one f (t ∷ ts) = Ok (f t ∷ ts)

abbrev pub on_two : (Tree → Tree → Tree) → List Tree → Folded
on_two f [] = Err errors.StackLen
on_two f (t ∷ []) = Err errors.StackLen
on_two f (right ∷ left ∷ ts) = Ok (f left right ∷ ts)

-- the last operands become those of a call
abbrev pub gather : ℕ → List ℕ → Trees → List Tree → Folded
gather zero name operands ts = Ok (call name operands ∷ ts)
gather (suc n) name operands [] = Err errors.StackLen
gather (suc n) name operands (t ∷ ts) = gather n name (tree t operands) ts

-- of no operand none
abbrev pub space_before : List ℕ → List Tree → List Tree
space_before space [] = []
space_before space (t ∷ ts) = wrap space t [] ∷ ts

-- an effect on the operands
abbrev pub grow : Effect → List Tree → Folded
grow (pushes operand) ts = Ok (operand ∷ ts)
grow (wraps before after) ts = on_one (λ t. wrap before t after) ts
grow (pairs operator) ts = on_two (λ left right. pair left operator right) ts
grow (calls count name) ts = gather count name no_trees ts
grow (spaces marks) ts = Ok (space_before marks ts)
grow keeps ts = Ok ts

-- ---- all tokens

-- what is left where each token in turn changes it by its effect; so many bytes belong to the last
-- token still
abbrev pub walk_tokens : {X : Type 0} → Context → (Effect → X → Result X XlsError) → List ℕ → ℕ → X → Result X XlsError
walk_tokens context change [] more x = Ok x
walk_tokens context change (b ∷ bytes) (suc more) x = walk_tokens context change bytes more x
walk_tokens context change (b ∷ bytes) zero x = do
  e ← effect_at context (b ∷ bytes)
  y ← change e.0 x
  walk_tokens context change bytes e.1 y

-- the operands after all tokens
abbrev pub fold_tokens : Context → List ℕ → Folded
fold_tokens context tokens = walk_tokens context grow tokens 0 []

abbrev pub one_tree : List Tree → Result Tree XlsError
one_tree [] = Err (errors.InvalidFormula 0)
one_tree (t ∷ []) = Ok t
one_tree (t ∷ u ∷ us) = Err (errors.InvalidFormula (length (t ∷ u ∷ us)))

-- the tokens after their length, a number of 16 bits (cce)
abbrev pub tokens_at : List ℕ → Result (List ℕ) XlsError
tokens_at rgce =
    sized_as parts.Rgce 2 rgce
    (sized_as parts.Rgce (2 + word_at 0 rgce) rgce (Ok (take (word_at 0 rgce) (drop 2 rgce))))

-- the tree of a formula
abbrev pub fold : Context → List ℕ → Result Tree XlsError
fold context rgce = do
  tokens ← tokens_at rgce
  ts ← fold_tokens context tokens
  one_tree ts

abbrev pub rendered : Result Tree XlsError → Result (List ℕ) XlsError
rendered read = gives render read

-- the text of a formula
abbrev pub formula_text : Context → List ℕ → Result (List ℕ) XlsError
formula_text context rgce = rendered (fold context rgce)
