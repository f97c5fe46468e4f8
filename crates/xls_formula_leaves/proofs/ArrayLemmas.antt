-- The values of a constant array, one after another.
use Rattle.std.proofs.Common.{◌≡◌, ℕ, suc, ◌+◌, ◌*◌, List, [], ◌∷◌, ◌++◌, Result, Ok, Err, refl, sym, subst, ap, ◌∙◌, append_assoc}
use Rattle.std.proofs.Common.{append-nil, arith, codes}
use Rattle.std.specs.Str.{chars}
use Rattle.xls_text.specs.declared.encoding.XlsEncoding.{XlsEncoding}
use Rattle.xls_record.specs.declared.version.Biff.{Biff}
use Rattle.xls_shown_ptg.specs.Arrays.{ConstantArray, Left, ser_at, sers_at, size_at}
use Rattle.xls_shown_ptg.specs.Reading.{◌>>=◌, gives}
use Rattle.xls_shown_ptg.specs.declared.arrays.ArraySize.{ArraySize}
use Rattle.xls_shown_ptg.specs.declared.arrays.SerAr.{SerAr}
use Rattle.xls_shown_ptg.specs.declared.fault.Fault.{Fault}
use Rattle.xls_formula_leaves.specs.Answers.{behind}
use Rattle.xls_formula_leaves.specs.Constants.{array_text, array_text_at, separator, ser_text, values_text}

abbrev Value : Type 0
Value = SerAr (List ℕ)

-- the text of values from value i on, and what stands behind them
abbrev pub texts_of : XlsEncoding → ℕ → ℕ → Left (List Value) → Result (List ℕ × List ℕ) Fault
texts_of page columns i r = gives {X = List Value × List ℕ} {Y = List ℕ × List ℕ} (λ x. (values_text page columns i x.0, x.1)) r

-- a value, and the values behind it
abbrev then_others : Biff → ℕ → Left Value → Left (List Value)
then_others biff n r = r >>= λ first. sers_at biff n first.1 >>= λ others. Ok (first.0 ∷ others.0, others.1)

-- so many
abbrev pub values_at : XlsEncoding → Biff → ℕ → ℕ → ℕ → List ℕ → Result (List ℕ × List ℕ) Fault
values_at page biff columns i n bytes = texts_of page columns i (sers_at biff n bytes)

-- three texts behind a fourth
in_one : (old new s t vs : List ℕ) → new ≡ old ++ (s ++ t) → new ++ vs ≡ old ++ (s ++ (t ++ vs))
in_one old new s t vs f = ap (λ x. x ++ vs) f ∙ (append_assoc old (s ++ t) vs ∙ ap (λ x. old ++ x) (append_assoc s t vs))

-- the values behind the first
behind_first : (page : XlsEncoding) (columns i : ℕ) (old new : List ℕ) (v : Value) (r : Left (List Value)) → new ≡ old
    ++ (separator columns i ++ ser_text page v)
    → behind new (texts_of page columns (i + 1) r)
    ≡ behind old (texts_of page columns i (r >>= λ (others : List Value × List ℕ). Ok (v ∷ others.0, others.1)))
behind_first page columns i old new v (Ok x) f = ap (λ t. Ok (t, x.1)) (in_one old new (separator columns i) (ser_text page v)
    (values_text page columns (i + 1) x.0) f)
behind_first page columns i old new v (Err e) f = refl

-- a value more
pub one_more : (page : XlsEncoding) (biff : Biff) (columns i n : ℕ) (old new left : List ℕ) (v : Value) (rest : List ℕ)
    → ser_at biff left ≡ Ok (v, rest)
    → new ≡ old ++ (separator columns i ++ ser_text page v)
    → behind new (values_at page biff columns (i + 1) n rest) ≡ behind old (values_at page biff columns i (suc n) left)
one_more page biff columns i n old new left v rest e f =
    subst (λ (r : Left Value). behind new (values_at page biff columns (i + 1) n rest)
    ≡ behind old (texts_of page columns i (then_others biff n r)))
    (sym e) (behind_first page columns i old new v (sers_at biff n rest) f)

-- a value with a fault
pub at_fault : (page : XlsEncoding) (biff : Biff) (columns i n : ℕ) (old left : List ℕ) (fault : Fault) → ser_at biff left ≡ Err fault
    → behind old (values_at page biff columns i (suc n) left) ≡ Err fault
at_fault page biff columns i n old left fault e =
    subst (λ (r : Left Value). behind old (texts_of page columns i (then_others biff n r)) ≡ Err fault) (sym e) refl

-- no value more
pub at_end : (old left : List ℕ) → behind old (Ok ([], left)) ≡ Ok (old, left)
at_end old left = ap (λ t. Ok (t, left)) (append-nil old)

-- a fault is that of the definition
pub fault_of : (old : List ℕ) (input : Result (List ℕ × List ℕ) Fault) (fault : Fault) → behind old input ≡ Err fault → input ≡ Err fault
fault_of old (Ok x) fault e = grind (arith, e)
fault_of old (Err f) fault e = e

-- ---- the array

pub opening : chars (codes "{") ≡ codes "{"
unfolding chars
opening = refl

pub closing : chars (codes "}") ≡ codes "}"
unfolding chars
closing = refl

abbrev text_in : Result (List ℕ × List ℕ) Fault → List ℕ
text_in (Ok x) = x.0
text_in (Err e) = []

abbrev left_in : Result (List ℕ × List ℕ) Fault → List ℕ
left_in (Ok x) = x.1
left_in (Err e) = []

in_brackets : (old opened full new vs : List ℕ) → opened ≡ old ++ codes "{" → opened ++ vs ≡ full → new ≡ full ++ codes "}" → old
    ++ (codes "{" ++ (vs ++ codes "}")) ≡ new
in_brackets old opened full new vs e f g =
    sym (g ∙ (ap (λ x. x ++ codes "}") (sym f) ∙ (ap (λ x. x ++ vs ++ codes "}") e
    ∙ (append_assoc (old ++ codes "{") vs (codes "}") ∙ append_assoc old (codes "{") (vs ++ codes "}")))))

-- from its values on
abbrev array_of : XlsEncoding → ℕ → Left (List Value) → Result (List ℕ × List ℕ) Fault
array_of page columns r =
    gives {X = ConstantArray × List ℕ} {Y = List ℕ × List ℕ} (λ x. (array_text page x.0, x.1))
    (r >>= λ (body : List Value × List ℕ). Ok (record { columns = columns; values = body.0 }, body.1))

with_values : (page : XlsEncoding) (columns : ℕ) (old opened full new left : List ℕ) (r : Left (List Value)) → opened ≡ old ++ codes "{"
    → behind opened (texts_of page columns 0 r) ≡ Ok (full, left) → new ≡ full ++ codes "}" → behind old (array_of page columns r)
    ≡ Ok (new, left)
with_values page columns old opened full new left (Ok x) e f g =
    ap (λ t. Ok (t, x.1)) (in_brackets old opened full new (values_text page columns 0 x.0) e (ap text_in f) g) ∙ ap (λ t. Ok
    (new, t)) (ap left_in f)
with_values page columns old opened full new left (Err d) e f g = grind (arith, f)

-- an array whose size and values were read
pub whole_array : (page : XlsEncoding) (biff : Biff) (extra : List ℕ) (size : ArraySize) (values : List ℕ) (count : ℕ)
    (old opened full new left : List ℕ)
    → size_at biff extra ≡ Ok (size, values) → count ≡ size.columns * size.rows → opened ≡ old ++ codes "{"
    → behind opened (values_at page biff size.columns 0 count values) ≡ Ok (full, left) → new ≡ full ++ codes "}"
    → behind old (array_text_at page biff extra) ≡ Ok (new, left)
whole_array page biff extra size values count old opened full new left h n e f g =
    subst
    (λ (r : Left ArraySize). behind old (gives {X = ConstantArray × List ℕ} {Y = List ℕ × List ℕ} (λ x. (array_text page x.0, x.1))
    (r >>= λ head. sers_at biff (head.0.columns * head.0.rows) head.1 >>= λ body. Ok
    (record { columns = head.0.columns; values = body.0 }, body.1))) ≡ Ok (new, left))
    (sym h)
    (with_values page size.columns old opened full new left (sers_at biff (size.columns * size.rows) values) e
    (subst (λ m. behind opened (values_at page biff size.columns 0 m values) ≡ Ok (full, left)) n f) g)
