-- A number of rows in decimal.
use Rattle.std.proofs.Common.{◌≡◌, ℕ, zero, suc, ◌+◌, ◌/◌, ◌%◌, ◌<◌, ◌≤◌, ◌^◌, List, [], ◌∷◌, ◌++◌, length, get_or, refl, sym, ap, subst, ◌∙◌, arith, Result, Ok}
use Rattle.std.specs.Fmt.{decimal, digits}
use Rattle.std.specs.Str.Parse.{ParsesUnsigned, AllDigits, digits_value}
use Rattle.std.proofs.lemmas.Result.{OkIff-at_ok}
use Rattle.std.proofs.lemmas.Fmt.{parse-decimal, decimal-digits_value, decimal_by_steps}
use Rattle.std.proofs.lemmas.Str.Parse.{IsNumeralModel, parse_plain}
use Rattle.xls_command.specs.Words.{BeginsWell, IsRows}

model : IsNumeralModel (AllDigits 10) (digits_value 10)
model = record { to = λ ds h. h; from = λ ds h. h; same = λ ds h. refl }

-- ---- what begins well

abbrev Leads : ℕ → List ℕ → Type 0
Leads n [] = ⊥
Leads n (b ∷ bs) = (1 ≤ n → 49 ≤ b) × (b ≤ 57)

leads_more : (n x : ℕ) (ds : List ℕ) → 10 ≤ n → Leads (n / 10) ds → Leads n (ds ++ x ∷ [])
leads_more n x [] l h = absurd h
leads_more n x (d ∷ ds) l h = (λ least. h.0 (omega (arith, l)), h.1)

leads : (n : ℕ) → n < 2 ^ 64 → Leads n (decimal n)
leads n l = decimal_by_steps Leads (λ m small. (λ least. omega (arith, least), omega (arith, small))) (λ m ds big h. leads_more m (48 + m % 10) ds big h) n l

begins : (n : ℕ) (ds : List ℕ) → 1 ≤ n → Leads n ds → BeginsWell ds
begins n [] least h = absurd h
begins n (d ∷ ds) least h = (h.0 least, h.1)

-- a number of rows does
pub rows_begin : (text : List ℕ) (n : ℕ) → IsRows text n → BeginsWell text
rows_begin text n r =
    subst BeginsWell (sym r.text_is) (begins n (decimal n) r.least (leads n (omega (arith, r.most))))

-- ---- what is parsed

first : (text : List ℕ) → BeginsWell text → (get_or text 0 0 ≡ 43 → ⊥) × (get_or text 0 0 ≡ 48 → length text ≡ 1)
first [] h = absurd h
first (b ∷ bs) h = (λ e. absurd (omega (arith, e, h.0)), λ e. absurd (omega (arith, e, h.0)))

decimal_zero : decimal 0 ≡ 48 ∷ []
unfolding digits
decimal_zero = refl

not_zero : (text : List ℕ) (n : ℕ) → BeginsWell text → decimal n ≡ text → 1 ≤ n
not_zero text zero h e = let w = subst BeginsWell (sym e ∙ decimal_zero) h in omega (arith, w.0)
not_zero text (suc n) h e = omega arith

pub rows_found : {E : Type 0} (text : List ℕ) (n : ℕ) (r : Result ℕ E) → BeginsWell text
    → ParsesUnsigned 32 10 text r → r ≡ Ok n → n ≤ 65536 → IsRows text n
rows_found text n r h p e most =
    let f = first text h in
    let parsed : (AllDigits 10 text × (0 < length text) × (digits_value 10 text < 2 ^ 32)) × (n ≡ digits_value 10 text) = OkIff-at_ok r _ _ n (parse_plain model 32 text r p f.0) e in
    let is : decimal (digits_value 10 text) ≡ text = decimal-digits_value model text parsed.0.0 parsed.0.1 f.1 (omega (arith, parsed.0.2)) in
    let same : decimal n ≡ text = ap decimal parsed.1 ∙ is in
    record { least = not_zero text n h same; most = most; text_is = sym same }

-- a number of rows is parsed
pub rows_parsed : {E : Type 0} (text : List ℕ) (n : ℕ) (r : Result ℕ E) → ParsesUnsigned 32 10 text r
    → IsRows text n → r ≡ Ok n
rows_parsed text n r p i =
    parse-decimal 32 n text r (omega (arith, i.most)) (omega (arith, i.most)) i.text_is p

pub rows_same : {E : Type 0} (r : Result ℕ E) (n m : ℕ) → r ≡ Ok n → r ≡ Ok m → n ≡ m
rows_same r n m a b = let e = sym a ∙ b in cc
