-- The line of a cell as text, by its pieces.
use Rattle.std.proofs.Common.{◌≡◌, ℕ, ◌+◌, ◌/◌, ◌%◌, ◌<◌, ◌≤◌, List, [], ◌∷◌, ◌++◌, Result, Ok, Err, append_assoc, append-nil, codes, arith, refl, sym, ap, ◌∙◌}
use Rattle.std.specs.Prelude.{OnOk}
use Rattle.std.specs.Fmt.{decimal}
use Rattle.std.proofs.lemmas.Fmt.{decimal_digit, decimal_step}
use Rattle.xls_output.specs.Added.{AddsText}
use Rattle.xls_readable.specs.Growth.{cell_head}
use Rattle.xls_readable.specs.Items.{FieldItem, IsItemText, IsTextLine, exact_line, exact_text}
use Rattle.xls_readable.specs.Lines.{cell_members}

decimal_of_two : (n : ℕ) → 10 ≤ n → n < 100 → decimal n ≡ (48 + n / 10) ∷ (48 + n % 10) ∷ []
decimal_of_two n l s =
    decimal_step n l (omega (arith, s)) ∙ ap (λ t. t ++ (48 + n % 10) ∷ []) (decimal_digit (n / 10) (omega (arith, s)))

pub adds_two_digits : {X E : Type 0} (r : Result X E) (n : ℕ) (old now new : List ℕ) → 10 ≤ n → n < 100
    → now ≡ old ++ (48 + n / 10) ∷ [] → OnOk r (new ≡ now ++ (48 + n % 10) ∷ []) → OnOk r (new ≡ old ++ decimal n)
adds_two_digits (Ok x) n old now new l s e f =
    f ∙ ap (λ t. t ++ (48 + n % 10) ∷ []) e ∙ append_assoc old ((48 + n / 10) ∷ []) ((48 + n % 10) ∷ [])
    ∙ ap (λ t. old ++ t) (sym (decimal_of_two n l s))
adds_two_digits (Err e) n old now new l s f g = tt

pieces : (old word tab row column kind text end : List ℕ)
    → ((old ++ ((word ++ tab) ++ (row ++ tab) ++ (column ++ (tab ++ (kind ++ tab))))) ++ text) ++ end
    ≡ old ++ (word ++ (((tab ++ row) ++ ((tab ++ column) ++ ((tab ++ kind) ++ ((tab ++ text) ++ [])))) ++ end))
pieces old word tab row column kind text end = simp (append_assoc, append-nil)

pub adds_cell_line : (row column : ℕ) (kind : List ℕ) (item : FieldItem) (old begun valued new : List ℕ)
    → begun ≡ old ++ cell_head (row, column) kind → AddsText (IsItemText item) begun valued → new ≡ valued ++ codes "\n"
    → AddsText (IsTextLine (codes "cell") (cell_members row column kind item)) old new
adds_cell_line row column kind item old begun valued new e (text, is, f) g =
    let fields : List ℕ = (codes "\t" ++ decimal row) ++ ((codes "\t" ++ decimal column) ++ ((codes "\t" ++ kind) ++ ((codes "\t" ++ text) ++ []))) in (
      codes "cell" ++ (fields ++ codes "\n"),
      (
        fields,
        (_, _, (_, refl, refl), (_, _, (_, refl, refl), (_, _, (_, refl, refl), (_, _, (text, is, refl), refl, refl), refl), refl), refl),
        refl,
      ),
      g ∙ ap (λ t. t ++ codes "\n") (f ∙ ap (λ t. t ++ text) e)
          ∙ pieces old (codes "cell") (codes "\t") (decimal row) (decimal column) kind text (codes "\n"),
    )

pub exact_cell_line : (row column : ℕ) (kind : List ℕ) (item : FieldItem) (old begun valued new : List ℕ)
    → begun ≡ old ++ cell_head (row, column) kind → valued ≡ begun ++ exact_text item → new ≡ valued ++ codes "\n"
    → new ≡ old ++ exact_line (codes "cell") (cell_members row column kind item)
exact_cell_line row column kind item old begun valued new e f g =
    g ∙ ap (λ t. t ++ codes "\n") (f ∙ ap (λ t. t ++ exact_text item) e)
    ∙ pieces old (codes "cell") (codes "\t") (decimal row) (decimal column) kind (exact_text item) (codes "\n")
