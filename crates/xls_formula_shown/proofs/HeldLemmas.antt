-- What operands lie as.
use Rattle.std.proofs.Common.{suc, Err, ◌≡◌, ◌≢◌, ℕ, List, [], ◌∷◌, length, drop, reverse, refl, sym, ◌∙◌, ap}
use Rattle.std.proofs.lemmas.List.{length-reverse}
use Rattle.xls_record.specs.declared.error.XlsError.TheVariants as errors
use Rattle.xls_shown_ptg.specs.declared.fault.Fault.TheVariants as faults
use Rattle.xls_operands.specs.Pieces.{Texts}
use Rattle.xls_formula_shown.specs.Held.{operands_of, size}
use Rattle.xls_formula_shown.specs.ShownFold.{whole}
use Rattle.xls_formula_shown.specs.State.{Operand}
use Rattle.xls_formula_shown.specs.declared.held.Held.{Held}

length_down : (hs : List Held) (ts : Texts) → length (operands_of hs ts) ≡ length hs
length_down [] ts = refl
length_down (h ∷ hs) ts = ap (λ n. suc n) (length_down hs (drop (size h) ts))

pub length-operands_of : (held : List Held) (ts : Texts) → length (operands_of (reverse held) ts) ≡ length held
length-operands_of held ts = length_down (reverse held) ts ∙ length-reverse held

pub held_length : (held : List Held) (ts : Texts) (operands : List Operand) → operands_of (reverse held) ts ≡ operands → length held ≡ length operands
held_length held ts operands e = sym (length-operands_of held ts) ∙ ap length e

-- another number of operands than one
refused : (front : List ℕ) (operands : List Operand) (n : ℕ) → n ≢ 1 → n ≡ length operands → whole front operands ≡ Err (faults.Xls (errors.InvalidFormula n))
refused front [] n ne e = ap (λ k. Err (faults.Xls (errors.InvalidFormula k))) (sym e)
refused front (t ∷ []) n ne e = absurd (ne e)
refused front (t ∷ u ∷ us) n ne e = ap (λ k. Err (faults.Xls (errors.InvalidFormula k))) (sym e)

pub not_alone : (front : List ℕ) (held : List Held) (ts : Texts) (n : ℕ) → length held ≢ 1 → n ≡ length held → whole front (operands_of (reverse held) ts) ≡ Err (faults.Xls (errors.InvalidFormula n))
not_alone front held ts n ne e =
    refused front (operands_of (reverse held) ts) n (λ f. ne (sym e ∙ f)) (e ∙ sym (length-operands_of held ts))
