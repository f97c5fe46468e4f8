-- White space that waits.
use Rattle.std.proofs.Common.{◌≡◌, ℕ, List, [], String, Global, ◌∙◌, ap}
use Rattle.std.specs.Str.{chars}
use Rattle.std.specs.String.{string_bytes}
use Rattle.std.proofs.lemmas.Str.{chars-nil}
use Rattle.xls_strings.specs.Texts.{text_of}
use Rattle.xls_formula_shown.specs.State.{Operand, State, Waiting, nothing_waits, start}

pub empty_text : (s : String Global) → string_bytes s ≡ [] → text_of s ≡ []
empty_text s e = ap chars e ∙ chars-nil

abbrev waiting_of : List ℕ → List ℕ → Waiting
waiting_of b c = record { before = b; closing = c }

pub nothing_left : (b c : String Global) → string_bytes b ≡ [] → string_bytes c ≡ [] → waiting_of (text_of b) (text_of c) ≡ nothing_waits
nothing_left b c e f = ap (λ (x : List ℕ). waiting_of x (text_of c)) (empty_text b e) ∙ ap (waiting_of []) (empty_text c f)

abbrev state_of : List Operand → Waiting → List ℕ → State
state_of operands waiting front = record { operands = operands; waiting = waiting; front = front }

pub at_start : (operands : List Operand) (waiting : Waiting) (front : String Global) → operands ≡ [] → waiting ≡ nothing_waits → string_bytes front ≡ []
    → state_of operands waiting (text_of front) ≡ start
at_start operands waiting front e f g =
    ap (λ (x : List Operand). state_of x waiting (text_of front)) e
    ∙ (ap (λ (x : Waiting). state_of [] x (text_of front)) f ∙ ap (λ (x : List ℕ). state_of [] nothing_waits x) (empty_text front g))
