-- Equal citations.
use Rattle.std.proofs.Common.{◌≡◌, ℕ, List, refl, ap, ◌∙◌, Bool, true, false, Option, Some, None, arith}
use Rattle.std.specs.Prelude.{◌==◌, ◌&&◌, ◌↔◌}
use Rattle.std.specs.Bool.{Decides}
use Rattle.std.specs.Cmp.Lexicographic.{pointwise}
use Rattle.std.specs.Option.{option_eq}
use Rattle.std.proofs.lemmas.Slice.Eq.{bytes_eq-Decides}
use Rattle.xls_range.specs.Positions.{Position}
use Rattle.xls_refs.specs.Citations.{Citation, same_position, same_cells}

both : (a b : Bool) (P Q : Type 0) → Decides a P → Decides b Q → Decides (a && b) (P × Q)
both true b P Q p q = (λ t. (p.0 refl, q.0 t), λ h. q.1 h.1)
both false b P Q p q = (λ t. absurd cc, λ h. p.1 h.0)

through : (b : Bool) (P Q : Type 0) → Decides b P → (P → Q) → (Q → P) → Decides b Q
through b P Q d f g = (λ t. f (d.0 t), λ h. d.1 (g h))

same_number : (m n : ℕ) → Decides (m == n) (m ≡ n)
same_number m n = (λ t. grind arith, λ e. grind arith)

same_place : (p q : Position) → Decides (same_position p q) (p ≡ q)
same_place p q =
    through (same_position p q) ((p.0 ≡ q.0) × (p.1 ≡ q.1)) (p ≡ q) (both (p.0 == q.0) (p.1 == q.1) (p.0 ≡ q.0) (p.1 ≡ q.1) (same_number p.0 q.0) (same_number p.1 q.1)) (λ h. rw (h.0, h.1) refl) (λ e. (ap (λ (r : Position). r.0) e, ap (λ (r : Position). r.1) e))

same_sheet : (a b : Option (List ℕ)) → Decides (option_eq (pointwise ◌==◌) a b) (a ≡ b)
same_sheet None None = (λ t. refl, λ e. refl)
same_sheet None (Some t) = (λ t. absurd cc, λ e. absurd cc)
same_sheet (Some s) None = (λ t. absurd cc, λ e. absurd cc)
same_sheet (Some s) (Some t) =
    through (pointwise ◌==◌ s t) (s ≡ t) (Some s ≡ Some t) (bytes_eq-Decides s t) (λ e. ap (λ (x : List ℕ). Some x) e) (λ e. cc)

pub repeats_are_equal : (c d : Citation) → (same_cells c d ≡ true) ↔ (c ≡ d)
repeats_are_equal c d =
    through (same_cells c d) (((c.sheet ≡ d.sheet) × (c.first ≡ d.first)) × (c.last ≡ d.last)) (c ≡ d)
    (both (option_eq (pointwise ◌==◌) c.sheet d.sheet && same_position c.first d.first) (same_position c.last d.last) ((c.sheet ≡ d.sheet) × (c.first ≡ d.first)) (c.last ≡ d.last)
    (both (option_eq (pointwise ◌==◌) c.sheet d.sheet) (same_position c.first d.first) (c.sheet ≡ d.sheet) (c.first ≡ d.first) (same_sheet c.sheet d.sheet) (same_place c.first d.first))
    (same_place c.last d.last))
    (λ h. same_parts h.0.0 h.0.1 h.1)
    (λ e. ((ap (λ (x : Citation). x.sheet) e, ap (λ (x : Citation). x.first) e), ap (λ (x : Citation). x.last) e))
  where
    same_parts : c.sheet ≡ d.sheet → c.first ≡ d.first → c.last ≡ d.last → c ≡ d
    same_parts a b e = ap (λ (x : Option (List ℕ)). record { sheet = x; first = c.first; last = c.last }) a
        ∙ (ap (λ (x : Position). record { sheet = d.sheet; first = x; last = c.last }) b ∙ ap (λ (x : Position). record { sheet = d.sheet; first = d.first; last = x }) e)
