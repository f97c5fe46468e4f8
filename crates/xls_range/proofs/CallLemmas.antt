-- Calls from both ends, one after the other.
use Rattle.std.proofs.Common.{List, [], ◌∷◌, ◌++◌, Some, None, sym, ap, ◌∙◌, append_assoc, append-nil}
use Rattle.xls_range.specs.Calls.{Next, NextBack, from_start, from_end, EachOnce}

pub each_once : {S : Type 0} {A : Type 0} {B : Type 0} (view : A → B) (rest : S → List B) → EachOnce view rest
each_once {B = B} view rest s t [] same = ap rest same ∙ sym (append-nil (rest t))
each_once {B = B} view rest s t (Next None ∷ calls) (mid, gives, leads) =
    gives.0 ∙ sym gives.1 ∙ each_once view rest mid t calls leads
each_once {B = B} view rest s t (Next (Some x) ∷ calls) (mid, gives, leads) =
    gives ∙ ap (λ (l : List B). view x ∷ l) (each_once view rest mid t calls leads)
each_once {B = B} view rest s t (NextBack None ∷ calls) (mid, gives, leads) =
    gives.0 ∙ sym gives.1 ∙ each_once view rest mid t calls leads
    ∙ ap (λ (l : List B). from_start view calls ++ (rest t ++ l)) (sym (append-nil (from_end view calls)))
each_once {B = B} view rest s t (NextBack (Some x) ∷ calls) (mid, gives, leads) =
    gives ∙ ap (λ (l : List B). l ++ view x ∷ []) (each_once view rest mid t calls leads)
    ∙ append_assoc (from_start view calls) (rest t ++ from_end view calls) (view x ∷ [])
    ∙ ap (λ (l : List B). from_start view calls ++ l) (append_assoc (rest t) (from_end view calls) (view x ∷ []))
