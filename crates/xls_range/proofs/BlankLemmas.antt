-- Blanks that are added after cells, one after another.
use Rattle.std.proofs.Common.{◌≡◌, ℕ, zero, suc, ◌+◌, ◌-◌, ◌*◌, ◌<◌, ◌≤◌, inl, inr, arith, refl, List, [], ◌∷◌, ◌++◌, length, take, sym, ◌∙◌, ap, Bool, true, append-nil, append_assoc, length-append}
use Rattle.std.specs.Prelude.{All, Result, Ok, Err, false, if◌then◌else◌, is_ok}
use Rattle.std.specs.Result.{is_err}
use Rattle.std.proofs.lemmas.List.{get_or_append_left, get_or-append_right}
use Rattle.std.proofs.lemmas.List.Elements.{All-append}
use Rattle.std.proofs.lemmas.Nat.{mul-add-lt}
use Rattle.std.proofs.Math.Nat.{mul-le-mul_right}
use Rattle.std.proofs.Math.Seq.{take-append_seam}
use Rattle.xls_range.specs.Grid.{AddsBlanks, Grows}

pub AddsBlanks-zero : {T : Type 0} (blank : T → Bool) (xs : List T) → AddsBlanks blank 0 xs xs
AddsBlanks-zero blank xs = record {
  more = [];
  blanks = record { number = refl; all = λ k d p. absurd (omega arith) };
  is = sym (append-nil xs);
}

pub All-one : {T : Type 0} (P : T → Type 0) (x : T) → P x → All P (x ∷ [])
All-one P x h zero d p = h
All-one P x h (suc k) d p = absurd (omega arith)

pub AddsBlanks-suc : {T : Type 0} (blank : T → Bool) (n : ℕ) (old mid new : List T) (x : T)
    → AddsBlanks blank n old mid → blank x ≡ true → new ≡ mid ++ x ∷ [] → AddsBlanks blank (n + 1) old new
AddsBlanks-suc blank n old mid new x added is e = record {
  more = added.more ++ x ∷ [];
  blanks = record {
    number = length-append added.more (x ∷ []) ∙ ap (λ k. k + 1) added.blanks.number;
    all = All-append (λ y. blank y ≡ true) added.more (x ∷ []) added.blanks.all (All-one (λ y. blank y ≡ true) x is);
  };
  is = e ∙ ap (λ ys. ys ++ x ∷ []) added.is ∙ append_assoc old added.more (x ∷ []);
}

-- without the blanks the cells are what they were
pub take-AddsBlanks : {T : Type 0} (blank : T → Bool) (n k : ℕ) (old new : List T)
    → AddsBlanks blank n old new → k ≡ length old → take k new ≡ old
take-AddsBlanks blank n k old new added e = rw (e, added.is) (take-append_seam old added.more)

-- blanks after the cells are rows of blanks below them
pub Grows-down : {T : Type 0} (blank : T → Bool) (top left h w rows : ℕ) (xs ys : List T)
    → h ≤ rows → length xs ≡ h * w → AddsBlanks blank (rows * w - length xs) xs ys
    → Grows blank (record { top = top; left = left; height = h; width = w; cells = xs }) (record { top = top; left = left; height = rows; width = w; cells = ys }) rows w
Grows-down blank top left h w rows xs ys low count added =
    let fewer : h * w ≤ rows * w = mul-le-mul_right w low in
    record {
      top = refl;
      left = refl;
      height = refl;
      width = refl;
      count = ap length added.is ∙ length-append xs added.more ∙ omega (arith, added.blanks.number);
      kept = λ r c x p q.
          let near : r * w + c < length xs = omega (arith, mul-add-lt r w c h p q) in
          rw added.is (get_or_append_left xs added.more x (r * w + c) near);
      blanks = λ r c x p q far.
          let below : h ≤ r = elim far [ inl a ↦ a | inr b ↦ absurd (omega arith) ] in
          let high : h * w ≤ r * w = mul-le-mul_right w below in
          let following : length xs ≤ r * w + c = omega arith in
          let near : r * w + c - length xs < length added.more = omega (arith, added.blanks.number, mul-add-lt r w c rows p q) in
          rw (added.is, get_or-append_right xs added.more (length xs) (r * w + c) x refl following) (added.blanks.all (r * w + c - length xs) x near);
    }

-- what a push leaves where it succeeded, and where it failed
pub if-is_ok-true : {T E A : Type 0} (r : Result T E) (a b : A) → is_err r ≡ false → (if is_ok r then a else b) ≡ a
if-is_ok-true (Ok x) a b e = refl
if-is_ok-true (Err x) a b e = cc

pub if-is_ok-false : {T E A : Type 0} (r : Result T E) (a b : A) → is_err r ≡ true → (if is_ok r then a else b) ≡ b
if-is_ok-false (Ok x) a b e = cc
if-is_ok-false (Err x) a b e = refl
