-- What stands after the first section doesn't count.
use Rattle.std.proofs.Common.{◌≡◌, ℕ, List, [], ◌∷◌, ◌++◌, map, codes, Bool, true, false, not, cond, ap, refl, arith}
use Rattle.std.specs.Char.{to_ascii_lowercase}
use Rattle.xls_dates.specs.Classes.{◌∈◌, plain_from, outside_from, class_by, class_of, ends_plain}

by_test : {A : Type 0} (t p q : Bool) (x y v w : A) → cond t p q ≡ true → (p ≡ true → x ≡ v) → (q ≡ true → y ≡ w) → cond t x y ≡ cond t v w
by_test true p q x y v w h first second = first h
by_test false p q x y v w h first second = second h

unescaped : (quoted last : Bool) (x : ℕ × ℕ) (f g : Bool → List (ℕ × ℕ)) → f quoted ≡ g quoted
    → cond quoted (f true) (cond last [] (x ∷ f false)) ≡ cond quoted (g true) (cond last [] (x ∷ g false))
unescaped true last x f g e = e
unescaped false true x f g e = refl
unescaped false false x f g e = ap (λ xs. x ∷ xs) e

-- the characters that escape or quote have no case
same_escape : (c : ℕ) → (to_ascii_lowercase c ∈ codes "_\\*") ≡ (c ∈ codes "_\\*")
same_escape c = grind arith

same_quote : (c : ℕ) → (to_ascii_lowercase c ∈ codes "\"") ≡ (c ∈ codes "\"")
same_quote c = grind arith

-- a `;` that is neither escaped nor quoted ends the plain characters as the text's end does
plain_from-section : (prefix rest : List ℕ) (escaped quoted : Bool) (before : ℕ) → ends_plain escaped quoted prefix ≡ true
    → plain_from escaped quoted before (map to_ascii_lowercase (prefix ++ 59 ∷ rest)) ≡ plain_from escaped quoted before (map to_ascii_lowercase prefix)
plain_from-section [] rest false false before plain = refl
plain_from-section [] rest true quoted before plain = cc
plain_from-section [] rest false true before plain = cc
plain_from-section (c ∷ prefix) rest escaped quoted before plain =
    let again : (e q : Bool) → ends_plain e q prefix ≡ true → plain_from e q (to_ascii_lowercase c) (map to_ascii_lowercase (prefix ++ 59 ∷ rest)) ≡ plain_from e q (to_ascii_lowercase c) (map to_ascii_lowercase prefix)
    = λ e q. plain_from-section prefix rest e q (to_ascii_lowercase c) in
    rw (same_escape c, same_quote c) (by_test escaped _ _ _ _ _ _ plain (again false quoted)
    (λ h. by_test (c ∈ codes "_\\*") _ _ _ _ _ _ h (again true quoted)
    (λ k. by_test (c ∈ codes "\"") _ _ _ _ _ _ k (again false (not quoted))
    (λ l. unescaped quoted (to_ascii_lowercase c ∈ codes ";") (before, to_ascii_lowercase c) (λ q. plain_from false q (to_ascii_lowercase c) (map to_ascii_lowercase (prefix ++ 59 ∷ rest))) (λ q. plain_from false q (to_ascii_lowercase c) (map to_ascii_lowercase prefix)) (again false quoted l)))))

pub class_of-section : (prefix rest : List ℕ) → ends_plain false false prefix ≡ true → class_of (prefix ++ 59 ∷ rest) ≡ class_of prefix
class_of-section prefix rest plain = ap (λ xs. class_by false (outside_from 0 false xs)) (plain_from-section prefix rest false false 32 plain)
