-- The marks that a name begins with.
use Rattle.std.proofs.Common.{Bool, true, false, ◌≡◌, ℕ, List, [], ◌∷◌, ◌++◌, ◌==◌, if◌then◌else◌, Option, Some, None, Bor, IsUtf8, refl, sym, ◌∙◌, ap, arith, codes, encode_utf8_all}
use Rattle.std.specs.Option.{MatchOption}
use Rattle.std.specs.Str.{chars}
use Rattle.std.specs.Str.Pattern.{FindsTextPrefix, StripsPrefix, LacksTextAt}
use Rattle.std.proofs.lemmas.Bool.Decides.{nat_tests}
use Rattle.std.proofs.lemmas.Str.{chars-append, encodes-append, encodes-chars}
use Rattle.xls_formula_names.specs.Tables.{lent_text}
use Rattle.xls_formula_shown.specs.Held.{SplitsMarks}
use Rattle.xls_formula_shown.specs.ShownFold.{behind_text, or_whole, without}
use Rattle.xls_formula_shown.specs.declared.held.Marks.TheVariants as marks

behind_own : (prefix rest : List ℕ) → behind_text prefix (prefix ++ rest) ≡ Some rest
behind_own [] rest = refl
behind_own (p ∷ ps) rest = grind (arith, nat_tests, behind_own ps rest)

-- what stands behind a text, and the text before it
whole_by : (b : Bool) (p c : ℕ) (ps cs rest : List ℕ) → (b ≡ true → p ≡ c) → (behind_text ps cs ≡ Some rest → cs ≡ ps ++ rest)
    → (if b then behind_text ps cs else None) ≡ Some rest → c ∷ cs ≡ p ∷ (ps ++ rest)
whole_by false p c ps cs rest same more e = grind (arith, e)
whole_by true p c ps cs rest same more e = ap (λ (x : ℕ). x ∷ cs) (sym (same refl)) ∙ ap (λ (x : List ℕ). p ∷ x) (more e)

pub behind_whole : (prefix text rest : List ℕ) → behind_text prefix text ≡ Some rest → text ≡ prefix ++ rest
behind_whole [] text rest e = grind (arith, e)
behind_whole (p ∷ ps) [] rest e = grind (arith, e)
behind_whole (p ∷ ps) (c ∷ cs) rest e = whole_by (p == c) p c ps cs rest (λ t. grind (arith, nat_tests, t)) (λ f. behind_whole ps cs rest f) e

-- ---- by characters

none_of : (prefix name : List ℕ) (r : Option (List ℕ)) → IsUtf8 prefix → IsUtf8 name → LacksTextAt prefix name 0 → behind_text (chars prefix) (chars name) ≡ r → r ≡ None
none_of prefix name None u v lacks e = refl
none_of prefix name (Some rest) u v lacks e =
    absurd (lacks (encode_utf8_all rest)
    (sym (encodes-chars name v)
    ∙ (ap encode_utf8_all (behind_whole (chars prefix) (chars name) rest e)
    ∙ (encodes-append (chars prefix) rest
    ∙ ap (λ (x : List ℕ). x ++ encode_utf8_all rest) (encodes-chars prefix u)))))

-- what `strip_prefix` answers
pub stripped : (prefix name : List ℕ) (r : Option (Bor (List ℕ))) → IsUtf8 prefix → IsUtf8 name
    → MatchOption r (FindsTextPrefix prefix name None) (λ x. StripsPrefix (FindsTextPrefix prefix) name x.now)
    → lent_text r ≡ behind_text (chars prefix) (chars name)
stripped prefix name None u v h = sym (none_of prefix name (behind_text (chars prefix) (chars name)) u v h refl)
stripped prefix name (Some x) u v h =
    let whole : name ≡ prefix ++ x.now = h.1.1 ∙ ap (λ (y : List ℕ). prefix ++ y) (sym h.2) in
    sym (ap (behind_text (chars prefix)) (ap chars whole ∙ chars-append prefix x.now u) ∙ behind_own (chars prefix) (chars x.now))

-- ---- the marks

pub no_marks : (name : List ℕ) → behind_text (codes "_xlfn.") name ≡ None → behind_text (codes "_xlws.") name ≡ None → SplitsMarks marks.Neither name name
no_marks name e f =
    let g : without (codes "_xlfn.") name ≡ name = ap (or_whole name) e in
    record { whole = refl; bare = sym (ap (without (codes "_xlws.")) g ∙ ap (or_whole name) f) }

pub xlws_mark : (name rest : List ℕ) → behind_text (codes "_xlfn.") name ≡ None → behind_text (codes "_xlws.") name ≡ Some rest → SplitsMarks marks.Xlws rest name
xlws_mark name rest e f =
    let g : without (codes "_xlfn.") name ≡ name = ap (or_whole name) e in
    record { whole = behind_whole (codes "_xlws.") name rest f; bare = sym (ap (without (codes "_xlws.")) g ∙ ap (or_whole name) f) }

pub xlfn_mark : (name rest : List ℕ) → behind_text (codes "_xlfn.") name ≡ Some rest → behind_text (codes "_xlws.") rest ≡ None → SplitsMarks marks.Xlfn rest name
xlfn_mark name rest e f =
    let g : without (codes "_xlfn.") name ≡ rest = ap (or_whole name) e in
    record { whole = behind_whole (codes "_xlfn.") name rest e; bare = sym (ap (without (codes "_xlws.")) g ∙ ap (or_whole rest) f) }

pub both_marks : (name rest last : List ℕ) → behind_text (codes "_xlfn.") name ≡ Some rest → behind_text (codes "_xlws.") rest ≡ Some last → SplitsMarks marks.Both last name
both_marks name rest last e f =
    let g : without (codes "_xlfn.") name ≡ rest = ap (or_whole name) e in
    record {
      whole = behind_whole (codes "_xlfn.") name rest e ∙ ap (λ (x : List ℕ). codes "_xlfn." ++ x) (behind_whole (codes "_xlws.") rest last f);
      bare = sym (ap (without (codes "_xlws.")) g ∙ ap (or_whole rest) f);
    }
