-- The texts that tokens leave are those of the trees.
use Rattle.std.proofs.Common.{suc, zero, ◌≡◌, ℕ, ◌<◌, ◌≤◌, List, [], ◌∷◌, ◌++◌, length, map, Result, Ok, Err, refl, sym, ◌∙◌, ap, arith, append_assoc}
use Rattle.std.specs.Prelude.{codes}
use Rattle.std.proofs.lemmas.List.{append-nil, length-map}
use Rattle.std.proofs.lemmas.Bool.Decides.{nat_tests}
use Rattle.xls_record.specs.declared.error.XlsError.{XlsError}
use Rattle.xls_record.specs.declared.error.XlsError.TheVariants as errors
use Rattle.xls_record.specs.Reading.{◌>>=◌, gives, Fails}
use Rattle.xls_formula.specs.Context.{Context}
use Rattle.xls_formula.specs.Tree.{Tree, Trees, wrap, pair, no_trees, tree, render, render_each, separated}
use Rattle.xls_formula.specs.Effects.{Effect, pushes, wraps, pairs, calls, spaces, keeps}
use Rattle.xls_formula.specs.Fold.{Folded, grow, gather, on_one, on_two, space_before, walk_tokens, fold_tokens, tokens_at, one_tree, fold, rendered}
use Rattle.xls_operands.specs.Pieces.{Texts, with_prefix, with_suffix, with_join, one_text}
use Rattle.xls_formula.specs.buffer.Put.{Put, needs, put, with_joins, with_call, with_wrap}
use Rattle.xls_formula.proofs.WalkLemmas.{fails_then, fails_over, walk_over}

-- the operands by their texts
abbrev pub mapped : Folded → Put
mapped f = gives (map render) f

pub enough : (n : ℕ) (ts after : Texts) → n ≤ length ts → needs n ts after ≡ Ok after
enough n ts after le = grind (arith, nat_tests)

pub too_few : (n : ℕ) (ts after : Texts) → length ts < n → needs n ts after ≡ Err errors.StackLen
too_few n ts after lt = grind (arith, nat_tests)

needs_more : (n : ℕ) (t : List ℕ) (ts after : Texts) → needs n ts after ≡ needs (suc n) (t ∷ ts) after
needs_more n t ts after = grind (arith, nat_tests)

-- ---- calls

abbrev closed : List ℕ → Texts → Texts
closed name ts = with_suffix (codes ")") (with_prefix name (with_prefix (codes "(") ts))

gather_more : (n : ℕ) (name : List ℕ) (first : Tree) (others : Trees) (ts : List Tree) → mapped (gather n name (tree first others) ts) ≡ needs n (map render ts) (closed name (with_joins n (separated (render_each (tree first others)) ∷ map render ts)))
gather_more zero name first others ts =
    let inner : List ℕ = separated (render_each (tree first others)) in
    let after : Texts = closed name (inner ∷ map render ts) in
    let same : name ++ (codes "(" ++ (inner ++ codes ")")) ≡ (name ++ (codes "(" ++ inner)) ++ codes ")" = sym (append_assoc name (codes "(" ++ inner) (codes ")")) in
    ap (λ (x : List ℕ). Ok (x ∷ map render ts)) same ∙ sym (enough 0 (map render ts) after (omega arith))
gather_more (suc n) name first others [] = sym (too_few (suc n) [] (closed name (with_joins (suc n) (separated (render_each (tree first others)) ∷ []))) (omega arith))
gather_more (suc n) name first others (t ∷ ts) =
    gather_more n name t (tree first others) ts
    ∙ needs_more n (render t) (map render ts) (closed name (with_joins n (separated (render_each (tree t (tree first others))) ∷ map render ts)))

gather_put : (n : ℕ) (name : List ℕ) (ts : List Tree) → mapped (gather n name no_trees ts) ≡ needs n (map render ts) (with_call n name (map render ts))
gather_put zero name ts = sym (enough 0 (map render ts) (with_call 0 name (map render ts)) (omega arith))
gather_put (suc n) name [] = sym (too_few (suc n) [] (with_call (suc n) name []) (omega arith))
gather_put (suc n) name (t ∷ ts) =
    gather_more n name t no_trees ts ∙ needs_more n (render t) (map render ts) (with_call (suc n) name (map render (t ∷ ts)))

-- ---- one token

one_more : (n : ℕ) (t : List ℕ) (ts after : Texts) → n ≤ 1 → needs n (t ∷ ts) after ≡ Ok after
one_more n t ts after le = enough n (t ∷ ts) after (omega arith)

space_put : (space : List ℕ) (ts : List Tree) → map render (space_before space ts) ≡ with_prefix space (map render ts)
space_put space [] = refl
space_put space (t ∷ ts) = ap (λ (x : List ℕ). (space ++ x) ∷ map render ts) (append-nil (render t))

between_put : (mark : List ℕ) (ts : List Tree) → mapped (on_two (λ left right. pair left mark right) ts) ≡ needs 2 (map render ts) (with_join mark (map render ts))
between_put mark [] = sym (too_few 2 [] [] (omega arith))
between_put mark (t ∷ []) = sym (too_few 2 (render t ∷ []) (render t ∷ []) (omega arith))
between_put mark (r ∷ l ∷ ts) = sym (enough 2 (render r ∷ render l ∷ map render ts) _ (omega arith))

wrap_put : (before after : List ℕ) (ts : List Tree) → mapped (on_one (λ t. wrap before t after) ts) ≡ needs 1 (map render ts) (with_wrap before after (map render ts))
wrap_put before after [] = sym (too_few 1 [] [] (omega arith))
wrap_put before after (t ∷ ts) =
    ap (λ (x : List ℕ). Ok (x ∷ map render ts)) (sym (append_assoc before (render t) after)) ∙ sym (enough 1 (render t ∷ map render ts) _ (omega arith))

-- what an effect leaves of texts is what it leaves of trees
pub grow_put : (e : Effect) (ts : List Tree) → mapped (grow e ts) ≡ put e (map render ts)
grow_put (pushes operand) ts = refl
grow_put (wraps before after) ts = wrap_put before after ts
grow_put (pairs operator) ts = between_put operator ts
grow_put (calls count name) ts = gather_put count name ts
grow_put (spaces marks) ts = ap Ok (space_put marks ts)
grow_put keeps ts = refl

-- ---- the text of the one tree

one_put : (q : Folded) → rendered (◌>>=◌ q one_tree) ≡ ◌>>=◌ (mapped q) one_text
one_put (Err e) = refl
one_put (Ok []) = refl
one_put (Ok (t ∷ [])) = refl
one_put (Ok (t ∷ u ∷ us)) = ap (λ n. Err (errors.InvalidFormula (suc (suc n)))) (sym (length-map us render))

after_length : (context : Context) (r : Result (List ℕ) XlsError) → rendered (◌>>=◌ r (λ tokens. ◌>>=◌ (fold_tokens context tokens) one_tree)) ≡ ◌>>=◌ r (λ tokens. ◌>>=◌ (walk_tokens context put tokens 0 []) one_text)
after_length context (Err e) = refl
after_length context (Ok tokens) =
    one_put (fold_tokens context tokens) ∙ ap (λ (p : Put). ◌>>=◌ p one_text) (walk_over context (map render) grow put grow_put tokens 0 [])

pub fold_text : (context : Context) (rgce : List ℕ) → rendered (fold context rgce) ≡ ◌>>=◌ (tokens_at rgce) (λ tokens. ◌>>=◌ (walk_tokens context put tokens 0 []) one_text)
fold_text context rgce = after_length context (tokens_at rgce)

-- the tokens were read, and left these texts
pub read_whole : (context : Context) (rgce tokens : List ℕ) (none after : Texts) → tokens_at rgce ≡ Ok tokens → none ≡ [] → walk_tokens context put tokens 0 none ≡ Ok after → rendered (fold context rgce) ≡ one_text after
read_whole context rgce tokens none after t e p =
    fold_text context rgce
    ∙ (ap (λ (r : Result (List ℕ) XlsError). ◌>>=◌ r (λ x. ◌>>=◌ (walk_tokens context put x 0 []) one_text)) t
    ∙ ap (λ (q : Put). ◌>>=◌ q one_text) (ap (walk_tokens context put tokens 0) (sym e) ∙ p))

pub refused : (context : Context) (rgce tokens : List ℕ) (none : Texts) (e : XlsError) → tokens_at rgce ≡ Ok tokens → none ≡ [] → Fails e (walk_tokens context put tokens 0 none) → Fails e (rendered (fold context rgce))
refused context rgce tokens none e t z f =
    fails_over e (rendered (fold context rgce)) (◌>>=◌ (walk_tokens context put tokens 0 none) one_text)
    (fold_text context rgce
    ∙ (ap (λ (r : Result (List ℕ) XlsError). ◌>>=◌ r (λ x. ◌>>=◌ (walk_tokens context put x 0 []) one_text)) t
    ∙ ap (λ (x : Texts). ◌>>=◌ (walk_tokens context put tokens 0 x) one_text) (sym z)))
    (fails_then e (walk_tokens context put tokens 0 none) one_text f)
