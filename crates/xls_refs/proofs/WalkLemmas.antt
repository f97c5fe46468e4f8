-- The operands and the citations that tokens leave are those of the trees.
use Rattle.std.proofs.Common.{suc, zero, ◌≡◌, ℕ, ◌+◌, ◌<◌, List, [], ◌∷◌, ◌++◌, length, Result, Ok, Err, refl, sym, ◌∙◌, ap, arith, append_assoc}
use Rattle.std.proofs.lemmas.List.{append-nil}
use Rattle.std.proofs.lemmas.Bool.Decides.{nat_tests}
use Rattle.xls_record.specs.declared.error.XlsError.{XlsError}
use Rattle.xls_record.specs.declared.error.XlsError.TheVariants as errors
use Rattle.xls_record.specs.Reading.{◌>>=◌, gives, Fails}
use Rattle.xls_formula.specs.Context.{Context}
use Rattle.xls_formula.specs.Effects.{Effect, pushes, wraps, pairs, calls, spaces, keeps}
use Rattle.xls_formula.specs.Fold.{Folded, grow, gather, on_one, on_two, space_before, walk_tokens, fold_tokens, one_tree}
use Rattle.xls_formula.specs.Tree.{Tree, Trees, wrap, pair, no_trees, tree}
use Rattle.xls_formula.proofs.WalkLemmas.{fails_then, fails_over, walk_over}
use Rattle.xls_refs.specs.Citations.{Citation, leaves, leaves_each}
use Rattle.xls_refs.specs.Steps.{Tally, joined, with_joined, tally, one_cited, leaves_of}

-- ---- the count of operands

pub joined_enough : (n count left : ℕ) → count ≡ left + n → joined n count ≡ Ok (left + 1)
joined_enough zero count left e = let f : suc count ≡ left + 1 = omega (arith, e) in ap Ok f
joined_enough (suc n) zero left e = absurd (omega (arith, e))
joined_enough (suc n) (suc count) left e = joined_enough n count left (omega (arith, e))

pub joined_few : (n count : ℕ) → count < n → joined n count ≡ Err errors.StackLen
joined_few zero count lt = absurd (omega (arith, lt))
joined_few (suc n) zero lt = refl
joined_few (suc n) (suc count) lt = joined_few n count (omega (arith, lt))

-- ---- one token

-- of operands, of which the last one stands first
abbrev pub leaves_down : List Tree → List Citation
leaves_down [] = []
leaves_down (t ∷ ts) = leaves_down ts ++ leaves t

-- how many operands there are, and their leaves from left to right
abbrev pub seen : List Tree → Tally
seen ts = (length ts, leaves_down ts)

gather_seen : (n : ℕ) (name : List ℕ) (operands : Trees) (ts : List Tree)
    → gives seen (gather n name operands ts) ≡ with_joined n (length ts, leaves_down ts ++ leaves_each operands)
gather_seen zero name operands ts = refl
gather_seen (suc n) name operands [] = refl
gather_seen (suc n) name operands (t ∷ ts) =
    gather_seen n name (tree t operands) ts
    ∙ ap (λ (cs : List Citation). with_joined n (length ts, cs)) (sym (append_assoc (leaves_down ts) (leaves t) (leaves_each operands)))

call_seen : (n : ℕ) (name : List ℕ) (ts : List Tree) → gives seen (gather n name no_trees ts) ≡ with_joined n (seen ts)
call_seen n name ts =
    gather_seen n name no_trees ts ∙ ap (λ (cs : List Citation). with_joined n (length ts, cs)) (append-nil (leaves_down ts))

wrap_seen : (before after : List ℕ) (ts : List Tree) → gives seen (on_one (λ t. wrap before t after) ts) ≡ with_joined 1 (seen ts)
wrap_seen before after [] = refl
wrap_seen before after (t ∷ ts) = refl

pair_seen : (operator : List ℕ) (ts : List Tree) → gives seen (on_two (λ left right. pair left operator right) ts) ≡ with_joined 2 (seen ts)
pair_seen operator [] = refl
pair_seen operator (t ∷ []) = refl
pair_seen operator (r ∷ l ∷ ts) =
    ap (λ (cs : List Citation). Ok (suc (length ts), cs)) (sym (append_assoc (leaves_down ts) (leaves l) (leaves r)))

space_seen : (marks : List ℕ) (ts : List Tree) → seen (space_before marks ts) ≡ seen ts
space_seen marks [] = refl
space_seen marks (t ∷ ts) = refl

-- what an effect makes of both is what it makes of the trees
grow_seen : (e : Effect) (ts : List Tree) → gives seen (grow e ts) ≡ tally e (seen ts)
grow_seen (pushes operand) ts = refl
grow_seen (wraps before after) ts = wrap_seen before after ts
grow_seen (pairs operator) ts = pair_seen operator ts
grow_seen (calls count name) ts = call_seen count name ts
grow_seen (spaces marks) ts = ap Ok (space_seen marks ts)
grow_seen keeps ts = refl

-- ---- all tokens

one_seen : (q : Folded) → gives leaves (q >>= one_tree) ≡ gives seen q >>= one_cited
one_seen (Err e) = refl
one_seen (Ok []) = refl
one_seen (Ok (t ∷ [])) = refl
one_seen (Ok (t ∷ u ∷ us)) = grind (arith, nat_tests)

pub leaves_by_tally : (context : Context) (tokens : List ℕ) → leaves_of context tokens ≡ walk_tokens context tally tokens 0 (0, []) >>= one_cited
leaves_by_tally context tokens =
    one_seen (fold_tokens context tokens)
    ∙ ap (λ (r : Result Tally XlsError). r >>= one_cited) (walk_over context seen grow tally grow_seen tokens 0 [])

pub refused : (context : Context) (tokens : List ℕ) (none : List Citation) (e : XlsError) → none ≡ [] → Fails e (walk_tokens context tally tokens 0 (0, none))
    → Fails e (leaves_of context tokens)
refused context tokens none e is f =
    fails_over e (leaves_of context tokens) (walk_tokens context tally tokens 0 (0, none) >>= one_cited)
    (leaves_by_tally context tokens ∙ ap (λ (cs : List Citation). walk_tokens context tally tokens 0 (0, cs) >>= one_cited) (sym is))
    (fails_then e (walk_tokens context tally tokens 0 (0, none)) one_cited f)

pub after_all : (context : Context) (tokens : List ℕ) (none cites : List Citation) (count : ℕ) → none ≡ [] → walk_tokens context tally tokens 0 (0, none) ≡ Ok (count, cites)
    → leaves_of context tokens ≡ one_cited (count, cites)
after_all context tokens none cites count is all =
    leaves_by_tally context tokens
    ∙ (ap (λ (cs : List Citation). walk_tokens context tally tokens 0 (0, cs) >>= one_cited) (sym is)
    ∙ ap (λ (r : Result Tally XlsError). r >>= one_cited) all)

pub one_left : (count : ℕ) (cites : List Citation) → count ≡ 1 → one_cited (count, cites) ≡ Ok cites
one_left count cites e = grind (arith, nat_tests)

pub other_count : (count : ℕ) (cites : List Citation) → (count ≡ 1 → ⊥) → one_cited (count, cites) ≡ Err (errors.InvalidFormula count)
other_count count cites ne = grind (arith, nat_tests)
