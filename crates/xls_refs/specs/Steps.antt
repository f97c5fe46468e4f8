-- What the code keeps of operands and citations, for the proofs. What the contracts of public
-- calls say doesn't depend on it.
use Rattle.std.specs.Prelude.{◌≡◌, ℕ, zero, suc, List, ◌++◌, ◌==◌, if◌then◌else◌, IfSome, Option, Result, Ok, Err}
use Rattle.std.specs.BTreeSet.{BTreeSet, contains}
use Rattle.std.specs.Borrow.{Bor}
use Rattle.std.specs.Cmp.Lexicographic.{slice_cmp}
use Rattle.std.specs.List.{list_any}
use Rattle.std.specs.Option.{option_cmp}
use Rattle.std.specs.Ordering.{nat_cmp, ordering_then}
use Rattle.std.specs.declared.cmp.Ordering.{Ordering}
use Rattle.std.specs.Str.{IsUtf8}
use Rattle.xls_record.specs.Reading.{◌>>=◌, gives}
use Rattle.xls_record.specs.declared.error.XlsError.{XlsError}
use Rattle.xls_record.specs.declared.error.XlsError.TheVariants as errors
use Rattle.xls_formula.specs.Context.{Context}
use Rattle.xls_formula.specs.Effects.{Effect, pushes, wraps, pairs, calls, spaces, keeps}
use Rattle.xls_formula.specs.Fold.{fold, fold_tokens, one_tree}
use Rattle.xls_formula.specs.Holding.{lent_text}
use Rattle.xls_refs.specs.Citations.{Citation, same_cells, distinct, leaves}

-- ---- operands and citations

-- how many operands there are, and what they cite from left to right
abbrev pub Tally : Type 0
Tally = ℕ × List Citation

-- how many operands there are where the last of so many become one
abbrev pub joined : ℕ → ℕ → Result ℕ XlsError
joined zero count = Ok (suc count)
joined (suc n) zero = Err errors.StackLen
joined (suc n) (suc count) = joined n count

abbrev pub with_joined : ℕ → Tally → Result Tally XlsError
with_joined n s = gives (λ count. (count, s.1)) (joined n s.0)

-- an effect on both
abbrev pub tally : Effect → Tally → Result Tally XlsError
tally (pushes operand) s = Ok (suc s.0, s.1 ++ leaves operand)
tally (wraps before after) s = with_joined 1 s
tally (pairs operator) s = with_joined 2 s
tally (calls count name) s = with_joined count s
tally (spaces marks) s = Ok s
tally keeps s = Ok s

-- what the one operand cites
abbrev pub one_cited : Tally → Result (List Citation) XlsError
one_cited s = if s.0 == 1 then Ok s.1 else Err (errors.InvalidFormula s.0)

-- the leaves of the tree of these tokens
abbrev pub leaves_of : Context → List ℕ → Result (List Citation) XlsError
leaves_of context tokens = gives leaves (fold_tokens context tokens >>= one_tree)

-- of the tree of a formula
abbrev pub leaves_at : Context → List ℕ → Result (List Citation) XlsError
leaves_at context rgce = gives leaves (fold context rgce)

-- ---- repeats

-- cells as the code cites them, and as the set has them: the name of a sheet, and two positions
abbrev pub Key : Type 0
Key = Option (Bor (List ℕ)) × (ℕ × ℕ) × (ℕ × ℕ)

abbrev pub by_text : Bor (List ℕ) → Bor (List ℕ) → Ordering
by_text a b = slice_cmp nat_cmp a.now b.now

abbrev pub by_position : ℕ × ℕ → ℕ × ℕ → Ordering
by_position p q = ordering_then (nat_cmp p.0 q.0) (nat_cmp p.1 q.1)

abbrev pub by_key : Key → Key → Ordering
by_key k q = ordering_then (ordering_then (option_cmp by_text k.0 q.0) (by_position k.1 q.1)) (by_position k.2 q.2)

abbrev pub key_cite : Key → Citation
key_cite k = record { sheet = lent_text k.0; first = k.1; last = k.2 }

abbrev pub IsText : Key → Type 0
IsText k = IfSome k.0 (λ (t : Bor (List ℕ)). IsUtf8 t.now)

-- the set has exactly the citations so far
abbrev pub SeenSo : BTreeSet Key → List Citation → Type 0
SeenSo seen before = (q : Key) → IsText q → contains by_key seen q ≡ list_any (λ (b : Citation). same_cells b (key_cite q)) before

-- the set has exactly the citations so far, and these are they without repeats
abbrev pub IsDistinctSoFar : BTreeSet Key → List Citation → List Citation → Type 0
IsDistinctSoFar seen items before = SeenSo seen before × (items ≡ distinct before)
