-- What an effect leaves of the texts of the operands, the last one first. It is `grow` of the trees
-- seen by `render`, which the proofs show.
use Rattle.std.specs.Prelude.{ℕ, zero, suc, List, ◌∷◌, length, nat_lt, if◌then◌else◌, codes, Result, Ok, Err}
use Rattle.xls_record.specs.declared.error.XlsError.{XlsError}
use Rattle.xls_record.specs.declared.error.XlsError.TheVariants as errors
use Rattle.xls_operands.specs.Pieces.{Texts, with_prefix, with_suffix, with_join}
use Rattle.xls_formula.specs.Effects.{Effect, pushes, wraps, pairs, calls, spaces, keeps}
use Rattle.xls_formula.specs.Tree.{render}

abbrev pub Put : Type 0
Put = Result Texts XlsError

abbrev pub needs : ℕ → Texts → Texts → Put
needs n ts after = if nat_lt (length ts) n then Err errors.StackLen else Ok after

abbrev pub with_wrap : List ℕ → List ℕ → Texts → Texts
with_wrap before after ts = with_suffix after (with_prefix before ts)

abbrev pub with_joins : ℕ → Texts → Texts
with_joins zero ts = ts
with_joins (suc n) ts = with_joins n (with_join (codes ",") ts)

abbrev pub with_call : ℕ → List ℕ → Texts → Texts
with_call zero name ts = with_suffix (codes "()") (name ∷ ts)
with_call (suc n) name ts =
    with_suffix (codes ")") (with_prefix name (with_prefix (codes "(") (with_joins n ts)))

abbrev pub put : Effect → Texts → Put
put (pushes operand) ts = Ok (render operand ∷ ts)
put (wraps before after) ts = needs 1 ts (with_wrap before after ts)
put (pairs operator) ts = needs 2 ts (with_join operator ts)
put (calls count name) ts = needs count ts (with_call count name ts)
put (spaces marks) ts = Ok (with_prefix marks ts)
put keeps ts = Ok ts
