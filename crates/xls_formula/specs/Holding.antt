-- What code holds of a formula, as definitions have it.
use Rattle.std.specs.Prelude.{ℕ, List, ◌++◌, codes, replicate, Option}
use Rattle.std.specs.Borrow.{Bor}
use Rattle.std.specs.Fmt.{decimal}
use Rattle.std.specs.Option.{option_map}
use Rattle.std.specs.Str.{chars}
use Rattle.xls_formula.specs.declared.scope.Scope.{Scope}
use Rattle.xls_formula.specs.declared.words.Word.{Word}
use Rattle.xls_formula.specs.declared.words.Word.TheVariants as words
use Rattle.xls_formula.specs.declared.effect.Effect.{Effect as Held}
use Rattle.xls_formula.specs.declared.effect.Effect.TheVariants as effects
use Rattle.xls_formula.specs.Context.{Context}
use Rattle.xls_formula.specs.Effects.{Effect, pushes, wraps, pairs, calls, spaces, keeps, str_text}
use Rattle.xls_formula.specs.Tree.{Tree, word, ref, area}
use Rattle.xls_formula.specs.Words.{err_text, number_word, space_mark}

-- what a formula may name
abbrev pub scope_context : Scope → Context
scope_context scope =
    record {
      sheets = scope.sheets.now;
      names = scope.names.now;
      refs = scope.refs.now;
      page = scope.encoding;
      biff = scope.biff;
      functions = scope.functions.now;
      numbers = scope.numbers;
    }

-- a text that is lent, where there is one
abbrev pub lent_text : Option (Bor (List ℕ)) → Option (List ℕ)
lent_text text = option_map (λ (t : Bor (List ℕ)). chars t.now) text

-- an operand without operands of its own
abbrev pub tree_of : Word → Tree
tree_of (words.Plain text) = word (chars text.now)
tree_of (words.Int n) = word (decimal n)
tree_of (words.Num style bits) = word (number_word style bits)
tree_of (words.Err error) = word (err_text error)
tree_of (words.Str page high units cch) = word (str_text page high units.now cch)
tree_of (words.Ref sheet corner) = ref (lent_text sheet) corner
tree_of (words.Area sheet first last) = area (lent_text sheet) first last
tree_of (words.Err3d sheet) = word (chars sheet.now ++ codes "!#REF!")

-- what a token does
abbrev pub effect_of : Held → Effect
effect_of (effects.Pushes operand) = pushes (tree_of operand)
effect_of (effects.Wraps before after) = wraps (chars before.now) (chars after.now)
effect_of (effects.Pairs operator) = pairs (chars operator.now)
effect_of (effects.Calls count name) = calls count (chars name.now)
effect_of (effects.Spaces is_return count) = spaces (replicate count (space_mark is_return))
effect_of effects.Keeps = keeps

-- with how many bytes of it stand after its first
abbrev pub as_held : Held × ℕ → Effect × ℕ
as_held x = (effect_of x.0, x.1)
