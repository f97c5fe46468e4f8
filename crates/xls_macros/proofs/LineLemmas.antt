-- The text of a macro project, written.
use Rattle.std.proofs.Common.{◌≡◌, ℕ, List, [], ◌∷◌, refl, ap, map, codes, inl, inr, Some, Result, Ok, Err, false}
use Rattle.std.specs.List.{flat_map}
use Rattle.std.specs.Prelude.{OnOk}
use Rattle.std.specs.Result.{IsErrAnd}
use Rattle.xls_output.specs.Added.{AddsText}
use Rattle.xls_output.specs.SinkState.{SinkState}
use Rattle.xls_output.specs.Output.{Output}
use Rattle.xls_output.specs.declared.stop.Stop.{Stop}
use Rattle.xls_output.specs.declared.stop.Stop.TheVariants.{Memory}
use Rattle.xls_output.specs.Each.{DeliversEach}
use Rattle.xls_output.proofs.EachLemmas.{each-memory, delivers-each-stop}
use Rattle.xls_readable.specs.declared.forms.Form.{Form}
use Rattle.xls_vba.specs.Modules.{Mod}
use Rattle.xls_vba.specs.Project.{AreNames, last_module}
use Rattle.xls_macros.specs.Lines.{AreMacroLines, DeliversMacros, IsPartText, IsReadText, Part, macro_lines, module_named}
use Rattle.xls_macros.specs.Macros.{Macros, RefusesModule, is_memory}
use Rattle.xls_macros.specs.ModuleTexts.{IsDamagedText}
use Rattle.xls_macros.specs.Texts.{fault_text}
use Rattle.xls_macros.specs.declared.fault.ModuleFault.{ModuleFault}

-- ---- a module

-- the line of a module that isn't read was appended
pub damaged_read : {X E : Type 0} (form : Form) (macros : Macros) (m : Mod) (fault : ModuleFault) (old new : List ℕ) (r : Result X E)
    → RefusesModule macros m fault → OnOk r (is_memory fault ≡ false)
    → OnOk r (AddsText (IsDamagedText form (codes "module") m.name (fault_text fault)) old new) → OnOk r (AddsText (IsReadText form macros m) old new)
damaged_read form macros m fault old new (Ok x) refused known (out, is, added) = (out, inr (fault, known, refused, is), added)
damaged_read form macros m fault old new (Err e) refused known line = tt

-- the last of its name
pub part_read : {X E : Type 0} (form : Form) (macros : Macros) (name : List ℕ) (m : Mod) (old new : List ℕ) (r : Result X E)
    → last_module name macros.project.modules ≡ Some m → OnOk r (AddsText (IsReadText form macros m) old new)
    → OnOk r (AddsText (IsPartText form macros (module_named name)) old new)
part_read form macros name m old new (Ok x) is (out, read, added) = (out, (m, is, read), added)
part_read form macros name m old new (Err e) is read = tt

-- ---- one after another

pub single_parts : {X : Type 0} (name : X → List ℕ) (xs : List X) → flat_map (λ x. module_named (name x) ∷ []) xs ≡ map module_named (map name xs)
single_parts name [] = refl
single_parts name (x ∷ xs) = ap (λ (l : List Part). module_named (name x) ∷ l) (single_parts name xs)

-- ---- the whole

are_lines : (macros : Macros) (names : List (List ℕ)) → AreNames macros.project.modules names → AreMacroLines macros (macro_lines macros names)
are_lines macros names ordered = record { names = names; ordered = ordered; whole = refl }

pub macros_delivered : {X : Type 0} (form : Form) (macros : Macros) (names : List (List ℕ)) (before after : SinkState) (r : Result X Stop)
    → AreNames macros.project.modules names → DeliversEach (IsPartText form macros) (macro_lines macros names) before after r
    → DeliversMacros form macros before after r
macros_delivered form macros names before after (Ok x) ordered wrote = (macro_lines macros names, are_lines macros names ordered, wrote)
macros_delivered form macros names before after (Err e) ordered stopped = (macro_lines macros names, inl (are_lines macros names ordered), stopped)

-- memory ran out before the first line
pub macros_memory : {X : Type 0} (form : Form) (macros : Macros) (state : SinkState) (r : Result X Stop)
    → IsErrAnd r (λ e. e ≡ Memory) → DeliversMacros form macros state state r
macros_memory {X} form macros state (Ok x) none = absurd none
macros_memory {X} form macros state (Err e) is =
    let unused : Output = record { sink = state; kept = []; lender = 0 } in
    ([], inr refl, delivers-each-stop {X = X} {a = unused} {b = unused} (Err e) is refl (each-memory (IsPartText form macros) []))
