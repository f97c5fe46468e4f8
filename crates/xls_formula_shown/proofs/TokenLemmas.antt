-- Tokens without extra bytes.
use Rattle.std.proofs.Common.{◌≡◌, ◌≢◌, ℕ, List, refl, Bor}
use Rattle.xls_ptg.specs.Readings.{ptg_of}
use Rattle.xls_ptg.specs.declared.tokens.Ptg.{Ptg}
use Rattle.xls_ptg.specs.declared.tokens.Ptg.TheVariants as ptg
use Rattle.xls_shown_ptg.specs.Reading.{shown_of}
use Rattle.xls_shown_ptg.specs.declared.tokens.ShownPtg.{ShownPtg}
use Rattle.xls_shown_ptg.specs.declared.tokens.ShownPtg.TheVariants as shown
use Rattle.xls_formula_shown.specs.Scope.{Scope}
use Rattle.xls_formula_shown.specs.ShownEffects.{effect, plain_effect, with_extra}

abbrev LeavesAll : Scope → List ℕ → ShownPtg (List ℕ) → Type 0
LeavesAll scope extra token = effect scope extra token ≡ with_extra extra (plain_effect scope token)

pub known_token : (scope : Scope) (extra : List ℕ) (t : Ptg (Bor (List ℕ))) → t ≢ ptg.Array → LeavesAll scope extra (shown.Known (ptg_of t))
known_token scope extra ptg.Exp ne = refl
known_token scope extra (ptg.Binary operator) ne = refl
known_token scope extra ptg.Uplus ne = refl
known_token scope extra ptg.Uminus ne = refl
known_token scope extra ptg.Percent ne = refl
known_token scope extra ptg.Paren ne = refl
known_token scope extra ptg.MissArg ne = refl
known_token scope extra (ptg.Str units cch high) ne = refl
known_token scope extra ptg.Elf ne = refl
known_token scope extra ptg.AttrSemi ne = refl
known_token scope extra ptg.AttrIf ne = refl
known_token scope extra ptg.AttrChoose ne = refl
known_token scope extra ptg.AttrGoto ne = refl
known_token scope extra ptg.AttrSum ne = refl
known_token scope extra ptg.AttrBaxcel ne = refl
known_token scope extra (ptg.AttrSpace is_return count) ne = refl
known_token scope extra (ptg.AttrSpaceSemi is_return count) ne = refl
known_token scope extra (ptg.Err error) ne = refl
known_token scope extra (ptg.Bool truth) ne = refl
known_token scope extra (ptg.Int n) ne = refl
known_token scope extra (ptg.Num bits) ne = refl
known_token scope extra ptg.Array ne = absurd (ne refl)
known_token scope extra (ptg.Func iftab) ne = refl
known_token scope extra (ptg.FuncVar count iftab) ne = refl
known_token scope extra (ptg.Name index) ne = refl
known_token scope extra (ptg.Ref corner) ne = refl
known_token scope extra (ptg.Area first last) ne = refl
known_token scope extra ptg.RefErr ne = refl
known_token scope extra ptg.AreaErr ne = refl
known_token scope extra ptg.NameX ne = refl
known_token scope extra (ptg.Ref3d ixti corner) ne = refl
known_token scope extra (ptg.Area3d ixti first last) ne = refl
known_token scope extra (ptg.RefErr3d ixti) ne = refl
known_token scope extra (ptg.AreaErr3d ixti) ne = refl

pub other_token : (scope : Scope) (extra : List ℕ) (t : ShownPtg (Bor (List ℕ))) → ((token : Ptg (Bor (List ℕ))) → t ≢ shown.Known token)
    → t ≢ shown.ElfRadicalS → t ≢ shown.MemArea → LeavesAll scope extra (shown_of t)
other_token scope extra (shown.Known token) known elf mem = absurd (known token refl)
other_token scope extra shown.Nothing known elf mem = refl
other_token scope extra shown.ElfRadicalS known elf mem = absurd (elf refl)
other_token scope extra (shown.AttrSpace space) known elf mem = refl
other_token scope extra (shown.Command count cetab) known elf mem = refl
other_token scope extra (shown.UserFunc count) known elf mem = refl
other_token scope extra shown.MemArea known elf mem = absurd (mem refl)
other_token scope extra (shown.RefN corner) known elf mem = refl
other_token scope extra (shown.AreaN first last) known elf mem = refl
other_token scope extra (shown.NameX link) known elf mem = refl
other_token scope extra (shown.Ref3d link corner) known elf mem = refl
other_token scope extra (shown.Area3d link first last) known elf mem = refl
other_token scope extra (shown.Err3d link) known elf mem = refl
