use Rattle.std.proofs.Common.{ap, ◌++◌, List, ℕ}
use Rattle.std.specs.Str.{chars}
use Rattle.xls_formula_shown.specs.Scope.{Scope}
use Rattle.xls_formula_shown.specs.ShownFold.{shown_text}
use Rattle.xls_shown_ptg.specs.Reading.{gives}
use Rattle.xls_shown_formulas.proofs.TellLemmas.{told}
use Rattle.xls_shown_formulas.proofs.sheet.ShownSheet.write_contents.Goals as goal

pub returns-in-Formula : goal.returns-in-Formula
returns-in-Formula c =
    let bytes = c.in-Formula.bytes in
    rw (c.in-Formula.is) (told _ c.write_tokens.result _ _
    (ap (λ (s : Scope). gives (λ (t : List ℕ). chars c.args.opening.now ++ t) (shown_text s bytes.tokens.now bytes.extra.now)) c.scope.ensures)
    c.write_tokens.ensures)
