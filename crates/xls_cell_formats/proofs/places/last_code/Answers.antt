use Rattle.std.proofs.Common.{ap, sym, ◌∙◌, arith, Some, List, ℕ}
use Rattle.std.specs.Option.{option_copied}
use Rattle.std.specs.Str.{chars}
use Rattle.xls_view.proofs.IndexLemmas.{looked}
use Rattle.xls_cell_formats.proofs.KeptLemmas.{code_found, code_missing}
use Rattle.xls_cell_formats.proofs.places.last_code.Goals as goal

pub returns-in-Some : goal.returns-in-Some
returns-in-Some c =
    let at = c.get.ensures.lookup in
    let found = sym (looked c.args.codes.now _ c.get.result at.0 at.1) ∙ ap option_copied c.in-Some.is in
    ap (λ (bytes : List ℕ). Some (chars bytes)) c.as_str.ensures.value
    ∙ code_found c.args.codes.now c.args.places.now c.args.identifier c.requires _ _ c.place_at-place.ensures (λ e. grind (arith, e, c.if-place-eq0.false)) found

pub returns-in-None : goal.returns-in-None
returns-in-None c =
    let at = c.get.ensures.lookup in
    let found = sym (looked c.args.codes.now _ c.get.result at.0 at.1) ∙ ap option_copied c.in-None.is in
    code_missing c.args.codes.now c.args.places.now c.args.identifier c.requires _ c.place_at-place.ensures (λ e. grind (arith, e, c.if-place-eq0.false)) found
