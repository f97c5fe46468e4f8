use Rattle.std.proofs.Common.{rules, [], if◌then◌else◌, FitsSigned, ◌++◌, ◌*◌, ◌^◌, ◌≡◌, not, arith, ap, sym, ◌∙◌}
use Rattle.std.specs.Prelude.{unsigned_abs, true}
use Rattle.std.specs.Int.{w128}
use Rattle.std.proofs.lemmas.Int.{to_z-of_z}
use Rattle.std.specs.Str.{chars}
use Rattle.std.specs.String.{string_bytes}
use Rattle.std.proofs.lemmas.Result.{on_ok_weaker}
use Rattle.xls_bytes.proofs.GrownLemmas.{IsGrown-trans}
use Rattle.std.proofs.lemmas.Int.{ints}
use Rattle.xls_shown_numbers.specs.Plain.{written_place}
use Rattle.xls_shown_numbers.specs.Exponent.{sign_text, behind_text}
use Rattle.xls_shown_numbers.proofs.ShownLemmas.{two_more}
use Rattle.xls_shown_numbers.proofs.exponent.append_behind.Goals as goal

pub returns-in_ok-push_own-in-Place-clause-ok : goal.returns-in_ok-push_own-in-Place-clause-ok
returns-in_ok-push_own-in-Place-clause-ok c =
    let fits : FitsSigned w128 c.args.exponent = search rules in
    let old = chars (string_bytes c.args.text.now) in
    let signed = c.in_ok-push_own-in-Place.ensures.ok ∙ ap (λ t. old ++ t) c.sign.ensures
    ∙ ap (λ z. old ++ (if c.args.placed then [] else sign_text c.args.plus z)) (to_z-of_z w128 c.args.exponent fits) in
    let size : c.unsigned_abs.result * 10 ^ 0 ≡ unsigned_abs c.args.exponent = omega (arith, ints, c.unsigned_abs.ensures.value) in
    on_ok_weaker c.append_place.result (λ e. two_more old _ _ _ _ signed (e ∙ ap (λ n. chars (string_bytes c.push_own.new.text) ++ written_place true n (not c.args.placed) c.in-Place.place c.args.left) size)
    ∙ ap (λ i. old ++ behind_text c.args.plus c.args.exponent c.args.placed c.args.left i (chars c.args.own.now)) (sym c.in-Place.is)) c.append_place.ensures.ok

pub returns-in_ok-push_own-in-Place-clause-grown : goal.returns-in_ok-push_own-in-Place-clause-grown
returns-in_ok-push_own-in-Place-clause-grown c = IsGrown-trans _ _ _ c.push_own.ensures.grown c.append_place.ensures.grown
