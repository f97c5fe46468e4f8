use Rattle.std.specs.Str.{chars}
use Rattle.std.specs.String.{string_bytes}
use Rattle.std.proofs.lemmas.Result.{on_ok_weaker}
use Rattle.xls_bytes.proofs.GrownLemmas.{IsGrown-trans}
use Rattle.xls_formula_names.specs.Parts.{joined}
use Rattle.xls_formula_names.specs.Prefixes.{doubled}
use Rattle.xls_formula_names.proofs.AppendLemmas.{in_marks}
use Rattle.xls_formula_names.proofs.appends.append_quoted.Goals as goal

pub returns-in_err-append_all_doubled-clause-grown : goal.returns-in_err-append_all_doubled-clause-grown
returns-in_err-append_all_doubled-clause-grown c = IsGrown-trans _ _ _ c.append_apostrophe.ensures.grown c.append_all_doubled.ensures.grown

pub returns-clause-ok : goal.returns-clause-ok
returns-clause-ok c =
    on_ok_weaker c.append_apostrophe-2.result (λ e. in_marks (chars (string_bytes c.args.out.now)) (chars (string_bytes c.append_apostrophe.new.out)) (chars (string_bytes c.append_all_doubled.new.out)) _ (doubled (joined c.args.parts.now)) 0x27
    c.in_ok-append_apostrophe.ensures.ok c.in_ok-append_all_doubled.ensures.ok e) c.append_apostrophe-2.ensures.ok

pub returns-clause-grown : goal.returns-clause-grown
returns-clause-grown c = IsGrown-trans _ _ _ (IsGrown-trans _ _ _ c.append_apostrophe.ensures.grown c.append_all_doubled.ensures.grown) c.append_apostrophe-2.ensures.grown
