use Rattle.std.specs.Str.{chars}
use Rattle.std.specs.String.{string_bytes}
use Rattle.std.proofs.lemmas.Result.{on_ok_weaker}
use Rattle.xls_bytes.proofs.GrownLemmas.{IsGrown-trans}
use Rattle.xls_formula_names.specs.Prefixes.{name_text}
use Rattle.xls_formula_names.proofs.AppendLemmas.{with_bar}
use Rattle.xls_formula_names.proofs.links.append_link.Goals as goal

pub returns-in_err-append_bar-clause-grown : goal.returns-in_err-append_bar-clause-grown
returns-in_err-append_bar-clause-grown c = IsGrown-trans _ _ _ c.append_name.ensures.grown c.append_bar.ensures.grown

pub returns-clause-ok : goal.returns-clause-ok
returns-clause-ok c =
    on_ok_weaker c.append_name-2.result (λ e. with_bar (chars (string_bytes c.args.out.now)) (chars (string_bytes c.append_name.new.out)) (chars (string_bytes c.append_bar.new.out)) _ (name_text (chars c.args.app.now)) (name_text (chars c.args.topic.now))
    c.in_ok-append_name.ensures.ok c.in_ok-append_bar.ensures.ok e) c.append_name-2.ensures.ok

pub returns-clause-grown : goal.returns-clause-grown
returns-clause-grown c = IsGrown-trans _ _ _ (IsGrown-trans _ _ _ c.append_name.ensures.grown c.append_bar.ensures.grown) c.append_name-2.ensures.grown
