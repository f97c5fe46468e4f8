use Rattle.std.proofs.Common.{refl, sym, ap, ◌∙◌, chars}
use Rattle.std.specs.Ordering.{nat_cmp}
use Rattle.std.specs.BTreeMap.{get}
use Rattle.xls_dates.specs.Classes.{class_of}
use Rattle.xls_open.proofs.ClassLemmas.{class_put, class_kept}
use Rattle.xls_open.proofs.classes.put_code.Goals as goal

pub returns-then-not-is_format_id : goal.returns-then-not-is_format_id
returns-then-not-is_format_id c =
    λ fs had. class_kept fs c.args.format.now (get nat_cmp c.args.classes.now) (get nat_cmp c.args.classes.now) had (sym c.if-not-is_format_id.ensures) refl

pub returns : goal.returns
returns c =
    λ fs had. class_put fs c.args.format.now (get nat_cmp c.args.classes.now) (get nat_cmp c.put.new.classes) had _ (sym c.if-not-is_format_id.ensures)
    (c.detect_custom_number_format-class.ensures ∙ ap (λ bs. class_of (chars bs)) c.as_str.ensures.value) c.in_ok-put.ensures
