use Rattle.std.proofs.Common.{◌∙◌, ap, sym}
use Rattle.std.specs.Cmp.Lexicographic.{texts_ties}
use Rattle.std.specs.Ordering.{is_eq}
use Rattle.xls_shown_refs.specs.Keys.{key_bytes}
use Rattle.xls_shown_refs.proofs.keys.SheetsKeyPartialEq.eq.Goals as goal

pub returns : goal.returns
returns c =
    c.is_eq.ensures ∙ (ap is_eq c.compare.ensures ∙ sym (texts_ties (key_bytes c.args.self.now) (key_bytes c.args.other.now)))
