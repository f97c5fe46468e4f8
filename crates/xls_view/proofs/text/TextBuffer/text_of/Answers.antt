use Rattle.std.proofs.Common.{sym, ◌∙◌}
use Rattle.std.proofs.lemmas.Str.{chars-nil}
use Rattle.xls_view.proofs.ValueLemmas.{no_text}
use Rattle.xls_view.proofs.text.TextBuffer.text_of.Goals as goal

pub returns-in-Number : goal.returns-in-Number
returns-in-Number c = rw c.in-Number.is (chars-nil ∙ sym (no_text c.in-Number.field-0))

pub returns-in-Bool : goal.returns-in-Bool
returns-in-Bool c = rw c.in-Bool.is chars-nil

pub returns-in-Error : goal.returns-in-Error
returns-in-Error c = rw c.in-Error.is chars-nil

pub returns-in-Empty : goal.returns-in-Empty
returns-in-Empty c = rw c.in-Empty.is chars-nil
