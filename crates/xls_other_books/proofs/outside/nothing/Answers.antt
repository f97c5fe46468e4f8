use Rattle.std.proofs.lemmas.Str.{chars-nil}
use Rattle.xls_other_books.proofs.outside.nothing.Goals as goal

pub returns : goal.returns
returns c = chars-nil
