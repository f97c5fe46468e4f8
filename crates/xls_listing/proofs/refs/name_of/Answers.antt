use Rattle.std.proofs.lemmas.Str.{chars-nil}
use Rattle.xls_listing.proofs.refs.name_of.Goals as goal

pub returns-in-None : goal.returns-in-None
returns-in-None c = rw (← c.in-None.ensures) chars-nil
