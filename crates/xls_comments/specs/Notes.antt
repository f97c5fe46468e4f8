-- The Notes that are left of a part, of either layout.
use Rattle.std.specs.Prelude.{List}
use Rattle.xls_comments.specs.declared.comments.Notes.{Notes}
use Rattle.xls_comments.specs.declared.comments.Notes.TheVariants.{Biff8, Biff5}
use Rattle.xls_comments.specs.Items.{Item}

abbrev pub left_in : Notes → List Item
left_in (Biff8 notes) = notes
left_in (Biff5 notes) = notes
