use Rattle.std.proofs.Common.{◌≡◌, map}
use Rattle.xls_strings.specs.Texts.{text_of}
use Rattle.xls_other_books.specs.Strings.{texts_at}
use Rattle.xls_other_books.proofs.BookLemmas.{behind}
use Rattle.xls_other_books.proofs.sup_books.read_texts.Given as goal

-- the texts so far and those that are left are all
abbrev pub invariant-strings : goal.invariant-strings
invariant-strings l = record {
  texts : behind (map text_of l.texts.items) (texts_at l.left l.text.marks) ≡ texts_at l.count l.fn.text.marks;
  kept : l.text.behind ≡ l.fn.text.behind;
}

abbrev pub decreases-strings : goal.decreases-strings
decreases-strings l = l.left
