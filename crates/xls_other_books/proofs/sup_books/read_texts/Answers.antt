use Rattle.std.proofs.Common.{◌∙◌, [], ◌∷◌, ap, map, subst, arith, Option, String, Global}
use Rattle.std.proofs.lemmas.List.{map-append}
use Rattle.xls_strings.specs.Texts.{text_of}
use Rattle.xls_other_books.specs.Strings.{TakesText, next_at, texts_at}
use Rattle.xls_other_books.proofs.BookLemmas.{texts_more}
use Rattle.xls_other_books.proofs.sup_books.read_texts.Goals as goal

pub strings-preserved : goal.strings-preserved
strings-preserved c =
    let l = c.strings in
    let after = c.read_next_text.new.text.marks in
    let read = subst (λ (found : Option (String Global)). TakesText (next_at l.text.marks) found after) c.in-Some.is c.in_ok-next.ensures.text in
    let items = ap (map text_of) c.in_ok-push.ensures.items ∙ map-append text_of l.texts.items (c.in-Some.next ∷ []) in
    record {
      texts = texts_more (texts_at c.args.count c.args.text.now.marks) (map text_of l.texts.items) (map text_of c.push.new.self.items) (text_of c.in-Some.next) read.0 l.left l.text.marks after (omega arith) l.invariant.texts read.1 read.2 items;
      kept = c.in_ok-next.ensures.kept ∙ l.invariant.kept;
    }
