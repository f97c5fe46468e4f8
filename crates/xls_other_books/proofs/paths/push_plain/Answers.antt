use Rattle.xls_strings.specs.Texts.{text_of}
use Rattle.xls_other_books.proofs.PathLemmas.{renamed, plain_4}
use Rattle.xls_other_books.proofs.paths.push_plain.Goals as goal

pub returns-in-4 : goal.returns-in-4
returns-in-4 c = renamed c.push_text.result (text_of c.args.out.now) (text_of c.push_text.new.out) _ _ c.push_text.ensures (plain_4 c.args.c c.in-4.is)
