use Rattle.std.proofs.Common.{[], ◌∷◌}
use Rattle.xls_strings.specs.Texts.{text_of}
use Rattle.xls_other_books.proofs.PathLemmas.{renamed, renamed_after, volume_at, volume_letter}
use Rattle.xls_other_books.proofs.paths.push_volume.Goals as goal

pub returns-then-letter-eq64 : goal.returns-then-letter-eq64
returns-then-letter-eq64 c = renamed c.push_text.result (text_of c.args.out.now) (text_of c.push_text.new.out) _ _ c.push_text.ensures (volume_at c.args.letter c.if-letter-eq64.true)

pub returns : goal.returns
returns c =
    renamed_after c.push_text-2.result (text_of c.args.out.now) (text_of c.push_char.new.out) (text_of c.push_text-2.new.out) (c.args.letter ∷ []) _ _
    c.in_ok-push_char.ensures c.push_text-2.ensures (volume_letter c.args.letter c.if-letter-eq64.false)
