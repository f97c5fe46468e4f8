use Rattle.std.proofs.Common.{refl, sym, ◌∙◌}
use Rattle.std.specs.Str.{chars}
use Rattle.xls_bytes.proofs.CharacterLemmas.{before_first_none}
use Rattle.xls_number_formats.proofs.TextLemmas.{no_chars}
use Rattle.xls_number_formats.proofs.HeadLemmas.{quoted_end}
use Rattle.xls_number_formats.proofs.heads.quoted.Goals as goal

pub returns-in-None : goal.returns-in-None
returns-in-None c = record {
  item = refl;
  text = sym (before_first_none 34 (chars c.args.rest.now) c.in-None.ensures);
  rest = no_chars ∙ sym (quoted_end 34 (chars c.args.rest.now) c.in-None.ensures);
}
