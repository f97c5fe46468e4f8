use Rattle.std.proofs.lemmas.Str.{encodes-chars}
use Rattle.xls_data.proofs.TextLemmas.{SomeIff-result_ok}
use Rattle.xls_data.proofs.texts.parsed_text.Goals as goal

pub returns : goal.returns
returns c = rw (encodes-chars c.args.text.now c.utf8.text, c.ok.ensures.value) (SomeIff-result_ok _ _ _ c.parse.ensures.value.0)
