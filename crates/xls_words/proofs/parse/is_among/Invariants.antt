use Rattle.std.proofs.Common.{◌≡◌, drop, map}
use Rattle.std.specs.String.{string_bytes}
use Rattle.xls_words.specs.Requests.{is_among}
use Rattle.xls_words.proofs.parse.is_among.Given as goal

-- no word so far
abbrev pub invariant-words : goal.invariant-words
invariant-words l = is_among l.text (map string_bytes (drop l.word-index l.words)) ≡ is_among l.text (map string_bytes l.words)
