use Rattle.std.proofs.Common.{◌≡◌, drop, map}
use Rattle.std.specs.String.{string_bytes}
use Rattle.xls_words.specs.Requests.{ends_one}
use Rattle.xls_words.proofs.parse.ends_one.Given as goal

-- no word so far
abbrev pub invariant-words : goal.invariant-words
invariant-words l = ends_one l.text (map string_bytes (drop l.word-index l.words)) ≡ ends_one l.text (map string_bytes l.words)
