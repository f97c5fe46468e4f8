use Rattle.std.proofs.Common.{◌≡◌, drop, map}
use Rattle.std.specs.String.{string_bytes}
use Rattle.xls_words.specs.Requests.{has_no_option}
use Rattle.xls_words.proofs.plain.are_plain.Given as goal

-- no word so far is an option
abbrev pub invariant-words : goal.invariant-words
invariant-words l = has_no_option (map string_bytes (drop l.text-index l.words)) ≡ has_no_option (map string_bytes l.words)
