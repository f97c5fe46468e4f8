use Rattle.std.proofs.Common.{◌≡◌, ◌++◌, drop, map}
use Rattle.std.specs.String.{string_bytes}
use Rattle.xls_words.proofs.plain.names_in.Given as goal

-- the names so far, with the words left, are all words
abbrev pub invariant-words : goal.invariant-words
invariant-words l = map (λ name. name.now) l.names.items ++ map string_bytes (drop l.text-index l.words) ≡ map string_bytes l.words
