use Rattle.std.proofs.Common.{◌≡◌, ◌++◌, length}
use denote.Text.{Utf8}
use denote.Shadow.{shadow}
use Rattle.std.specs.Str.{chars}
use Rattle.xls_strings.specs.Texts.{text_of}
use Rattle.xls_other_books.specs.Paths.{decoded}
use Rattle.xls_other_books.proofs.paths.push_decoded.Given as goal

-- the text so far and what is left of the path stand for all
abbrev pub invariant-chars : goal.invariant-chars
invariant-chars l = record {
  text : shadow (Utf8 l.rest);
  so_far : text_of l.out ++ decoded (chars l.rest) ≡ text_of l.fn.out ++ decoded (chars l.coded);
}

abbrev pub decreases-chars : goal.decreases-chars
decreases-chars l = length l.rest
