use Rattle.std.proofs.Common.{◌≡◌, ◌++◌}
use Rattle.std.specs.String.{string_bytes}
use Rattle.std.specs.Str.Chunks.{utf8_chunks_rest}
use Rattle.std.specs.Str.Lossy.{utf8_lossy}
use Rattle.xls_bytes.specs.Growth.{IsGrown}
use Rattle.xls_text.proofs.append.append_utf8.Given as goal

-- the text so far, with that of the bytes left, is the text of all
abbrev pub invariant-chunks : goal.invariant-chunks
invariant-chunks l = record {
  so_far : string_bytes l.s ++ utf8_lossy (utf8_chunks_rest l.chunk-iterator) ≡ string_bytes l.fn.s ++ utf8_lossy l.fn.bytes;
  grown : IsGrown (string_bytes l.fn.s) (string_bytes l.s);
}
