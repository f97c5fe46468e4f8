-- What becomes of bytes that are put into a writer whose buffer is a vector.
use Rattle.std.specs.Prelude.{ℕ}
use Rattle.std.specs.Global.{Vec}
use Rattle.xls_output.specs.SinkState.{SinkState}
use Rattle.xls_output.specs.Output.{Output, output_of}
use Rattle.xls_output.specs.declared.writer.Writer.{Writer}

-- its sink, and the bytes that are gathered
abbrev pub bytes_output : {K : Type 0} → (K → SinkState) → Writer K (Vec ℕ) → Output
bytes_output state out = output_of state (λ (v : Vec ℕ). v.items) out
