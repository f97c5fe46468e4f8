use Rattle.std.proofs.Common.{◌-◌, ◌≤◌, length, take}
use Rattle.xls_output.specs.Gathering.{GathersText}
use Rattle.xls_output.specs.declared.writer.TheConstants.{PIECE}
use Rattle.xls_lines.proofs.buffer.gather_by_pieces.Given as goal

-- the text up to here is gathered
abbrev pub invariant-loop-at : goal.invariant-loop-at
invariant-loop-at g l =
    let sink = g.K.Sink in
    record {
      within : l.at ≤ length l.text;
      bound : length l.bytes.items ≤ PIECE;
      gathers : GathersText (sink.state l.fn.sink) l.fn.bytes.items (sink.state l.sink) l.bytes.items (take l.at l.text);
    }

abbrev pub decreases-loop-at : goal.decreases-loop-at
decreases-loop-at g l = length l.text - l.at
