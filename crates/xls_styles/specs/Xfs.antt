-- XF ([MS-XLS] 2.4.353): the fields of a cell's format, 20 bytes, and before BIFF8 16. Bytes that aren't there count as
-- 0. What a cell takes from its style changes nothing, since each XF is whole.
use Rattle.std.specs.Prelude.{ℕ, List, [], ◌∷◌, ◌==◌, if◌then◌else◌}
use Rattle.xls_parts.specs.PartRecords.{Placed}
use Rattle.xls_record.specs.declared.version.Biff.{Biff}
use Rattle.xls_record.specs.Version.{is_biff8}
use Rattle.xls_stream.specs.declared.types.TheConstants.{XF}
use Rattle.xls_styles.specs.declared.xfs.Line.{Line}
use Rattle.xls_styles.specs.declared.xfs.Xf.{Xf}
use Rattle.xls_styles.specs.Fields.{Field, field_at, is_set}

-- Where the fields stand, each by the place of its number of 32 bits, its lowest bit and how many bits it has: the font
-- (ifnt), the format (ifmt), fLocked and fHidden; how a text stands across (alc), whether it is wrapped (fWrap), how it
-- stands down (alcV), how it is turned (trot), indented (cIndent) and shrunk to fit (fShrinkToFit); the lines (dgLeft ..)
-- and their colours (icvLeft ..), which diagonals there are (grbitDiag); the pattern (fls), its colour (icvFore) and
-- its background (icvBack).
pub record Layout : Type 0 where
  pub font : Field
  pub format : Field
  pub locked : Field
  pub concealed : Field
  pub across : Field
  pub wrap : Field
  pub down : Field
  pub turn : Field
  pub indent : Field
  pub shrink : Field
  pub left : Field
  pub right : Field
  pub top : Field
  pub bottom : Field
  pub left_color : Field
  pub right_color : Field
  pub top_color : Field
  pub bottom_color : Field
  pub diagonals : Field
  pub diagonal : Field
  pub diagonal_color : Field
  pub pattern : Field
  pub color : Field
  pub back : Field

-- of BIFF8
abbrev pub layout_of_biff8 : Layout
layout_of_biff8 = record {
  font = (0, 0, 16);
  format = (2, 0, 16);
  locked = (4, 0, 1);
  concealed = (4, 1, 1);
  across = (6, 0, 3);
  wrap = (6, 3, 1);
  down = (6, 4, 3);
  turn = (7, 0, 8);
  indent = (8, 0, 4);
  shrink = (8, 4, 1);
  left = (10, 0, 4);
  right = (10, 4, 4);
  top = (10, 8, 4);
  bottom = (10, 12, 4);
  left_color = (10, 16, 7);
  right_color = (10, 23, 7);
  top_color = (14, 0, 7);
  bottom_color = (14, 7, 7);
  diagonals = (10, 30, 2);
  diagonal = (14, 21, 4);
  diagonal_color = (14, 14, 7);
  pattern = (14, 26, 6);
  color = (18, 0, 7);
  back = (18, 7, 7);
}

-- a field that a layout doesn't have is 0
abbrev pub absent : Field
absent = (0, 0, 0)

-- before BIFF8
abbrev pub layout_before_biff8 : Layout
layout_before_biff8 = record {
  font = (0, 0, 16);
  format = (2, 0, 16);
  locked = (4, 0, 1);
  concealed = (4, 1, 1);
  across = (6, 0, 3);
  wrap = (6, 3, 1);
  down = (6, 4, 3);
  turn = (7, 0, 2);
  indent = absent;
  shrink = absent;
  left = (12, 3, 3);
  right = (12, 6, 3);
  top = (12, 0, 3);
  bottom = (8, 22, 3);
  left_color = (12, 16, 7);
  right_color = (12, 23, 7);
  top_color = (12, 9, 7);
  bottom_color = (8, 25, 7);
  diagonals = absent;
  diagonal = absent;
  diagonal_color = absent;
  pattern = (8, 16, 6);
  color = (8, 0, 7);
  back = (8, 7, 7);
}

-- before BIFF8 the turn has four values: none, letters below each other, a quarter up, a quarter down
abbrev pub turn_before_biff8 : ℕ → ℕ
turn_before_biff8 n = if n == 1 then 255 else if n == 2 then 90 else if n == 3 then 180 else 0

-- ---- fields

abbrev pub line_at : Field → Field → List ℕ → Line
line_at line color body = record { line = field_at line body; color = field_at color body }

-- by a layout; a turn stands for this many degrees
abbrev pub xf_by : Layout → (ℕ → ℕ) → List ℕ → Xf
xf_by l turned body = record {
  font = field_at l.font body;
  format = field_at l.format body;
  is_locked = is_set l.locked body;
  is_concealed = is_set l.concealed body;
  across = field_at l.across body;
  is_wrapped = is_set l.wrap body;
  down = field_at l.down body;
  turn = turned (field_at l.turn body);
  indent = field_at l.indent body;
  is_shrunk = is_set l.shrink body;
  left = line_at l.left l.left_color body;
  right = line_at l.right l.right_color body;
  top = line_at l.top l.top_color body;
  bottom = line_at l.bottom l.bottom_color body;
  diagonals = field_at l.diagonals body;
  diagonal = line_at l.diagonal l.diagonal_color body;
  pattern = field_at l.pattern body;
  color = field_at l.color body;
  back = field_at l.back body;
}

abbrev pub xf_of_biff8 : List ℕ → Xf
xf_of_biff8 body = xf_by layout_of_biff8 (λ n. n) body

abbrev pub xf_before_biff8 : List ℕ → Xf
xf_before_biff8 body = xf_by layout_before_biff8 turn_before_biff8 body

abbrev pub xf_of : Biff → List ℕ → Xf
xf_of version body = if is_biff8 version then xf_of_biff8 body else xf_before_biff8 body

-- of the records of the globals, in order
abbrev pub xfs_of : Biff → List Placed → List Xf
xfs_of version [] = []
xfs_of version (r ∷ rs) = if r.typ == XF then xf_of version r.body ∷ xfs_of version rs else xfs_of version rs
