-- For the proofs: what has been seen of a section, and what it decides.
use Rattle.std.specs.Prelude.{false, not, ◌&&◌, ◌||◌, List, [], ◌∷◌, if◌then◌else◌, None}
use Rattle.xls_number_formats.specs.declared.items.Item.{Item}
use Rattle.xls_number_formats.specs.declared.sections.Kind.TheVariants as kind
use Rattle.xls_number_formats.specs.declared.sections.Section.{Section}
use Rattle.xls_number_formats.specs.declared.sections.Scan.{Scan}
use Rattle.xls_number_formats.specs.Grammar.{is_place}
use Rattle.xls_number_formats.specs.Sections.{is_date_item, is_year_item, is_elapsed, is_general, is_text, is_slash, is_exponent, is_value, is_part, is_shown, own_condition, later}

abbrev pub no_items : Scan
no_items = record {
  date = false;
  year = false;
  value = false;
  general = false;
  text = false;
  shown = false;
  elapsed = false;
  slash = false;
  second_slash = false;
  place_before = false;
  part_behind = false;
  exponent = false;
  exponent_place = false;
  condition = None;
}

abbrev pub scanned : Scan → Item → Scan
scanned s i = record {
  date = s.date || is_date_item i;
  year = s.year || is_year_item i;
  value = s.value || is_value i;
  general = s.general || is_general i;
  text = s.text || is_text i;
  shown = s.shown || is_shown i;
  elapsed = s.elapsed || is_elapsed i;
  slash = s.slash || is_slash i;
  second_slash = s.second_slash || (s.slash && is_slash i);
  place_before = s.place_before || (not (s.slash || is_slash i) && is_place i);
  part_behind = s.part_behind || (s.slash && is_part i);
  exponent = s.exponent || is_exponent i;
  exponent_place = s.exponent_place || (s.exponent && is_place i);
  condition = later s.condition (own_condition i);
}

abbrev pub scan_all : Scan → List Item → Scan
scan_all s [] = s
scan_all s (i ∷ is) = scan_all (scanned s i) is

abbrev pub section_by : Scan → Section
section_by s = record {
  kind = if s.date || (s.year && not s.value) then kind.Date else if s.general then kind.General
      else if s.slash && not s.second_slash && s.place_before && s.part_behind then kind.Fraction
      else if s.exponent_place then kind.Exponent else kind.Plain;
  condition = s.condition;
  has_text = s.text;
  has_items = s.shown;
  has_elapsed = s.elapsed;
}
