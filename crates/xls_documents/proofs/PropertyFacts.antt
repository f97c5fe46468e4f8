-- The exact text of properties: all fields, a custom property, and a field that is missing.
use Rattle.std.proofs.Common.{◌≡◌, ℕ, List, [], ◌∷◌, ◌++◌, map, Option, Some, None, refl, ap, ◌∙◌, codes}
use Rattle.std.specs.List.{AllZip, flat_map}
use Rattle.std.specs.Global.{Global}
use Rattle.std.specs.Option.{option_map}
use Rattle.std.specs.Str.{chars}
use Rattle.std.specs.String.{string_bytes}
use Rattle.std.specs.declared.string.String.{String}
use Rattle.xls_props.specs.declared.properties.WorkbookProperties.{WorkbookProperties}
use Rattle.xls_readable.specs.Lines.{custom_members}
use Rattle.xls_readable.specs.declared.properties.Property.{Property}
use Rattle.xls_readable.specs.declared.properties.Property.TheVariants as property
use Rattle.xls_documents.specs.Lines.{Line, exact_lines}
use Rattle.xls_documents.specs.Properties.{custom_lines, field_lines, fields_in, property_line, property_lines}

-- ---- properties of which each has a text

abbrev pub IsText : Option (String Global) → List ℕ → Type 0
IsText field text = option_map string_bytes field ≡ Some text

pub record IsSample (p : WorkbookProperties) (name value : String Global) : Type 0 where
  pub title : IsText p.title (codes "A")
  pub subject : IsText p.subject (codes "B")
  pub creator : IsText p.creator (codes "C")
  pub keywords : IsText p.keywords (codes "D")
  pub description : IsText p.description (codes "E\nF")
  pub template : IsText p.template (codes "G")
  pub last_modified_by : IsText p.last_modified_by (codes "H")
  pub revision : IsText p.revision (codes "I")
  pub created : IsText p.created (codes "J")
  pub modified : IsText p.modified (codes "K")
  pub application : IsText p.application (codes "L")
  pub category : IsText p.category (codes "M")
  pub manager : IsText p.manager (codes "N")
  pub company : IsText p.company (codes "O")
  pub content_status : IsText p.content_status (codes "P")
  pub version : IsText p.version (codes "Q")
  pub app_version : IsText p.app_version (codes "R")
  pub customs : p.custom_properties.entries ≡ (name, value) ∷ []
  pub name_is : string_bytes name ≡ codes "S"
  pub value_is : string_bytes value ≡ codes "T\tU"

-- ---- their lines

abbrev IsField : Property × Option (String Global) → Property × List ℕ → Type 0
IsField f t = (f.0 ≡ t.0) × IsText f.1 t.1

abbrev line_of : Property × List ℕ → Line
line_of t = property_line t.0 t.1

field_line : (kind : Property) (field : Option (String Global)) (t : Property × List ℕ) → IsField (kind, field) t
    → field_lines kind field ≡ line_of t ∷ []
field_line kind None t is = absurd (let n : None ≡ Some t.1 = is.1 in cc)
field_line kind (Some s) t is =
    let same : string_bytes s ≡ t.1 = (let e : Some (string_bytes s) ≡ Some t.1 = is.1 in cc) in
    ap (λ (k : Property). property_line k (string_bytes s) ∷ []) is.0 ∙ ap (λ (b : List ℕ). property_line t.0 b ∷ []) same

all_lines : (fs : List (Property × Option (String Global))) (ts : List (Property × List ℕ)) → AllZip IsField fs ts
    → flat_map (λ f. field_lines f.0 f.1) fs ≡ map line_of ts
all_lines [] [] is = refl
all_lines [] (t ∷ ts) is = absurd is
all_lines (f ∷ fs) [] is = absurd is
all_lines (f ∷ fs) (t ∷ ts) is =
    ap (λ (l : List Line). l ++ flat_map (λ g. field_lines g.0 g.1) fs) (field_line f.0 f.1 t is.0)
    ∙ ap (λ (l : List Line). line_of t ∷ l) (all_lines fs ts is.1)

-- the fields and their texts
abbrev table : List (Property × List ℕ)
table =
    (property.Title, codes "A")
    ∷ (property.Subject, codes "B")
    ∷ (property.Creator, codes "C")
    ∷ (property.Keywords, codes "D")
    ∷ (property.Description, codes "E\nF")
    ∷ (property.Template, codes "G")
    ∷ (property.LastModifiedBy, codes "H")
    ∷ (property.Revision, codes "I")
    ∷ (property.Created, codes "J")
    ∷ (property.Modified, codes "K")
    ∷ (property.Application, codes "L")
    ∷ (property.Category, codes "M")
    ∷ (property.Manager, codes "N")
    ∷ (property.Company, codes "O")
    ∷ (property.ContentStatus, codes "P")
    ∷ (property.Version, codes "Q")
    ∷ (property.AppVersion, codes "R") ∷ []

custom_line : (name value : String Global) → string_bytes name ≡ codes "S" → string_bytes value ≡ codes "T\tU"
    → custom_lines (name, value) ≡ (codes "custom", custom_members (codes "S") (codes "T\tU")) ∷ []
custom_line name value n v =
    ap (λ (b : List ℕ). (codes "custom", custom_members b (string_bytes value)) ∷ []) n
    ∙ ap (λ (b : List ℕ). (codes "custom", custom_members (codes "S") b) ∷ []) v

lines_of : (p : WorkbookProperties) (name value : String Global) → IsSample p name value
    → property_lines p ≡ map line_of table ++ ((codes "custom", custom_members (codes "S") (codes "T\tU")) ∷ [])
lines_of p name value s =
    ap (λ (l : List Line). l ++ flat_map custom_lines p.custom_properties.entries) (all_lines (fields_in p) table (
      (refl, s.title),
      ((refl, s.subject), ((refl, s.creator), ((refl, s.keywords), ((refl, s.description), ((refl, s.template), ((refl, s.last_modified_by), ((refl, s.revision), ((refl, s.created), ((refl, s.modified), ((refl, s.application), ((refl, s.category), ((refl, s.manager), ((refl, s.company), ((refl, s.content_status), ((refl, s.version), ((refl, s.app_version), tt)))))))))))))))),
    ))
    ∙ ap (λ (es : List (String Global × String Global)). map line_of table ++ flat_map custom_lines es) s.customs
    ∙ ap (λ (l : List Line). map line_of table ++ (l ++ [])) (custom_line name value s.name_is s.value_is)

text_of : exact_lines (map line_of table ++ ((codes "custom", custom_members (codes "S") (codes "T\tU")) ∷ []))
    ≡ codes "title\tA\nsubject\tB\ncreator\tC\nkeywords\tD\ndescription\tE\\nF\ntemplate\tG\nlast_modified_by\tH\nrevision\tI\ncreated\tJ\nmodified\tK\napplication\tL\ncategory\tM\nmanager\tN\ncompany\tO\ncontent_status\tP\nversion\tQ\napp_version\tR\ncustom\tS\tT\\tU\n"
unfolding chars lib.Utf8.encode
text_of = refl

-- each field in one order, and then the custom property
pub known_properties : (p : WorkbookProperties) (name value : String Global) → IsSample p name value → exact_lines (property_lines p)
    ≡ codes "title\tA\nsubject\tB\ncreator\tC\nkeywords\tD\ndescription\tE\\nF\ntemplate\tG\nlast_modified_by\tH\nrevision\tI\ncreated\tJ\nmodified\tK\napplication\tL\ncategory\tM\nmanager\tN\ncompany\tO\ncontent_status\tP\nversion\tQ\napp_version\tR\ncustom\tS\tT\\tU\n"
known_properties p name value s = ap exact_lines (lines_of p name value s) ∙ text_of

-- a field that isn't there has no line
pub no_line : (kind : Property) → field_lines kind None ≡ []
no_line kind = refl
