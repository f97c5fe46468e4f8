-- The lines of the properties of a workbook.
use Rattle.std.specs.Prelude.{ℕ, List, [], ◌∷◌, ◌++◌, Option, Some, None, codes}
use Rattle.std.specs.Borrow.{Bor}
use Rattle.std.specs.Global.{Global}
use Rattle.std.specs.List.{flat_map}
use Rattle.std.specs.String.{string_bytes}
use Rattle.std.specs.declared.string.String.{String}
use Rattle.xls_props.specs.declared.properties.WorkbookProperties.{WorkbookProperties}
use Rattle.xls_readable.specs.Lines.{custom_members, property_word, text_members}
use Rattle.xls_readable.specs.declared.properties.Property.{Property}
use Rattle.xls_readable.specs.declared.properties.Property.TheVariants as property
use Rattle.xls_documents.specs.Lines.{Line}

-- the property's word, and its text
abbrev pub property_line : Property → List ℕ → Line
property_line kind text = (property_word kind, text_members text)

-- of a property that is there
abbrev pub field_lines : Property → Option (String Global) → List Line
field_lines kind None = []
field_lines kind (Some text) = property_line kind (string_bytes text) ∷ []

-- name and value of a custom property
abbrev pub custom_lines : String Global × String Global → List Line
custom_lines custom = (codes "custom", custom_members (string_bytes custom.0) (string_bytes custom.1)) ∷ []

-- the properties with names of their own, in the order of the lines
abbrev pub fields_in : WorkbookProperties → List (Property × Option (String Global))
fields_in p =
    (property.Title, p.title) ∷ (property.Subject, p.subject) ∷ (property.Creator, p.creator)
    ∷ (property.Keywords, p.keywords) ∷ (property.Description, p.description)
    ∷ (property.Template, p.template) ∷ (property.LastModifiedBy, p.last_modified_by)
    ∷ (property.Revision, p.revision) ∷ (property.Created, p.created)
    ∷ (property.Modified, p.modified) ∷ (property.Application, p.application)
    ∷ (property.Category, p.category) ∷ (property.Manager, p.manager)
    ∷ (property.Company, p.company) ∷ (property.ContentStatus, p.content_status)
    ∷ (property.Version, p.version) ∷ (property.AppVersion, p.app_version) ∷ []

-- the lines of those that are there
abbrev pub known_lines : WorkbookProperties → List Line
known_lines p = flat_map (λ f. field_lines f.0 f.1) (fields_in p)

-- and then those of the custom properties, in the order of the map
abbrev pub property_lines : WorkbookProperties → List Line
property_lines p = known_lines p ++ flat_map custom_lines p.custom_properties.entries

-- ---- for the contracts of one step

-- the lines of a property that is lent
abbrev pub displayed_field : Property × Bor (Option (String Global)) → List Line
displayed_field field = field_lines field.0 field.1.now
