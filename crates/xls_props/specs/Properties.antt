-- The properties of a workbook ([MS-OLEPS]; the numbers of the fields are those of the property
-- sets SummaryInformation and DocumentSummaryInformation).
use Rattle.std.specs.Prelude.{◌≡◌, ℕ, List, Option}
use Rattle.std.specs.Option.{option_map}
use Rattle.std.specs.String.{string_bytes}
use Rattle.xls_props.specs.Values.{Shows}
use Rattle.xls_props.specs.Custom.{HasLast}
use Rattle.xls_props.specs.Sections.{section_from, summary_id, document_id, custom_id, field_of, version_of, customs_in}
use Rattle.xls_props.specs.declared.properties.WorkbookProperties.{WorkbookProperties}

-- these are the fields of a summary section
pub record IsSummary (s : List ℕ) (p : WorkbookProperties) : Type 0 where
  pub title : Shows (field_of 0x02 s) p.title
  pub subject : Shows (field_of 0x03 s) p.subject
  pub creator : Shows (field_of 0x04 s) p.creator
  pub keywords : Shows (field_of 0x05 s) p.keywords
  pub description : Shows (field_of 0x06 s) p.description
  pub template : Shows (field_of 0x07 s) p.template
  pub last_modified_by : Shows (field_of 0x08 s) p.last_modified_by
  pub revision : Shows (field_of 0x09 s) p.revision
  pub created : Shows (field_of 0x0C s) p.created
  pub modified : Shows (field_of 0x0D s) p.modified
  pub application : Shows (field_of 0x12 s) p.application

-- these are the fields of a document section
pub record IsDocument (s : List ℕ) (p : WorkbookProperties) : Type 0 where
  pub category : Shows (field_of 0x02 s) p.category
  pub manager : Shows (field_of 0x0E s) p.manager
  pub company : Shows (field_of 0x0F s) p.company
  pub content_status : Shows (field_of 0x1B s) p.content_status
  pub version : Shows (field_of 0x1D s) p.version
  pub app_version : option_map string_bytes p.app_version ≡ version_of s

-- these are the properties of sections
pub record HasFields (s d c : List ℕ) (p : WorkbookProperties) : Type 0 where
  pub summary : IsSummary s p
  pub document : IsDocument d p
  pub custom : HasLast p.custom_properties (customs_in c)

-- these are the properties of the summary stream and the document stream
abbrev pub IsProperties : Option (List ℕ) → Option (List ℕ) → WorkbookProperties → Type 0
IsProperties summary document = HasFields (section_from summary_id summary)
    (section_from document_id document) (section_from custom_id document)
