use Rattle.xls_documents.proofs.properties.put_known.Goals as goal

pub returns : goal.returns
returns g c = c.put_fields.ensures
