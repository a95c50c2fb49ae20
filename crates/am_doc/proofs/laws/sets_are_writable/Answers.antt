use Rattle.am_types.specs.Documents.{table}
use Rattle.am_doc.proofs.Writable.{writable}
use Rattle.am_doc.proofs.laws.sets_are_writable.Goals as goal

pub returns : goal.returns
returns c = λ C v. writable (table C) (c.table_is_within.ensures C v)
