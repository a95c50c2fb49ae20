use Rattle.am_store.proofs.OneDocument as one_document
use Rattle.am_store.proofs.laws.documents_tell_sets.Goals as goal

pub returns : goal.returns
returns c = one_document.documents_tell_sets c.documents_are_read_back.ensures.documents c.tables_tell_sets.ensures
