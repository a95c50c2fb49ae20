use Rattle.am_store.proofs.Inversion as inversion
use Rattle.am_store.proofs.laws.documents_are_read_back.Goals as goal

pub returns-clause-documents : goal.returns-clause-documents
returns-clause-documents c = inversion.documents c.canonical_contents_spell.ensures.sets c.one_judgement.ensures c.document_is_history.ensures c.listing_is_free.ensures c.valid_sets_keep_rules.ensures c.both_come_back.ensures c.one_reading.ensures

pub returns-clause-files : goal.returns-clause-files
returns-clause-files c = inversion.files c.canonical_contents_spell.ensures.sets c.one_judgement.ensures c.document_is_history.ensures c.listing_is_free.ensures c.valid_sets_keep_rules.ensures c.both_come_back.ensures c.one_reading.ensures
