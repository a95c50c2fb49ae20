use Rattle.am_store.proofs.AnyFile.{document_is_told}
use Rattle.am_store.proofs.any_file.document_told.Goals as goal

pub returns : goal.returns
returns c = document_is_told c.history_or_none.ensures c.is_rebuilt.ensures c.one_judgement.ensures c.args.contents.now c.read-doc.result c.requires c.read-doc.ensures.judged
