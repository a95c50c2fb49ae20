use Rattle.am_rebuild.proofs.document.rebuilt_from.Goals as goal

pub answered-requires : goal.answered-requires
answered-requires c = c.spelled_tables_are_sound.ensures c.is_spelled.ensures.bytes c.args.doc.now c.is_spelled.ensures.spelled
