use Rattle.am_fields.proofs.ids.DeltaColumnBeside.item.Goals as goal

pub returns-clause-item : goal.returns-clause-item
returns-clause-item c = (c.next.result, c.next.ensures, c.id_at.ensures.id)
