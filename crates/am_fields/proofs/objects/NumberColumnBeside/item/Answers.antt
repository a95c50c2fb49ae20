use Rattle.am_fields.proofs.objects.NumberColumnBeside.item.Goals as goal

pub returns-clause-item : goal.returns-clause-item
returns-clause-item c = (c.next.result, c.next.ensures, c.object_at.ensures.object)
