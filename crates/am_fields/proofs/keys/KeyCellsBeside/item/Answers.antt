use Rattle.std.proofs.Common.{sym, ap, ◌∙◌, length, arith, option_map}
use Rattle.am_fields.proofs.Zips.{length-zip, zip-next}
use Rattle.am_fields.proofs.keys.KeyCellsBeside.item.Goals as goal

pub next-requires : goal.next-requires
next-requires c = omega (arith, c.requires, ap length c.self.view_is, length-zip c.self.inside.counter c.self.inside.name c.self.invariant)

pub next-requires-2 : goal.next-requires-2
next-requires-2 c = omega (arith, c.requires, ap length c.self.view_is, length-zip c.self.inside.counter c.self.inside.name c.self.invariant, c.self.invariant)

pub invariant_of-self : goal.invariant_of-self
invariant_of-self c = omega (arith, c.self.invariant, ap length c.next.ensures, ap length c.next-2.ensures)

pub returns-clause-item : goal.returns-clause-item
returns-clause-item c = ((c.next.result, option_map (λ s. s.now) c.next-2.result), sym c.self.view_is ∙ zip-next c.next.result (option_map (λ s. s.now) c.next-2.result) c.self.inside.counter c.next.new.self c.self.inside.name c.next-2.new.self c.next.ensures c.next-2.ensures, c.key_at.ensures.key)
