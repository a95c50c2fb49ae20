use Rattle.std.proofs.Common.{rules, ap, ◌∙◌, FitsSigned, w64}
use Rattle.std.proofs.lemmas.Int.{to_z-of_z}
use Rattle.am_delta.specs.Deltas.{less, or_last}
use Rattle.am_delta.proofs.Sums.{passed}
use Rattle.am_delta.proofs.Writing.{room, pushed, last_middling, middling_fits}
use Rattle.am_delta.proofs.writer.DeltaWriter.push.Goals as goal

pub put-requires : goal.put-requires
put-requires c = room _ _ _ c.if-self.false c.self.view_is c.requires.room

pub invariant_of-self-2 : goal.invariant_of-self-2
invariant_of-self-2 c =
    let last = to_z-of_z w64 c.self.inside.last (middling_fits c.self.inside.last (last_middling _ _ _ c.if-self.false c.self.invariant)) in
    let fits : FitsSigned w64 c.value_or-self-inside.result = search rules in
    (pushed _ _ _ c.self.inside.last (passed c.value_or-self-inside.result) _ c.args.value c.difference_to-difference.result c.if-self.false c.self.invariant c.self.view_is c.requires.value
    (c.difference_to-difference.ensures ∙ ap (less c.args.value) last)
    (to_z-of_z w64 c.value_or-self-inside.result fits ∙ c.value_or-self-inside.ensures ∙ ap (or_last c.args.value) last)
    c.in_ok-put.ensures).0

pub returns-clause-ok : goal.returns-clause-ok
returns-clause-ok c =
    let last = to_z-of_z w64 c.self.inside.last (middling_fits c.self.inside.last (last_middling _ _ _ c.if-self.false c.self.invariant)) in
    let fits : FitsSigned w64 c.value_or-self-inside.result = search rules in
    (pushed _ _ _ c.self.inside.last (passed c.value_or-self-inside.result) _ c.args.value c.difference_to-difference.result c.if-self.false c.self.invariant c.self.view_is c.requires.value
    (c.difference_to-difference.ensures ∙ ap (less c.args.value) last)
    (to_z-of_z w64 c.value_or-self-inside.result fits ∙ c.value_or-self-inside.ensures ∙ ap (or_last c.args.value) last)
    c.in_ok-put.ensures).1
