use Rattle.std.proofs.Common.{rules, sym, ap, ◌∙◌, subst, FitsSigned, w64}
use Rattle.std.proofs.lemmas.Int.{to_z-of_z}
use Rattle.am_delta.specs.Deltas.{sum_after, IsMiddling}
use Rattle.am_delta.proofs.Sums.{passed}
use Rattle.am_delta.proofs.Writing.{last_middling, middling_fits}
use Rattle.am_delta.proofs.Steps.{room_more, after_last, stepped}
use Rattle.am_delta.proofs.writer.DeltaWriter.push_steps.Goals as goal

pub put_alike-requires : goal.put_alike-requires
put_alike-requires c = room_more _ _ _ c.args.count c.if-self.false c.self.view_is c.requires.room

pub value_after-self-inside-requires : goal.value_after-self-inside-requires
value_after-self-inside-requires c =
    let last = to_z-of_z w64 c.self.inside.last (middling_fits c.self.inside.last (last_middling _ _ _ c.if-self.false c.self.invariant)) in
    let after = after_last _ _ c.self.inside.last _ c.args.difference c.args.count c.if-self.false c.self.invariant c.self.view_is c.requires.values in
    middling_fits _ (subst (λ z. IsMiddling (sum_after z c.args.difference c.args.count)) (sym last) after)

pub invariant_of-self-2 : goal.invariant_of-self-2
invariant_of-self-2 c =
    let last = to_z-of_z w64 c.self.inside.last (middling_fits c.self.inside.last (last_middling _ _ _ c.if-self.false c.self.invariant)) in
    let end = c.value_after-self-inside.result in
    let fits : FitsSigned w64 end = search rules in
    (stepped _ _ _ c.self.inside.last (passed end) _ c.args.difference c.args.count c.if-self.false c.self.invariant c.self.view_is c.requires.values
    (to_z-of_z w64 end fits ∙ c.value_after-self-inside.ensures ∙ ap (λ z. sum_after z c.args.difference c.args.count) last)
    c.in_ok-put_alike.ensures).0

pub returns-clause-ok : goal.returns-clause-ok
returns-clause-ok c =
    let last = to_z-of_z w64 c.self.inside.last (middling_fits c.self.inside.last (last_middling _ _ _ c.if-self.false c.self.invariant)) in
    let end = c.value_after-self-inside.result in
    let fits : FitsSigned w64 end = search rules in
    (stepped _ _ _ c.self.inside.last (passed end) _ c.args.difference c.args.count c.if-self.false c.self.invariant c.self.view_is c.requires.values
    (to_z-of_z w64 end fits ∙ c.value_after-self-inside.ensures ∙ ap (λ z. sum_after z c.args.difference c.args.count) last)
    c.in_ok-put_alike.ensures).1
