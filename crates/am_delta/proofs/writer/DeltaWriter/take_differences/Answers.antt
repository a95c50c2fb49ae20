use Rattle.std.proofs.Common.{◌≡◌, ◌++◌, false, Some, take, drop, arith, rules, sym, ap, ◌∙◌, subst, FitsSigned, w64}
use Rattle.std.specs.Prelude.{IfSome}
use Rattle.std.proofs.lemmas.Int.{ints, to_z-of_z}
use Rattle.am_delta.specs.Deltas.{sums_from, last_from, AreMiddling, values_written}
use Rattle.am_delta.proofs.Sums.{passed}
use Rattle.am_delta.proofs.Steps.{room_more}
use Rattle.am_delta.proofs.Copying.{copied, front_middling, took_values}
use Rattle.am_delta.proofs.writer.DeltaWriter.take_differences.Goals as goal

pub push_next-requires-clause-room : goal.push_next-requires-clause-room
push_next-requires-clause-room c = room_more _ _ _ c.args.most c.if-self.false c.self.view_is c.requires.room

pub invariant_of-self-2 : goal.invariant_of-self-2
invariant_of-self-2 c =
    let v = c.parts-differences.result.1 in
    let ds = c.parts-differences.result.0 in
    let part = take c.in_ok-k.k ds in
    let end = c.sum_behind-last.result in
    let start_fits : FitsSigned w64 v = search rules in
    let end_fits : FitsSigned w64 end = search rules in
    let same : c.self.inside.last ≡ v = omega (arith, ints) in
    let end_is : end ≡ last_from v (sums_from v part) = subst (λ z. end ≡ last_from z (sums_from z part)) (to_z-of_z w64 v start_fits) c.sum_behind-last.ensures.last in
    let middling : AreMiddling (sums_from c.self.inside.last part) = subst (λ z. AreMiddling (sums_from z part)) (sym same) (front_middling v c.in_ok-k.k ds c.args.from.now c.parts-differences.ensures.values c.requires.values) in
    (copied _ _ _ c.self.inside.last (passed end) _ part c.if-self.false c.self.invariant c.self.view_is middling
    (to_z-of_z w64 end end_fits ∙ end_is ∙ ap (λ z. last_from z (sums_from z part)) (sym same)) c.in_ok-k.ensures.ok).0

pub returns-clause-ok : goal.returns-clause-ok
returns-clause-ok c =
    let v = c.parts-differences.result.1 in
    let ds = c.parts-differences.result.0 in
    let k = c.in_ok-k.k in
    let part = take k ds in
    let end = c.sum_behind-last.result in
    let start_fits : FitsSigned w64 v = search rules in
    let end_fits : FitsSigned w64 end = search rules in
    let same : c.self.inside.last ≡ v = search (arith, ints, rules) in
    let end_is : end ≡ last_from v (sums_from v part) = subst (λ z. end ≡ last_from z (sums_from z part)) (to_z-of_z w64 v start_fits) c.sum_behind-last.ensures.last in
    let middling : AreMiddling (sums_from c.self.inside.last part) = subst (λ z. AreMiddling (sums_from z part)) (sym same) (front_middling v k ds c.args.from.now c.parts-differences.ensures.values c.requires.values) in
    let written = (copied _ _ _ c.self.inside.last (passed end) _ part c.if-self.false c.self.invariant c.self.view_is middling
    (to_z-of_z w64 end end_fits ∙ end_is ∙ ap (λ z. last_from z (sums_from z part)) (sym same)) c.in_ok-k.ensures.ok).1 in
    took_values v k ds c.args.from.now c.from_parts.result c.args.self.now _ c.parts-differences.ensures.values
    (c.from_parts.ensures ∙ ap (λ z. sums_from z c.sum_behind-last.new.differences) (to_z-of_z w64 end end_fits) ∙ c.sum_behind-last.ensures.drops ∙ ap (λ z. drop k (sums_from z ds)) (to_z-of_z w64 v start_fits))
    c.in_ok-k.ensures.few.1
    (subst (λ z. IfSome c.args.self.now (λ l. values_written false c.push_next.new.self ≡ Some (l ++ sums_from z part))) same written)
