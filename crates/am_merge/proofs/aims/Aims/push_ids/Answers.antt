use Rattle.std.proofs.Common.{◌∙◌, ◌∷◌, [], ◌++◌, ◌<◌, length, ap, arith, eqb-true, map, subst, sym}
use Rattle.std.proofs.lemmas.List.{map-append}
use Rattle.am_types.specs.Operations.{Operation}
use Rattle.am_types.specs.Views.{id_of}
use Rattle.am_places.specs.Numbered.{operation_of}
use Rattle.am_merge.specs.Aims.{namers}
use Rattle.am_merge.specs.declared.aims.Aim.{Aim}
use Rattle.am_merge.proofs.Aimed.{one_id, onward}
use Rattle.am_merge.proofs.aims.Aims.push_ids.Goals as goal

pub loop-next-smaller : goal.loop-next-smaller
loop-next-smaller c =
    let t = c.args.self.now in
    let a = c.index-aim.result.now in
    let within : c.loop-next.next < length t.aims.items = omega (arith, c.loop-next-test.true, c.len.ensures) in
    let next = onward t c.requires.linked c.args.at c.loop-next.next c.index-next-in-loop-next.result.now a within c.index-aim.ensures (c.loop-next.invariant.is a within) c.index-next-in-loop-next.ensures in
    omega (arith, next.order, next.bound, c.loop-next-test.true)

pub loop-next-preserved : goal.loop-next-preserved
loop-next-preserved c =
    let t = c.args.self.now in
    let a = c.index-aim.result.now in
    let within : c.loop-next.next < length t.aims.items = omega (arith, c.loop-next-test.true, c.len.ensures) in
    let h = c.index-next-in-loop-next.result.now in
    let inv = c.loop-next.invariant in
    let next = onward t c.requires.linked c.args.at c.loop-next.next h a within c.index-aim.ensures (inv.is a within) c.index-next-in-loop-next.ensures in
    let low : a.place < length c.args.operations.now = subst (λ (b : Aim). b.place < length c.args.operations.now) (sym c.index-aim.ensures) (c.requires.places c.loop-next.next a within) in
    let pushed = ap (map id_of) c.in_ok-push.ensures.items ∙ map-append id_of c.loop-next.ids.items (c.id.result ∷ []) ∙ ap (λ i. map id_of c.loop-next.ids.items ++ i ∷ []) c.id.ensures in
    record {
      bound = next.bound;
      is = λ d l. eqb-true _ c.args.at (next.is d l);
      rest = one_id t c.requires.linked c.args.at c.loop-next.next h a within c.index-aim.ensures (inv.is a within) c.index-next-in-loop-next.ensures
          c.args.operations.now c.index-operations-aim.result low c.index-operations-aim.is
          (map id_of c.loop-next.ids.items) (map id_of c.push.new.self.items) (map id_of c.args.ids.now.items ++ map (λ (x : Operation). x.id) (namers (map operation_of c.args.operations.now) t.aims.items c.args.at)) pushed inv.rest;
    }
