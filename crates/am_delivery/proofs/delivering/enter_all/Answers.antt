use Rattle.std.proofs.Common.{◌≡◌, ◌∷◌, [], ◌++◌, List, map, filter, not, sym, ap, subst, ◌∙◌}
use Rattle.std.specs.Global.{Box}
use Rattle.std.specs.Map.Iter.{deref_pair}
use Rattle.std.proofs.lemmas.List.{map-append}
use Rattle.std.proofs.lemmas.Map.Iter.{rest_so_far, iter_end}
use Rattle.am_types.specs.declared.Hash.{Hash}
use Rattle.am_types.specs.declared.Change.{Change}
use Rattle.am_types.specs.Members.{holds}
use Rattle.am_types.specs.Deliver.{MayCome}
use Rattle.am_delivery.specs.Tracking.{Tracks}
use Rattle.am_delivery.specs.Views.{tracker}
use Rattle.am_delivery.specs.Waiting.{members_of, out_of_box, unboxed}
use Rattle.am_delivery.proofs.Tracking.{nothing_tracks}
use Rattle.am_delivery.proofs.Boxes.{unboxed_parts}
use Rattle.am_delivery.proofs.Arrivals.{of_parts}
use Rattle.am_delivery.proofs.Entering.{absent}
use Rattle.am_delivery.proofs.Entries.{told, next_is_fresh, enters_next}
use Rattle.am_delivery.proofs.delivering.enter_all.Goals as goal

pub loop-hash-init : goal.loop-hash-init
loop-hash-init g c = nothing_tracks (g.S.Closed.members c.args.closed.now) (tracker c.new-pending.result) c.new-pending.ensures.names c.new-pending.ensures.ready

pub loop-hash-preserved : goal.loop-hash-preserved
loop-hash-preserved g c =
    let C = g.S.Closed.members c.args.closed.now in
    let w = c.args.waiting.now in
    let ys : List (Hash × Box Change) = map deref_pair c.loop-hash.yielded in
    let x : Hash × Box Change = (c.in-Some.hash.now, c.in-Some.change.now) in
    let rest : List (Hash × Box Change) = c.next.new.self in
    let before : c.into_iter-hash-iterator.result ≡ ys ++ c.loop-hash.hash-iterator = rest_so_far deref_pair c.loop-hash.yielded _ _ c.loop-hash.yielded_by in
    let step : c.loop-hash.hash-iterator ≡ x ∷ rest = c.in-Some.ensures.steps in
    let start : c.into_iter-hash-iterator.result ≡ w.entries = c.into_iter-hash-iterator.ensures.into_iter_gives ∙ c.iter-hash-items.ensures.rest in
    let whole = unboxed_parts w.entries ys rest x (sym start ∙ before ∙ ap (λ l. ys ++ l) step) in
    let fresh = next_is_fresh w c.iter-hash-items.ensures.ordered (unboxed ys) (unboxed rest) (out_of_box x) whole in
    let fine = (of_parts MayCome (unboxed w.entries) (unboxed ys) (unboxed rest) (out_of_box x) (sym whole) c.requires).1.fine in
    let lacks = c.as_slice-in-loop-hash.result.now in
    let is = c.as_slice-in-loop-hash.ensures.value ∙ c.in_ok-absent.ensures ∙ ap (filter (λ h. not (holds C h))) c.as_slice.ensures ∙ ap (absent C) c.deref.ensures in
    let old = tracker c.loop-hash.pending in
    let new = tracker c.enter.new.self in
    subst (λ l. Tracks C (members_of l) new) (sym (ap unboxed (map-append deref_pair c.loop-hash.yielded ((c.in-Some.hash, c.in-Some.change) ∷ [])) ∙ map-append out_of_box ys (x ∷ [])))
    (enters_next C (unboxed ys) old new c.loop-hash.invariant (out_of_box x) fresh fine lacks is c.in_ok-enter.ensures.count c.in_ok-enter.ensures.others c.in_ok-enter.ensures.names
    (told c.loop-hash.pending.ready c.enter.new.self.ready x.0 _ c.in_ok-enter.ensures.ready))

pub returns : goal.returns
returns g c =
    let w = c.args.waiting.now in
    let start : c.into_iter-hash-iterator.result ≡ w.entries = c.into_iter-hash-iterator.ensures.into_iter_gives ∙ c.iter-hash-items.ensures.rest in
    let all = iter_end deref_pair w.entries c.loop-hash.yielded _ _ _ c.next.result start c.loop-hash.yielded_by c.in-None.is c.next.ensures.steps in
    subst (λ l. Tracks (g.S.Closed.members c.args.closed.now) (members_of (unboxed l)) (tracker c.loop-hash.pending)) all.0 c.loop-hash.invariant
