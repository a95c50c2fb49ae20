use Rattle.std.proofs.Common.{◌≡◌, ◌∷◌, [], ◌++◌, Result, Ok, Err, OnOk, IfSome, IfNone, filter, not, option_map, vec_items, sym, ap, subst, ◌∙◌}
use Rattle.std.specs.BTreeMap.{insert_entry}
use Rattle.std.proofs.lemmas.List.{map-append}
use Rattle.am_types.specs.declared.Hash.{Hash}
use Rattle.am_types.specs.declared.Change.{Change}
use Rattle.am_types.specs.Order.{hash_cmp}
use Rattle.am_types.specs.Members.{Member, holds}
use Rattle.am_types.specs.Deliver.{Sets, Alike, receive}
use Rattle.am_delivery.specs.Tracking.{Tracks}
use Rattle.am_delivery.specs.Views.{tracker}
use Rattle.am_delivery.specs.Waiting.{member_of, members_of, unboxed, waiting_of}
use Rattle.am_delivery.proofs.Arrivals.{change_of, looked_in, none_member, joined_waiting, told_closed, told_waiting, is_fresh, alike_new, alike_told}
use Rattle.am_delivery.proofs.Entries.{told, enters_next}
use Rattle.am_delivery.proofs.Leaving.{tracks_permuted}
use Rattle.am_delivery.proofs.arriving.receive_one.Goals as goal

on_ok : {T E : Type 0} (r : Result T E) (P Q : Type 0) → (P → Q) → OnOk r P → OnOk r Q
on_ok (Ok x) P Q f p = f p
on_ok (Err e) P Q f p = tt

pub returns-in-Some-clause-alike : goal.returns-in-Some-clause-alike
returns-in-Some-clause-alike g c =
    let C = g.S.Closed.members c.args.closed.now in
    let W = waiting_of c.args.waiting.now in
    let m : Member = record { hash = c.args.hash; change = c.args.change } in
    on_ok c.tell.result _ _ (alike_told C W m c.in-Some.same (told_closed C W m.hash m.change c.in-Some.same (sym c.in-Some.is ∙ c.in_ok-same.ensures)) (vec_items c.args.rejected.now) (vec_items c.tell.new.rejected)) c.tell.ensures

pub returns-in-Some-2-clause-alike : goal.returns-in-Some-2-clause-alike
returns-in-Some-2-clause-alike g c =
    let C = g.S.Closed.members c.args.closed.now in
    let W = waiting_of c.args.waiting.now in
    let R = vec_items c.args.rejected.now in
    let Q = vec_items c.tell-in-Some-2.new.rejected in
    let m : Member = record { hash = c.args.hash; change = c.args.change } in
    let first : Sets = record { closed = C; waiting = W; rejected = R } in
    let some = told_waiting C W m.hash m.change _ (sym c.in_default.is ∙ c.in_ok-same.ensures) (sym c.in-Some-2.is ∙ c.in_ok-same-2.ensures.same) in
    let stays : c.put.new.waiting.entries ≡ c.args.waiting.now.entries = subst (λ o. IfSome o (λ b. c.put.new.waiting.entries ≡ c.args.waiting.now.entries)) c.in-Some-2.is c.in_ok-same-2.ensures.stays in
    on_ok c.tell-in-Some-2.result _ _
    (λ e. subst (λ es. Alike (receive first (m ∷ [])) (record { closed = C; waiting = members_of (unboxed es); rejected = Q })) (sym stays) (alike_told C W m c.in-Some-2.same some R Q e))
    c.tell-in-Some-2.ensures

pub returns-clause-alike : goal.returns-clause-alike
returns-clause-alike g c =
    let C = g.S.Closed.members c.args.closed.now in
    let w = c.args.waiting.now in
    let none = told_waiting C (waiting_of w) c.args.hash c.args.change _ (sym c.in_default.is ∙ c.in_ok-same.ensures) (sym c.in_default-2.is ∙ c.in_ok-same-2.ensures.same) in
    let entries : unboxed c.put.new.waiting.entries ≡ insert_entry hash_cmp (unboxed w.entries) c.args.hash c.args.change = subst (λ o. IfNone o (unboxed c.put.new.waiting.entries ≡ insert_entry hash_cmp (unboxed w.entries) c.args.hash c.args.change)) c.in_default-2.is c.in_ok-same-2.ensures.put in
    alike_new C w c.put.new.waiting (vec_items c.args.rejected.now) c.args.hash c.args.change none entries

pub returns-clause-tracks : goal.returns-clause-tracks
returns-clause-tracks g c =
    let C = g.S.Closed.members c.args.closed.now in
    let w = c.args.waiting.now in
    let none = told_waiting C (waiting_of w) c.args.hash c.args.change _ (sym c.in_default.is ∙ c.in_ok-same.ensures) (sym c.in_default-2.is ∙ c.in_ok-same-2.ensures.same) in
    let entries : unboxed c.put.new.waiting.entries ≡ insert_entry hash_cmp (unboxed w.entries) c.args.hash c.args.change = subst (λ o. IfNone o (unboxed c.put.new.waiting.entries ≡ insert_entry hash_cmp (unboxed w.entries) c.args.hash c.args.change)) c.in_default-2.is c.in_ok-same-2.ensures.put in
    let fresh : holds (waiting_of w) c.args.hash ≡ Rattle.std.proofs.Common.false = is_fresh C (waiting_of w) c.args.hash c.args.change none in
    let x : Hash × Change = (c.args.hash, c.args.change) in
    let m : Member = member_of x in
    let old = tracker c.args.pending.now in
    let new = tracker c.enter.new.self in
    let lacks = c.as_slice-2.result.now in
    let is = c.as_slice-2.ensures.value ∙ c.in_ok-absent.ensures ∙ ap (filter (λ h. not (holds C h))) c.as_slice.ensures in
    let unlisted = looked_in w c.args.hash ∙ ap (option_map change_of) (none_member (waiting_of w) c.args.hash fresh) in
    let entered = enters_next C (unboxed w.entries) old new c.requires.tracks x fresh c.requires.fine lacks is c.in_ok-enter.ensures.count c.in_ok-enter.ensures.others c.in_ok-enter.ensures.names
    (told c.args.pending.now.ready c.enter.new.self.ready x.0 _ c.in_ok-enter.ensures.ready) in
    tracks_permuted C (waiting_of w ++ m ∷ []) (waiting_of c.put.new.waiting) new (joined_waiting c.args.hash c.args.change w c.put.new.waiting unlisted entries)
    (subst (λ W. Tracks C W new) (map-append member_of (unboxed w.entries) (x ∷ [])) entered)
