use Rattle.std.proofs.Common.{◌≡◌, length, refl, subst, arith}
use Rattle.std.proofs.lemmas.Grind.{common_steps}
use Rattle.am_runs.specs.declared.pending.PendingKind.TheVariants as pending
use Rattle.am_runs.specs.Listing.{IsRunBefore, Stands}
use Rattle.am_runs.proofs.Listing.{nothing_stands, listed_bare, listed_when}
use Rattle.am_runs.proofs.list.push_list.Goals.{in-Nulls+else-len-start, in_default}
use Rattle.am_runs.proofs.list.push_list.Goals as goal

pub loop-place-init : goal.loop-place-init
loop-place-init g c = nothing_stands g.K.Item.end_of g.K.Spells.spelling c.args.out.now.items c.args.values.now

pub returns-then-len-start : goal.returns-then-len-start
returns-then-len-start g c =
    listed_bare g.K.Item.end_of g.K.Spells.spelling c.args.out.now.items c.loop-place.out.items c.args.values.now c.loop-place.place c.loop-place.pending.kind c.loop-place.pending.count c.in-Nulls.is (omega (arith, c.len.ensures, c.len-start.ensures, c.if-len-start.true)) (omega arith) c.requires c.loop-place.invariant

pub close_at-requires-clause-run : goal.close_at-requires-clause-run
close_at-requires-clause-run g c =
    let s = c.loop-place.invariant in
    let at : c.loop-place.place ≡ length c.args.values.now = omega arith in
    (s.front, s.last, subst (λ p. IsRunBefore g.K.Spells.spelling c.args.values.now p c.loop-place.pending.kind c.loop-place.pending.count s.front s.last) at s.run)

pub returns : goal.returns
returns g c =
    let at : c.loop-place.place ≡ length c.args.values.now = omega arith in
    let bare : c.loop-place.pending.kind ≡ pending.Nulls → length c.loop-place.out.items ≡ length c.args.out.now.items → ⊥ = elim c.match-pending.branch [
      | in-Nulls+else-len-start w ↦ λ k e. (let l = w.len.ensures in let f = w.if-len-start.false in grind (arith, common_steps))
      | in_default w ↦ λ k e. w.in_default.not-Nulls k
    ] in
    listed_when c.close_at.result g.K.Item.end_of g.K.Spells.spelling c.args.out.now.items c.loop-place.out.items c.close_at.new.out.items c.args.values.now (length c.args.values.now) c.loop-place.pending.kind c.loop-place.pending.count bare refl c.requires c.close_at.ensures
    (subst (λ p. Stands g.K.Item.end_of g.K.Spells.spelling c.args.out.now.items c.loop-place.out.items c.args.values.now p c.loop-place.pending.kind c.loop-place.pending.count) at c.loop-place.invariant)
