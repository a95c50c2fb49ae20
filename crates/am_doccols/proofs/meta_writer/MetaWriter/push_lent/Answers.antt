use Rattle.std.proofs.Common.{Some, ap}
use Rattle.am_fields.proofs.WriteLaws.{step_as}
use Rattle.am_doccols.specs.Lent.{meta_with}
use Rattle.am_doccols.proofs.MetasShort.{columns_open, not_failed}
use Rattle.am_doccols.proofs.MetasWritten.{metas_pushed}
use Rattle.am_doccols.proofs.meta_writer.MetaWriter.push_lent.Goals as goal

pub number_in-requires : goal.number_in-requires
number_in-requires c = (c.requires.meta).seq

pub number_in-requires-2 : goal.number_in-requires-2
number_in-requires-2 c = (c.requires.meta).max

pub push-requires : goal.push-requires
push-requires c = (columns_open c.self.inside.failed c.self.inside.actors c.self.inside.columns c.args.self.now.1 c.args.deps.now c.if-self.false (ap (λ p. p.1) c.self.view_is) c.self.invariant c.requires.room).actor

pub push-requires-2-clause-room : goal.push-requires-2-clause-room
push-requires-2-clause-room c = (columns_open c.self.inside.failed c.self.inside.actors c.self.inside.columns c.args.self.now.1 c.args.deps.now c.if-self.false (ap (λ p. p.1) c.self.view_is) c.self.invariant c.requires.room).seq

pub push-requires-3-clause-room : goal.push-requires-3-clause-room
push-requires-3-clause-room c = (columns_open c.self.inside.failed c.self.inside.actors c.self.inside.columns c.args.self.now.1 c.args.deps.now c.if-self.false (ap (λ p. p.1) c.self.view_is) c.self.invariant c.requires.room).max

pub push-requires-4-clause-room : goal.push-requires-4-clause-room
push-requires-4-clause-room c = (columns_open c.self.inside.failed c.self.inside.actors c.self.inside.columns c.args.self.now.1 c.args.deps.now c.if-self.false (ap (λ p. p.1) c.self.view_is) c.self.invariant c.requires.room).time

pub push-requires-5 : goal.push-requires-5
push-requires-5 c = (columns_open c.self.inside.failed c.self.inside.actors c.self.inside.columns c.args.self.now.1 c.args.deps.now c.if-self.false (ap (λ p. p.1) c.self.view_is) c.self.invariant c.requires.room).message

pub push-requires-6 : goal.push-requires-6
push-requires-6 c = (columns_open c.self.inside.failed c.self.inside.actors c.self.inside.columns c.args.self.now.1 c.args.deps.now c.if-self.false (ap (λ p. p.1) c.self.view_is) c.self.invariant c.requires.room).lengths

pub push_places-requires-clause-room : goal.push_places-requires-clause-room
push_places-requires-clause-room c = (columns_open c.self.inside.failed c.self.inside.actors c.self.inside.columns c.args.self.now.1 c.args.deps.now c.if-self.false (ap (λ p. p.1) c.self.view_is) c.self.invariant c.requires.room).deps

pub push_places-requires-clause-places : goal.push_places-requires-clause-places
push_places-requires-clause-places c = (c.requires.meta).deps

pub push-requires-7-clause-room : goal.push-requires-7-clause-room
push-requires-7-clause-room c = (columns_open c.self.inside.failed c.self.inside.actors c.self.inside.columns c.args.self.now.1 c.args.deps.now c.if-self.false (ap (λ p. p.1) c.self.view_is) c.self.invariant c.requires.room).extra

pub returns-clause-failed : goal.returns-clause-failed
returns-clause-failed c = not_failed c.self.inside.failed c.self.inside.actors c.self.inside.columns c.args.self.now.1 _ c.if-self.false (ap (λ p. p.1) c.self.view_is)

pub invariant_of-self-2 : goal.invariant_of-self-2
invariant_of-self-2 c =
    (metas_pushed c.self.inside.failed c.self.inside.actors c.lend.result c.self.inside.columns _ c.args.self.now (meta_with c.args.meta c.args.deps.now)
    c.if-self.false (ap (λ p. p.0) c.self.view_is) (ap (λ p. p.1) c.self.view_is) c.self.invariant c.lend.ensures c.requires.meta c.requires.room
    (record {
      actor = step_as _ _ _ _ c.in_ok-push.ensures.ok (ap Some c.place-place.ensures);
      seq = step_as _ _ _ _ c.in_ok-push-2.ensures.ok c.number_in.ensures;
      max = step_as _ _ _ _ c.in_ok-push-3.ensures.ok c.number_in-2.ensures;
      time = step_as _ _ _ _ c.in_ok-push-4.ensures.ok c.time_in.ensures;
      message = step_as _ _ _ _ c.in_ok-push-5.ensures.ok c.message_in.ensures;
      lengths = c.in_ok-push-6.ensures.ok;
      deps = c.in_ok-push_places.ensures;
      extra = c.in_ok-push-7.ensures.ok;
    })).0

pub returns-clause-ok : goal.returns-clause-ok
returns-clause-ok c =
    (metas_pushed c.self.inside.failed c.self.inside.actors c.lend.result c.self.inside.columns _ c.args.self.now (meta_with c.args.meta c.args.deps.now)
    c.if-self.false (ap (λ p. p.0) c.self.view_is) (ap (λ p. p.1) c.self.view_is) c.self.invariant c.lend.ensures c.requires.meta c.requires.room
    (record {
      actor = step_as _ _ _ _ c.in_ok-push.ensures.ok (ap Some c.place-place.ensures);
      seq = step_as _ _ _ _ c.in_ok-push-2.ensures.ok c.number_in.ensures;
      max = step_as _ _ _ _ c.in_ok-push-3.ensures.ok c.number_in-2.ensures;
      time = step_as _ _ _ _ c.in_ok-push-4.ensures.ok c.time_in.ensures;
      message = step_as _ _ _ _ c.in_ok-push-5.ensures.ok c.message_in.ensures;
      lengths = c.in_ok-push-6.ensures.ok;
      deps = c.in_ok-push_places.ensures;
      extra = c.in_ok-push-7.ensures.ok;
    })).1
