use Rattle.std.proofs.Common.{ℕ, List, ◌∙◌, sym, subst, arith}
use Rattle.am_runs.proofs.Parts.{none_on}
use Rattle.am_fields.proofs.Lists.{drop_next}
use Rattle.am_doccols.specs.Conditions.{IsMetaFor}
use Rattle.am_doccols.specs.Metas.{meta_of}
use Rattle.am_doccols.proofs.MetasTaken.{none_is, none_left, next_good, room_further, metas_further}
use Rattle.am_doccols.proofs.meta_writer.MetaWriter.take_each.Goals as goal

pub unreachable-requires : goal.unreachable-requires
unreachable-requires c =
    let end = none_is c.next.result _ c.in_default.is c.next.ensures.end in
    none_left c.args.n c.loop-taken._taken c.args.from.now c.loop-taken-test.true c.requires.enough (sym c.loop-taken.invariant.behind ∙ end.0)

pub push_read-requires-clause-meta : goal.push_read-requires-clause-meta
push_read-requires-clause-meta c =
    let inv = c.loop-taken.invariant in
    let good = next_good (IsMetaFor c.args.self.now.0) c.args.n c.loop-taken._taken c.args.from.now c.next.new.self (meta_of c.in-Some.meta) c.loop-taken-test.true (sym inv.behind ∙ c.in-Some.ensures.next) c.requires.metas in
    subst (λ (actors : List (List ℕ)). IsMetaFor actors (meta_of c.in-Some.meta)) (sym inv.names) good

pub push_read-requires-clause-room : goal.push_read-requires-clause-room
push_read-requires-clause-room c =
    let inv = c.loop-taken.invariant in
    room_further c.args.self.now.1 c.loop-taken.self.1 c.args.from.now c.next.new.self c.args.n c.loop-taken._taken (meta_of c.in-Some.meta) c.loop-taken-test.true c.requires.enough (sym inv.behind ∙ c.in-Some.ensures.next) inv.none inv.written c.requires.room

pub loop-taken-preserved : goal.loop-taken-preserved
loop-taken-preserved c =
    let inv = c.loop-taken.invariant in
    let step = c.in_ok-push_read.ensures in
    record {
      few = omega (arith, c.loop-taken-test.true);
      names = step.actors ∙ inv.names;
      behind = drop_next c.loop-taken._taken c.args.from.now c.next.new.self (meta_of c.in-Some.meta) (sym inv.behind ∙ c.in-Some.ensures.next);
      written = metas_further c.args.self.now.1 c.loop-taken.self.1 c.push_read.new.self.1 c.args.from.now c.next.new.self c.loop-taken._taken (meta_of c.in-Some.meta) (sym inv.behind ∙ c.in-Some.ensures.next) inv.written step.ok;
      none = none_on c.args.self.now.1 c.loop-taken.self.1 c.push_read.new.self.1 inv.none step.failed;
    }
