use Rattle.std.proofs.Common.{◌≡◌, ◌<◌, length, arith, refl, sym, ap, ◌∙◌, subst, get_or, Contains}
use Rattle.am_types.specs.declared.Meta.{Meta}
use Rattle.am_change.specs.Hashes.{own_hash}
use Rattle.am_rebuild.specs.Joined.{BuiltGapless}
use Rattle.am_rebuild.specs.Mentions.{AreSortedMentions}
use Rattle.am_rebuild.specs.Names.{names_of}
use Rattle.am_rebuild.proofs.Loop.{gapless_start, goes_on, stops}
use Rattle.am_rebuild.proofs.building.build_from.Goals as goal
use Rattle.am_rebuild.proofs.building.build_from.Goals.{then-i-metas, else-i-metas}

pub loop-i-init : goal.loop-i-init
loop-i-init c = record {
  left = λ h. refl;
  builds = λ t s m. subst (BuiltGapless own_hash t 0) (sym c.requires.empty) (gapless_start own_hash t);
}

pub change_at-requires-clause-named : goal.change_at-requires-clause-named
change_at-requires-clause-named c =
    subst (λ (m : Meta). Contains (names_of c.args.names.now) m.actor) (sym c.index-metas-i.is) (c.requires.named c.loop-i.i c.index-metas-i.result c.loop-i-test.true)

pub loop-i-preserved : goal.loop-i-preserved
loop-i-preserved c =
    let here = c.deref.ensures.value ∙ c.loop-i.invariant.left c.loop-i-test.true in
    record {
      left = λ h. elim c.if-i-metas.branch [
        | then-i-metas w ↦ absurd (omega arith)
        | else-i-metas w ↦ (λ j. (w.left-is j).items) ∙ c.loop-i.invariant.left c.loop-i-test.true
      ];
      builds = λ t s m.
          goes_on own_hash t c.loop-i.i c.loop-i.gathered (c.loop-i.invariant.builds t s m) c.index-metas-i.result
          (subst (λ l. c.loop-i.i < length l) (sym m) c.loop-i-test.true)
          (subst (λ l. c.index-metas-i.result ≡ get_or l c.loop-i.i c.index-metas-i.result) (sym m) c.index-metas-i.is)
          c.join_next.new.gathered c.in_ok-joined.joined (c.in_ok-joined.ensures t.rows c.index-metas-i.result (c.in_ok-change.ensures t.rows (subst (AreSortedMentions t.rows) (sym here) s))) c.if-not-joined.false;
    }

pub returns-then-not-joined : goal.returns-then-not-joined
returns-then-not-joined c = λ t s m.
    let here = c.deref.ensures.value ∙ c.loop-i.invariant.left c.loop-i-test.true in
    stops own_hash t c.loop-i.i c.loop-i.gathered (c.loop-i.invariant.builds t s m) c.index-metas-i.result
    (subst (λ l. c.loop-i.i < length l) (sym m) c.loop-i-test.true)
    (subst (λ l. c.index-metas-i.result ≡ get_or l c.loop-i.i c.index-metas-i.result) (sym m) c.index-metas-i.is)
    c.join_next.new.gathered c.in_ok-joined.joined (c.in_ok-joined.ensures t.rows c.index-metas-i.result (c.in_ok-change.ensures t.rows (subst (AreSortedMentions t.rows) (sym here) s))) c.if-not-joined.true

pub returns : goal.returns
returns c = λ t s m.
    let e : c.loop-i.i ≡ length c.args.metas.now = omega arith in
    subst (λ n. BuiltGapless own_hash t n c.loop-i.gathered) (e ∙ ap length (sym m)) (c.loop-i.invariant.builds t s m)
