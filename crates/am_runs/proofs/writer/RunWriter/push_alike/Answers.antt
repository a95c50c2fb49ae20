use Rattle.std.proofs.Common.{◌≡◌, ◌-◌, ◌++◌, Some, None, refl, sym, subst, arith}
use Rattle.std.specs.Prelude.{IfSome, IfNone, replicate}
use Rattle.std.specs.Option.{option_copied}
use Rattle.am_runs.proofs.Alike.{pushed_more, none_goes}
use Rattle.am_runs.proofs.writer.RunWriter.push_alike.Goals as goal

pub returns-then-count_more-clause-ok : goal.returns-then-count_more-clause-ok
returns-then-count_more-clause-ok g c =
    let all : c.args.count - (c.loop-left.left - c.loop-left.left) ≡ c.args.count = omega arith in
    subst (λ n. IfSome c.args.self.now (λ list. c.count_more.new.self ≡ Some (list ++ replicate n (option_copied c.args.entry)))) all
    (pushed_more _ _ _ _ _ _ _ (omega arith) c.loop-left.invariant.few c.loop-left.invariant.written (c.if-count_more.ensures.more refl))

pub loop-left-preserved : goal.loop-left-preserved
loop-left-preserved g c =
    let same = c.if-count_more.ensures.other refl in
    record {
      few = omega (arith, c.loop-left.invariant.few);
      written = pushed_more c.args.self.now c.count_more.new.self c.push.new.self c.args.count c.loop-left.left 1 (option_copied c.args.entry) (omega arith) c.loop-left.invariant.few
          (subst (λ v. IfSome c.args.self.now (λ list. v ≡ Some (list ++ replicate (c.args.count - c.loop-left.left) (option_copied c.args.entry)))) (sym same) c.loop-left.invariant.written)
          c.in_ok-push.ensures.ok;
      none = none_goes _ c.count_more.new.self _ _ (subst (λ v. IfNone c.args.self.now (v ≡ None)) (sym same) c.loop-left.invariant.none) c.in_ok-push.ensures.failed;
    }
