use Rattle.std.proofs.Common.{◌∙◌, ◌<◌, ◌≤◌, length, get_or, AllPairs, inl, inr, ap, sym, subst, arith}
use Rattle.std.specs.List.{insert}
use Rattle.am_fits.specs.Runs.{Apart}
use Rattle.am_fits.proofs.runs.enter.Goals as goal

pub returns-then-lengthen-clause-ok : goal.returns-then-lengthen-clause-ok
returns-then-lengthen-clause-ok c = inr (c.lengthen.ensures.longer c.if-lengthen.true)

pub upto-place-requires : goal.upto-place-requires
upto-place-requires c = subst (AllPairs Apart) (sym (c.as_slice.ensures.value ∙ c.lengthen.ensures.same c.if-lengthen.false)) c.requires

pub returns-clause-ok : goal.returns-clause-ok
returns-clause-ok c =
    let same = c.lengthen.ensures.same c.if-lengthen.false in
    let e = c.as_slice.ensures.value ∙ same in
    let long = ap length e in
    inl (record {
      at = c.upto-place.result;
      within = omega (arith, c.upto-place.ensures.within);
      is = c.in_ok-insert.ensures.items ∙ ap (λ xs. insert xs c.upto-place.result c.args.run) same;
      below = λ k d l. subst (λ xs. (get_or xs k d).start ≤ c.args.run.start) e (c.upto-place.ensures.below k d l);
      above = λ k d l m. subst (λ xs. c.args.run.start < (get_or xs k d).start) e (c.upto-place.ensures.above k d l (omega arith));
    })

pub returns-then-lengthen-clause-longer : goal.returns-then-lengthen-clause-longer
returns-then-lengthen-clause-longer c new is few = c.lengthen.ensures.longer c.if-lengthen.true

pub returns-clause-longer : goal.returns-clause-longer
returns-clause-longer c new is few = absurd (c.lengthen.ensures.none c.if-lengthen.false new is few)
