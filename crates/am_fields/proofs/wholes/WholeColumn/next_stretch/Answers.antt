use Rattle.std.proofs.Common.{◌-◌, ◌∙◌, arith, length, map, drop, sym, ap, subst}
use Rattle.std.specs.Prelude.{slice_index}
use Rattle.am_fields.specs.Layout.{whole}
use Rattle.am_fields.specs.Wholes.{wholes, AreWhole}
use Rattle.am_fields.proofs.MetaLaws.{whole-wholes, length-wholes, wholes-drop, AreWhole-drop}
use Rattle.am_fields.proofs.Stretches.{first_whole, first_is, stretched, behind_stretch, new_is}
use Rattle.am_fields.proofs.wholes.WholeColumn.next_stretch.Goals as goal

pub next_stretch-first-requires-clause-left : goal.next_stretch-first-requires-clause-left
next_stretch-first-requires-clause-left c =
    omega (arith, c.requires.left, ap length (sym c.self.view_is), length-wholes c.self.inside.column c.self.invariant)

pub whole_of-first-requires : goal.whole_of-first-requires
whole_of-first-requires c =
    let next = c.next_stretch-first in
    let numbers = ap (map whole) (sym c.self.view_is) ∙ whole-wholes c.self.inside.column c.self.invariant ∙ next.ensures.next in
    first_whole next.result.0 next.result.1 next.result.2 c.args.self.now _ numbers next.ensures.some

pub last_of-last-requires-clause-first : goal.last_of-last-requires-clause-first
last_of-last-requires-clause-first c =
    let next = c.next_stretch-first in
    let numbers = ap (map whole) (sym c.self.view_is) ∙ whole-wholes c.self.inside.column c.self.invariant ∙ next.ensures.next in
    first_is next.result.0 next.result.1 next.result.2 c.args.self.now _ c.whole_of-first.result numbers c.whole_of-first.ensures ∙ ap (λ l. slice_index l 0) (sym c.again-before.ensures)

pub last_of-last-requires-clause-enough : goal.last_of-last-requires-clause-enough
last_of-last-requires-clause-enough c =
    let next = c.next_stretch-first in
    let numbers = ap (map whole) (sym c.self.view_is) ∙ whole-wholes c.self.inside.column c.self.invariant ∙ next.ensures.next in
    omega (arith, next.ensures.some, behind_stretch next.result.0 next.result.1 next.result.2 c.args.self.now _ numbers next.ensures.some, ap length c.again-before.ensures)

pub invariant_of-self : goal.invariant_of-self
invariant_of-self c =
    let next = c.next_stretch-first in
    subst AreWhole (sym (new_is next.result.0 next.result.1 next.result.2 c.self.inside.column _ next.ensures.next next.ensures.some)) (AreWhole-drop next.result.2 c.self.inside.column c.self.invariant)

pub returns-then-last-first-clause-left : goal.returns-then-last-first-clause-left
returns-then-last-first-clause-left c =
    let next = c.next_stretch-first in
    let numbers = ap (map whole) (sym c.self.view_is) ∙ whole-wholes c.self.inside.column c.self.invariant ∙ next.ensures.next in
    behind_stretch next.result.0 next.result.1 next.result.2 c.args.self.now _ numbers next.ensures.some

pub returns-then-last-first-clause-between : goal.returns-then-last-first-clause-between
returns-then-last-first-clause-between c =
    let next = c.next_stretch-first in
    let numbers = ap (map whole) (sym c.self.view_is) ∙ whole-wholes c.self.inside.column c.self.invariant ∙ next.ensures.next in
    let w = stretched c.args.self.now next.result.0 next.result.1 next.result.2 c.whole_of-first.result c.last_of-last.result _ numbers next.ensures.some c.whole_of-first.ensures (c.last_of-last.ensures ∙ ap (λ l. slice_index l (next.result.2 - 1)) c.again-before.ensures) in
    w.between c.last_of-last.result c.whole_of-first.result (omega arith) (omega arith) (omega arith) (omega arith)

pub returns-then-last-first-clause-behind : goal.returns-then-last-first-clause-behind
returns-then-last-first-clause-behind c =
    let next = c.next_stretch-first in
    ap wholes (new_is next.result.0 next.result.1 next.result.2 c.self.inside.column _ next.ensures.next next.ensures.some) ∙ wholes-drop next.result.2 c.self.inside.column c.self.invariant ∙ ap (drop next.result.2) c.self.view_is

pub invariant_of-self-2 : goal.invariant_of-self-2
invariant_of-self-2 c =
    let next = c.next_stretch-first in
    subst AreWhole (sym (new_is next.result.0 next.result.1 next.result.2 c.self.inside.column _ next.ensures.next next.ensures.some)) (AreWhole-drop next.result.2 c.self.inside.column c.self.invariant)

pub returns-clause-left : goal.returns-clause-left
returns-clause-left c =
    let next = c.next_stretch-first in
    let numbers = ap (map whole) (sym c.self.view_is) ∙ whole-wholes c.self.inside.column c.self.invariant ∙ next.ensures.next in
    behind_stretch next.result.0 next.result.1 next.result.2 c.args.self.now _ numbers next.ensures.some

pub returns-clause-between : goal.returns-clause-between
returns-clause-between c =
    let next = c.next_stretch-first in
    let numbers = ap (map whole) (sym c.self.view_is) ∙ whole-wholes c.self.inside.column c.self.invariant ∙ next.ensures.next in
    let w = stretched c.args.self.now next.result.0 next.result.1 next.result.2 c.whole_of-first.result c.last_of-last.result _ numbers next.ensures.some c.whole_of-first.ensures (c.last_of-last.ensures ∙ ap (λ l. slice_index l (next.result.2 - 1)) c.again-before.ensures) in
    w.between c.whole_of-first.result c.last_of-last.result (omega arith) (omega arith) (omega arith) (omega arith)

pub returns-clause-by_one : goal.returns-clause-by_one
returns-clause-by_one c =
    let next = c.next_stretch-first in
    let numbers = ap (map whole) (sym c.self.view_is) ∙ whole-wholes c.self.inside.column c.self.invariant ∙ next.ensures.next in
    let w = stretched c.args.self.now next.result.0 next.result.1 next.result.2 c.whole_of-first.result c.last_of-last.result _ numbers next.ensures.some c.whole_of-first.ensures (c.last_of-last.ensures ∙ ap (λ l. slice_index l (next.result.2 - 1)) c.again-before.ensures) in
    λ one. w.by_one (c.is_by_one.ensures one)

pub returns-clause-behind : goal.returns-clause-behind
returns-clause-behind c =
    let next = c.next_stretch-first in
    ap wholes (new_is next.result.0 next.result.1 next.result.2 c.self.inside.column _ next.ensures.next next.ensures.some) ∙ wholes-drop next.result.2 c.self.inside.column c.self.invariant ∙ ap (drop next.result.2) c.self.view_is
