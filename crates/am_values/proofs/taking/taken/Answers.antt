use Rattle.std.proofs.Common.{arith, map, length, Some, subst, ◌≡◌, ◌++◌, ◌≤◌, ◌-◌}
use Rattle.std.specs.Prelude.{replicate, IfSome}
use Rattle.am_leb.specs.Leb.{uleb}
use Rattle.std.proofs.lemmas.List.{length-replicate, length-map}
use Rattle.am_runs.proofs.Parts.{behind_part, taken_part, none_on, enough_behind, room_part}
use Rattle.am_values.specs.Writing.{spelled}
use Rattle.am_values.proofs.Given.{spelled_part, spelled_behind, wide_enough, past_part, cut_part}
use Rattle.am_values.proofs.taking.taken.Goals as goal

pub put_alike-requires : goal.put_alike-requires
put_alike-requires c =
    let inv = c.loop-left.invariant in
    room_part c.args.numbers.now c.loop-left.numbers (map spelled c.args.from.now) c.args.n c.loop-left.left c.in-Some.count c.in-Some.ensures.next.1 inv.few (omega (arith, c.requires.enough, length-map c.args.from.now spelled)) c.requires.room inv.none inv.written

pub past-rest-requires : goal.past-rest-requires
past-rest-requires c = record { fits = wide_enough c.in-Some.count c.in-Some.number c.loop-left.from _ c.loop-left.rest.now c.in-Some.ensures.next.2 c.loop-left.invariant.cut }

pub loop-left-preserved : goal.loop-left-preserved
loop-left-preserved c =
    let arm = c.in-Some in
    let next = arm.ensures.next in
    let inv = c.loop-left.invariant in
    let part = replicate arm.count arm.number in
    let size = length-replicate arm.count arm.number in
    let same = spelled_part arm.count arm.number c.loop-left.from c.next_alike_within.new.self next.2 in
    let all : c.args.n ≤ length (map spelled c.args.from.now) = omega (arith, c.requires.enough, length-map c.args.from.now spelled) in
    record {
      few = omega (arith, inv.few);
      enough = enough_behind _ _ part _ arm.count size inv.enough next.2;
      cut = cut_part arm.count arm.number c.loop-left.from c.next_alike_within.new.self c.loop-left.rest.now _ next.2 c.past-rest.ensures.behind inv.cut;
      behind = behind_part _ _ _ part _ _ arm.count size next.1 inv.few c.requires.enough inv.behind next.2;
      raw = past_part c.args.from.now c.loop-left.from c.next_alike_within.new.self c.args.raw.now c.loop-left.rest.now _ arm.number c.args.n c.loop-left.left arm.count next.1 inv.few c.requires.enough inv.behind next.2 inv.raw c.past-rest.ensures.behind;
      written = taken_part c.args.numbers.now c.loop-left.numbers _ (map spelled c.args.from.now) (map spelled c.loop-left.from) (map spelled c.next_alike_within.new.self) (replicate arm.count (spelled arm.number)) _ _ arm.count (length-replicate arm.count (spelled arm.number)) next.1 inv.few all
          (spelled_behind (c.args.n - c.loop-left.left) c.args.from.now c.loop-left.from inv.behind) same inv.written
          (subst (λ v. IfSome c.loop-left.numbers (λ list. c.put_alike.new.numbers ≡ Some (list ++ replicate arm.count (Some (uleb v))))) c.unwrap_or.ensures c.in_ok-put_alike-in-Some.ensures.ok);
      none = none_on _ c.loop-left.numbers _ inv.none c.in_ok-put_alike-in-Some.ensures.failed;
    }
