use Rattle.std.proofs.Common.{◌≡◌, suc, ◌+◌, ◌<◌, length, drop, true, false, sym, ◌∙◌, arith, rules, get_or}
use Rattle.std.specs.Cmp.Lexicographic.{texts_ties}
use Rattle.am_types.specs.Same.{same_bytes}
use Rattle.am_fields.specs.Columns.{place_of}
use Rattle.am_fields.proofs.PlaceLaws.{place-here, place-next-at}
use Rattle.am_fields.proofs.listed.place_in.Goals as goal

pub returns-then-same_actor : goal.returns-then-same_actor
returns-then-same_actor c =
    let actors = c.args.actors.now in
    let actor = c.args.actor.now in
    let at = c.as_slice.result.now in
    let within : c.loop-i.i < length actors = search rules in
    let there : at ≡ get_or actors c.loop-i.i at = search rules in
    let yes : same_bytes actor at ≡ true = search rules in
    let here : place_of (drop c.loop-i.i actors) actor ≡ 0 = place-here actors c.loop-i.i actor at within there (sym (texts_ties actor at) ∙ yes) in
    let all : place_of actors actor ≡ c.loop-i.i + place_of (drop c.loop-i.i actors) actor = search rules in
    omega arith

pub loop-i-preserved : goal.loop-i-preserved
loop-i-preserved c =
    let actors = c.args.actors.now in
    let actor = c.args.actor.now in
    let at = c.as_slice.result.now in
    let within : c.loop-i.i < length actors = search rules in
    let there : at ≡ get_or actors c.loop-i.i at = search rules in
    let no : same_bytes actor at ≡ false = search rules in
    let next : place_of (drop c.loop-i.i actors) actor ≡ suc (place_of (drop (c.loop-i.i + 1) actors) actor) = place-next-at actors c.loop-i.i (c.loop-i.i + 1) actor at (omega arith) within there (sym (texts_ties actor at) ∙ no) in
    let all : place_of actors actor ≡ c.loop-i.i + place_of (drop c.loop-i.i actors) actor = search rules in
    (omega arith, omega arith)
