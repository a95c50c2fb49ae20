use Rattle.std.proofs.Common.{◌≡◌, ◌<◌, ◌≤◌, [], ◌∷◌, ◌++◌, List, length, map, take, get_or, option_map, Bor, ap, sym, ◌∙◌, arith}
use Rattle.std.proofs.lemmas.List.{map-append, take_more, take_all, length-map}
use Rattle.std.proofs.lemmas.List.Elements.{Contains-get_or}
use Rattle.am_types.specs.declared.Change.{Change}
use Rattle.am_types.specs.Canonical.{order}
use Rattle.am_types.specs.Members.{Member}
use Rattle.am_graph.proofs.Visiting.{no_member}
use Rattle.am_merge.specs.ChangeRows.{turn, turns}
use Rattle.am_merge.proofs.Arrivals.{hash_at}
use Rattle.am_merge.proofs.ChangeRows.{from_order}
use Rattle.am_merge.proofs.order.turns_of.Goals as goal

pub loop-hash-preserved : goal.loop-hash-preserved
loop-hash-preserved c = λ C E h e.
    let M : List Member = order (C ++ E) in
    let i = c.loop-hash.hash-index in
    let low : i < length c.args.ordered.now = c.loop-hash-test.true in
    let long : length c.args.ordered.now ≡ length M = ap length e ∙ length-map M (λ (m : Member). m.hash) in
    let m : Member = get_or M i no_member in
    let within : i < length M = omega arith in
    let one = c.turn_of.ensures C E h m (from_order (C ++ E) m (Contains-get_or M i no_member within)) (sym (hash_at M c.args.ordered.now e i no_member (record { 0 = [] }) low)) in
    ap (map (option_map (λ (c : Bor Change). c.now))) c.in_ok-push.ensures.items
    ∙ map-append (option_map (λ (c : Bor Change). c.now)) c.loop-hash.found.items (c.turn_of.result ∷ [])
    ∙ (λ t. c.loop-hash.invariant C E h e t ++ one t ∷ [])
    ∙ sym (map-append (turn C) (take i M) (m ∷ []))
    ∙ ap (turns C) (sym (take_more M i no_member within))

pub returns : goal.returns
returns c = λ C E h e.
    let M : List Member = order (C ++ E) in
    let long : length c.args.ordered.now ≡ length M = ap length e ∙ length-map M (λ (m : Member). m.hash) in
    let all : length M ≤ c.loop-hash.hash-index = omega (arith, c.loop-hash-test.false) in
    c.loop-hash.invariant C E h e ∙ ap (turns C) (take_all c.loop-hash.hash-index M all)
