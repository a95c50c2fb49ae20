use Rattle.std.specs.Map.Iter.{deref_pair}
use Rattle.std.proofs.Common.{option_map, ◌≡◌, ◌∙◌, ◌++◌, ◌∷◌, [], cond, ap, sym, subst, arith}
use Rattle.std.proofs.lemmas.List.{take_all}
use Rattle.am_graph.specs.Graphs.{has, ForSet, TellsAncestors}
use Rattle.am_types.specs.Members.{hashes}
use Rattle.am_types.specs.Ancestors.{ancestors}
use Rattle.am_types.specs.Order.{hash_cmp, sorted_by}
use Rattle.am_graph.proofs.Found.{wanted_among, wanted_push, found_is}
use Rattle.am_graph.proofs.graph.Graph.ancestors.Goals as goal

pub loop-i-preserved : goal.loop-i-preserved
loop-i-preserved c =
    c.in_ok-pick.ensures ∙ (λ t. c.loop-i.invariant t ++ cond (c.contains-is_wanted.ensures t) (c.unwrap.result.0.now ∷ []) [])
    ∙ sym (wanted_push (has c.in_ok-wanted.wanted) c.self.inside.parts.held.entries c.loop-i.i (c.unwrap.result.0.now, c.unwrap.result.1.now) (sym c.get_index.ensures.entry ∙ ap (option_map deref_pair) c.unwrap.ensures))

pub returns-clause-ok : goal.returns-clause-ok
returns-clause-ok c =
    subst (λ g. ForSet g (λ C. c.from.result ≡ sorted_by hash_cmp (hashes (ancestors C c.args.heads.now)))) c.self.view_is
    (subst (λ found. ForSet c.self.inside.parts.held.entries (λ C. found ≡ sorted_by hash_cmp (hashes (ancestors C c.args.heads.now)))) (sym c.from.ensures)
    (found_is c.self.inside.parts.held.entries c.args.heads.now (has c.in_ok-wanted.wanted) c.loop-i.found.items c.sort_unstable.new.self.items
    (subst (λ g. TellsAncestors g c.args.heads.now (has c.in_ok-wanted.wanted)) (sym c.self.view_is) c.in_ok-wanted.ensures.ok)
    (c.loop-i.invariant ∙ ap (wanted_among (has c.in_ok-wanted.wanted)) (take_all c.loop-i.i c.self.inside.parts.held.entries (let f = c.loop-i-test.false in let e = c.len-i-end.ensures.len in omega arith)))
    c.sort_unstable.ensures.permutation c.sort_unstable.ensures.sorted))
