use Rattle.std.specs.Map.Iter.{deref_pair}
use Rattle.std.proofs.Common.{option_map, ◌≡◌, ◌<◌, ◌∙◌, ◌++◌, ◌∷◌, [], length, get_or, cond, not, refl, ap, sym, subst, arith}
use Rattle.std.proofs.lemmas.List.{take_all}
use Rattle.std.proofs.lemmas.Option.{get_or_from_slice_get}
use Rattle.am_types.specs.declared.Hash.{Hash}
use Rattle.am_types.specs.Members.{heads}
use Rattle.am_graph.specs.declared.node.Node.{Node}
use Rattle.am_graph.specs.Graphs.{is_named_in, ForSet}
use Rattle.am_graph.proofs.Found.{wanted_among, wanted_push}
use Rattle.am_graph.proofs.Named.{heads_are}
use Rattle.am_graph.proofs.graph.Graph.heads.Goals as goal

pub loop-i-preserved : goal.loop-i-preserved
loop-i-preserved c =
    let g = c.self.inside.parts.held.entries in
    let i = c.loop-i.i in
    let x : Hash × Node = (c.unwrap.result.0.now, c.unwrap.result.1.now) in
    let view = c.self.view_is in
    let there = sym c.get_index.ensures.entry ∙ ap (option_map deref_pair) c.unwrap.ensures in
    let at : get_or g i x ≡ x = get_or_from_slice_get g i x x there in
    let low : i < length c.args.self.now = (let t = c.loop-i-test.true in let e = c.len-i-end.ensures.len in omega (arith, ap length view)) in
    let told : c.index.result.now ≡ is_named_in g x.0 =
    c.index.ensures ∙ c.in_ok-named.ensures.named i _ x low
    ∙ (λ t. is_named_in (sym view t) (get_or (sym view t) i x).0) ∙ ap (λ (q : Hash × Node). is_named_in g q.0) at in
    c.in_ok-pick.ensures ∙ (λ t. c.loop-i.invariant t ++ cond (not (told t)) (x.0 ∷ []) [])
    ∙ sym (wanted_push (λ h. not (is_named_in g h)) g i x there)

pub returns : goal.returns
returns c =
    let g = c.self.inside.parts.held.entries in
    record {
      set = subst (λ g. ForSet g (λ C. c.from.result ≡ heads C)) c.self.view_is
          (subst (λ found. ForSet g (λ C. found ≡ heads C)) (sym c.from.ensures)
          (heads_are g (λ h. is_named_in g h) c.loop-i.found.items c.sort_unstable.new.self.items
          (λ h. refl)
          (c.loop-i.invariant ∙ ap (wanted_among (λ h. not (is_named_in g h))) (take_all c.loop-i.i g (let f = c.loop-i-test.false in let e = c.len-i-end.ensures.len in omega arith)))
          c.sort_unstable.ensures.permutation c.sort_unstable.ensures.sorted));
    }
