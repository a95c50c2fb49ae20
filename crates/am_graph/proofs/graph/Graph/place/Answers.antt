use Rattle.std.proofs.Common.{◌≡◌, ◌∙◌, ◌<◌, option_map, length, get_or, ap, sym, arith}
use Rattle.std.specs.List.{position}
use Rattle.std.specs.Map.{keys_of}
use Rattle.std.proofs.lemmas.Option.{slice_get-get_or}
use Rattle.am_types.specs.contracts.hash.HashPartialEq.TheImpl as equality
use Rattle.am_graph.specs.Graphs.{nodes}
use Rattle.am_graph.proofs.Finding.{member_at}
use Rattle.am_graph.proofs.Growing.{length_nodes}
use Rattle.am_graph.proofs.Visiting.{no_member}
use Rattle.am_graph.proofs.Waiting.{found_at}
use Rattle.am_graph.proofs.graph.Graph.place.Goals as goal

pub returns-in_default : goal.returns-in_default
returns-in_default c = record {
  set = λ C e. member_at C c.args.hash.now
      ∙ ap (λ g. option_map (λ i. get_or C i no_member) (position (equality.eq-value.it c.args.hash.now) (keys_of g))) (sym (c.self.view_is ∙ e))
      ∙ ap (option_map (λ i. get_or C i no_member)) (sym c.in_default.ensures.index);
}

pub returns : goal.returns
returns c = record {
  set = λ C e. (let s = c.self.inside.parts in
      let is : s.held.entries ≡ nodes C = c.self.view_is ∙ e in
      let f = found_at s.held.entries c.args.hash.now c.in-Some.place (sym c.in-Some.ensures.index) in
      let l : c.in-Some.place < length s.held.entries = f.0 in
      let n = length_nodes C in let z = ap length is in
      let within : c.in-Some.place < length C = omega arith in (
        within,
        member_at C c.args.hash.now
            ∙ ap (λ g. option_map (λ i. get_or C i no_member) (position (equality.eq-value.it c.args.hash.now) (keys_of g))) (sym is)
            ∙ ap (option_map (λ i. get_or C i no_member)) (sym c.in-Some.ensures.index)
            ∙ sym (slice_get-get_or C c.in-Some.place no_member within),
      ));
}
