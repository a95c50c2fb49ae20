use Rattle.std.proofs.Common.{◌≡◌, ◌∙◌, ◌+◌, ◌++◌, ◌∷◌, length, take, drop, ap, sym, subst, arith}
use Rattle.am_types.specs.Ancestors.{ancestors}
use Rattle.am_graph.specs.declared.node.Node.{Node}
use Rattle.am_graph.specs.Reaches.{number, Raised, IsTableOf}
use Rattle.am_graph.specs.Whole.{authors_of}
use Rattle.am_graph.proofs.Pending.{written_back}
use Rattle.am_graph.proofs.Walking.{joined_table}
use Rattle.am_graph.proofs.parts.Parts.mark.Goals as goal

pub returns : goal.returns
returns c =
    let s = c.args.self.now in
    let n : Node = c.args.node.now in
    let back : take c.in-Ok.table.len (c.raise.new.table ++ drop (length c.raise.new.table) c.in-Ok.table.items) ≡ c.raise.new.table =
    written_back c.raise.new.table c.in-Ok.table.items c.in-Ok.table.len (c.raise.auto.table ∙ ap length c.as_mut_slice.ensures.value) (sym c.as_mut_slice.ensures.len ∙ ap length c.as_mut_slice.ensures.value) in
    record {
      author = c.requires.author;
      depth = λ C is x e. c.depth_above-depth.ensures.depth C is x (ap (λ q. q.deps) e ∙ sym c.as_slice.ensures);
      shallow = c.depth_above-depth.ensures.shallow;
      kept = (
        (let a = ap length back in let b = c.raise.auto.table in let d = ap length c.as_mut_slice.ensures.value in let f = c.in-Ok.ensures.len in omega arith),
        λ C is m e.
            subst (λ T. IsTableOf (authors_of s) (m ∷ ancestors C n.deps) T) (sym back)
            (joined_table (authors_of s) (ancestors C n.deps) c.in-Ok.table.items c.raise.new.table c.args.author m (ap (λ q. number (authors_of s) q.actor) e ∙ c.requires.author)
            (subst (λ T. Raised T c.raise.new.table c.args.author (record { seq = m.change.seq; end = m.change.start + length m.change.ops })) c.as_mut_slice.ensures.value
            (subst (λ (q : Node). Raised c.as_mut_slice.result.now c.raise.new.table c.args.author (record { seq = q.seq; end = q.start + q.count })) (sym e) c.raise.ensures))
            (subst (λ ds. IsTableOf (authors_of s) (ancestors C ds) c.in-Ok.table.items) c.as_slice-3.ensures (c.in-Ok.ensures.table C is))),
      );
    }
