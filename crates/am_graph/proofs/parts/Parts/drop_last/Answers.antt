use Rattle.std.proofs.Common.{rules, ◌≡◌, ◌-◌, suc, length, take, get_or, sym, ap, subst, ◌∙◌, Some, arith}
use Rattle.std.specs.List.{slice_get}
use Rattle.std.proofs.lemmas.Option.{slice_get-get_or}
use Rattle.am_types.specs.declared.Hash.{Hash}
use Rattle.am_graph.specs.declared.node.Node.{Node}
use Rattle.am_graph.specs.Graphs.{HasDistinctSeqs}
use Rattle.am_graph.specs.Whole.{WholeOf, authors_of, first_in}
use Rattle.am_graph.proofs.Shorter.{whole_shorter, seqs_shorter}
use Rattle.am_graph.proofs.parts.Parts.drop_last.Goals as goal

pub returns-clause-whole : goal.returns-clause-whole
returns-clause-whole c =
    let s = c.args.self.now in
    let n = c.len-last.result - 1 in
    let last : Hash × Node = (c.unwrap.result.0.now, c.unwrap.result.1.now) in
    let counted = c.len-last.ensures.len in
    let some = c.requires.some in
    let long : length s.held.entries ≡ suc n = omega arith in
    let at : slice_get s.held.entries n ≡ Some last = search rules in
    let mark = c.index.result.now in
    let item : mark ≡ get_or s.marks.items n mark = search rules in
    let beside = c.requires.whole.beside in
    let marked : slice_get s.marks.items n ≡ Some mark = slice_get-get_or s.marks.items n mark (omega arith) ∙ ap Some (sym item) in
    subst (λ g. WholeOf g c.truncate.new.self.items (authors_of s) (first_in c.forget.new.firsts)) (sym c.truncate-2.ensures.entries)
    (subst (λ m. WholeOf (take n s.held.entries) m (authors_of s) (first_in c.forget.new.firsts)) (sym c.truncate.ensures.items)
    (whole_shorter s.held.entries last n long at s.marks.items (authors_of s) (first_in s.firsts) (first_in c.forget.new.firsts) mark marked c.requires.whole c.requires.seqs c.forget.ensures))

pub returns-clause-seqs : goal.returns-clause-seqs
returns-clause-seqs c =
    let s = c.args.self.now in
    let n = c.len-last.result - 1 in
    let last : Hash × Node = (c.unwrap.result.0.now, c.unwrap.result.1.now) in
    let counted = c.len-last.ensures.len in
    let some = c.requires.some in
    let long : length s.held.entries ≡ suc n = omega arith in
    let at : slice_get s.held.entries n ≡ Some last = search rules in
    subst HasDistinctSeqs (sym c.truncate-2.ensures.entries) (seqs_shorter s.held.entries last n long at c.requires.seqs)
