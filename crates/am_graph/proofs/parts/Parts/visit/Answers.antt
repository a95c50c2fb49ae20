use Rattle.std.specs.Map.Iter.{deref_pair}
use Rattle.std.proofs.Common.{◌≡◌, ◌∙◌, ◌+◌, ◌≤◌, ◌<◌, ◌^◌, ◌||◌, ◌∷◌, [], option_map, get_or, ap, sym, subst, inl, inr, length, refl, arith}
use Rattle.std.specs.Option.{IfSome}
use Rattle.std.proofs.lemmas.Bool.{or_cases}
use Rattle.std.proofs.lemmas.Option.{get_or_from_slice_get}
use Rattle.am_types.specs.declared.Hash.{Hash}
use Rattle.am_types.specs.Ancestors.{ancestors}
use Rattle.am_types.specs.Members.{Member}
use Rattle.am_graph.specs.declared.node.Node.{Node}
use Rattle.am_graph.specs.Graphs.{ForSet, missing}
use Rattle.am_graph.specs.Reaches.{IsTableOf, Merged}
use Rattle.am_graph.specs.Whole.{authors_of, first_in}
use Rattle.am_graph.specs.Walks.{waits, is_place_of}
use Rattle.am_graph.proofs.Growing.{length_nodes}
use Rattle.am_graph.proofs.Visiting.{on_ok, no_member, none_missing, only_memory, deps_held, deps_before, ends_low, author_low, visit_kept, visit_own}
use Rattle.am_graph.proofs.parts.Parts.visit.Goals as goal

pub returns-in-Some-clause-walk : goal.returns-in-Some-clause-walk
returns-in-Some-clause-walk c C is hs V walk vi fewer split =
    let s = c.args.self.now in
    let e : Hash × Node = (c.unwrap.result.0.now, c.unwrap.result.1.now) in
    let long = c.requires.whole.beside in
    let l : c.args.place < length s.marks.items = (let p = c.requires.place in omega arith) in
    let kept = subst (λ m. IfSome m.kept (λ T. (length T.items ≤ length (authors_of s)) × ForSet s.held.entries (λ C. (m : Member) → c.args.place < length C → IsTableOf (authors_of s) (ancestors C ((get_or C c.args.place m).hash ∷ [])) T.items))) (sym c.index-mark.ensures) (c.requires.whole.kept c.args.place c.index-mark.result.now l) in
    let table = subst (λ o. IfSome o (λ T. (length T.items ≤ length (authors_of s)) × ForSet s.held.entries (λ C. (m : Member) → c.args.place < length C → IsTableOf (authors_of s) (ancestors C ((get_or C c.args.place m).hash ∷ [])) T.items))) c.in-Some.is kept in
    let at : (d : Hash × Node) → get_or s.held.entries c.args.place d ≡ e = λ d. get_or_from_slice_get s.held.entries c.args.place e d (sym c.get_index.ensures.entry ∙ ap (option_map deref_pair) c.unwrap.ensures) in
    let n = length_nodes C in let z = ap length is in
    visit_kept s.held.entries s.marks.items (authors_of s) (first_in s.firsts) c.requires.whole c.args.place c.requires.place e at c.index-mark.result.now (sym c.index-mark.ensures) C is
    hs V (waits c.args.pending.now) c.args.table.now c.raise_all.new.table walk vi fewer split c.in-Some.kept.items (table.1 C is no_member (let p = c.requires.place in omega arith))
    (subst (λ S. Merged c.args.table.now c.raise_all.new.table S) c.as_slice.ensures.value c.raise_all.ensures)

pub returns-clause-before : goal.returns-clause-before
returns-clause-before c =
    let s = c.args.self.now in
    let e : Hash × Node = (c.unwrap.result.0.now, c.unwrap.result.1.now) in
    let at : (d : Hash × Node) → get_or s.held.entries c.args.place d ≡ e = λ d. get_or_from_slice_get s.held.entries c.args.place e d (sym c.get_index.ensures.entry ∙ ap (option_map deref_pair) c.unwrap.ensures) in
    on_ok c.wait.result _ _ (λ more q w. elim (or_cases (waits c.args.pending.now q) (is_place_of s.held.entries c.as_slice-2.result.now q) (sym (more q) ∙ w)) [
      | inl o ↦ inl o
      | inr p ↦ inr (deps_before s.held.entries s.marks.items (authors_of s) (first_in s.firsts) c.requires.whole c.args.place c.requires.place e at c.index-mark.result.now (sym c.index-mark.ensures) q
          (ap (λ ds. is_place_of s.held.entries ds q) (sym c.as_slice-2.ensures) ∙ p))
    ]) c.wait.ensures.ok

pub returns-clause-memory : goal.returns-clause-memory
returns-clause-memory c =
    let s = c.args.self.now in
    let e : Hash × Node = (c.unwrap.result.0.now, c.unwrap.result.1.now) in
    let at : (d : Hash × Node) → get_or s.held.entries c.args.place d ≡ e = λ d. get_or_from_slice_get s.held.entries c.args.place e d (sym c.get_index.ensures.entry ∙ ap (option_map deref_pair) c.unwrap.ensures) in
    only_memory c.wait.result s.held.entries c.as_slice-2.result.now
    (ap (missing s.held.entries) c.as_slice-2.ensures ∙ none_missing s.held.entries e.1.deps (deps_held s.held.entries s.marks.items (authors_of s) (first_in s.firsts) c.requires.whole c.args.place c.requires.place e at c.index-mark.result.now (sym c.index-mark.ensures)))
    c.wait.ensures.unknown

pub returns-clause-walk : goal.returns-clause-walk
returns-clause-walk c =
    let s = c.args.self.now in
    let e : Hash × Node = (c.unwrap.result.0.now, c.unwrap.result.1.now) in
    let at : (d : Hash × Node) → get_or s.held.entries c.args.place d ≡ e = λ d. get_or_from_slice_get s.held.entries c.args.place e d (sym c.get_index.ensures.entry ∙ ap (option_map deref_pair) c.unwrap.ensures) in
    on_ok c.wait.result _ _ (λ more C is hs V walk vi fewer split.
    visit_own s.held.entries s.marks.items (authors_of s) (first_in s.firsts) c.requires.whole c.args.place c.requires.place e at c.index-mark.result.now (sym c.index-mark.ensures) C is
    hs V (waits c.args.pending.now) c.args.table.now c.raise.new.table walk vi fewer split _ refl c.raise.ensures (waits c.wait.new.pending)
    (λ k. more k ∙ ap (λ ds. waits c.args.pending.now k || is_place_of s.held.entries ds k) c.as_slice-2.ensures)) c.wait.ensures.ok

-- the entry at the place
entry : (c : goal.In_default) → (d : Hash × Node) → get_or c.args.self.now.held.entries c.args.place d ≡ (c.unwrap.result.0.now, c.unwrap.result.1.now)
entry c d = get_or_from_slice_get c.args.self.now.held.entries c.args.place (c.unwrap.result.0.now, c.unwrap.result.1.now) d (sym c.get_index.ensures.entry ∙ ap (option_map deref_pair) c.unwrap.ensures)

pub overflow_add-own : goal.overflow_add-own
overflow_add-own c = let low : c.unwrap.result.1.now.start + c.unwrap.result.1.now.count ≤ 2 ^ 53 = ends_low c.args.self.now.held.entries c.args.self.now.marks.items (authors_of c.args.self.now) (first_in c.args.self.now.firsts) c.requires.whole c.args.place c.requires.place (c.unwrap.result.0.now, c.unwrap.result.1.now) (entry c) c.index-mark.result.now (sym c.index-mark.ensures) in omega arith

pub raise-requires : goal.raise-requires
raise-requires c =
    let s = c.args.self.now in
    let e : Hash × Node = (c.unwrap.result.0.now, c.unwrap.result.1.now) in
    let at : (d : Hash × Node) → get_or s.held.entries c.args.place d ≡ e = λ d. get_or_from_slice_get s.held.entries c.args.place e d (sym c.get_index.ensures.entry ∙ ap (option_map deref_pair) c.unwrap.ensures) in
    subst (λ n. c.index-mark.result.now.author < n) (sym c.requires.len)
    (author_low s.held.entries s.marks.items (authors_of s) (first_in s.firsts) c.requires.whole c.args.place c.requires.place e at c.index-mark.result.now (sym c.index-mark.ensures))
