use Rattle.std.proofs.Common.{ℕ, ◌≡◌, ◌∙◌, ◌++◌, ◌∷◌, [], ap, sym, subst, List}
use Rattle.std.specs.BTreeMap.{is_at}
use Rattle.std.specs.Map.{lookup}
use Rattle.am_types.specs.declared.Hash.{Hash}
use Rattle.am_types.specs.contracts.hash.HashPartialEq.TheImpl as equality
use Rattle.indexmap.specs.IndexMap.{insert_entry}
use Rattle.am_graph.specs.Whole.{WholeOf, authors_of, first_in, pair_cmp}
use Rattle.am_graph.proofs.Growing.{whole_joined}
use Rattle.am_graph.proofs.Held.{entries_pushed}
use Rattle.am_graph.proofs.parts.Parts.join.Goals as goal

pub returns-in_err-note-clause-whole : goal.returns-in_err-note-clause-whole
returns-in_err-note-clause-whole c =
    subst (λ (es : List ((ℕ × ℕ) × Hash)). WholeOf c.reserve.new.self.entries c.reserve-2.new.self.items (authors_of c.args.self.now) (λ a q. lookup (is_at (pair_cmp (a, q))) es)) (sym c.in_err-note.ensures.err)
    (subst (λ g. WholeOf g c.reserve-2.new.self.items (authors_of c.args.self.now) (first_in c.args.self.now.firsts)) (sym c.in_ok-reserve.ensures.entries)
    (subst (λ m. WholeOf c.args.self.now.held.entries m (authors_of c.args.self.now) (first_in c.args.self.now.firsts)) (sym c.in_ok-reserve-2.ensures.items) c.requires.whole))

-- the entries with the change
entries : (c : goal.In_ok-push) → c.insert.new.self.entries ≡ c.args.self.now.held.entries ++ (c.args.hash, c.args.node) ∷ []
entries c = c.in_ok-insert.ensures.entries ∙ ap (λ g. insert_entry equality.eq-value.it g c.args.hash c.args.node) c.in_ok-reserve.ensures.entries
    ∙ entries_pushed c.args.self.now.held.entries c.args.hash c.args.node c.requires.fresh

pub returns-clause-whole : goal.returns-clause-whole
returns-clause-whole c =
    subst (λ g. WholeOf g c.push.new.self.items (authors_of c.args.self.now) (first_in c.note.new.firsts)) (sym (entries c))
    (subst (λ m. WholeOf (c.args.self.now.held.entries ++ (c.args.hash, c.args.node) ∷ []) m (authors_of c.args.self.now) (first_in c.note.new.firsts)) (sym (c.in_ok-push.ensures.items ∙ ap (λ m. m ++ c.args.mark ∷ []) c.in_ok-reserve-2.ensures.items))
    (whole_joined c.args.self.now.held.entries c.args.self.now.marks.items (authors_of c.args.self.now) (first_in c.args.self.now.firsts) (first_in c.note.new.firsts) c.args.hash c.args.node c.args.mark
    c.requires.whole c.requires.fresh c.requires.deps c.requires.start c.requires.end c.requires.mark c.in_ok-note.ensures.ok))

pub returns-clause-ok : goal.returns-clause-ok
returns-clause-ok c = entries c
