use Rattle.std.proofs.Common.{◌≡◌, ◌∙◌, List, [], ◌∷◌, length, refl, sym, subst, arith}
use Rattle.std.proofs.lemmas.Bool.{eqb-true}
use Rattle.am_types.specs.declared.Hash.{Hash}
use Rattle.am_types.specs.Ancestors.{ancestors}
use Rattle.am_graph.specs.Graphs.{IsSound}
use Rattle.am_graph.specs.Reaches.{IsTableOf}
use Rattle.am_graph.specs.Whole.{authors_of}
use Rattle.am_graph.proofs.Growing.{one_hash}
use Rattle.am_graph.proofs.Walking.{table_of_none}
use Rattle.am_graph.proofs.parts.Parts.reaches.Goals as goal

no_heads : (hs : List Hash) → length hs ≡ 0 → hs ≡ []
no_heads [] e = refl
no_heads (h ∷ hs) e = absurd (omega (arith, e))

pub returns-then-is_empty-clause-table : goal.returns-then-is_empty-clause-table
returns-then-is_empty-clause-table c C is =
    let authors = authors_of c.args.self.now in
    let none : c.args.heads.now ≡ [] = no_heads c.args.heads.now (eqb-true (length c.args.heads.now) 0 (sym c.is_empty.ensures ∙ c.if-is_empty.true)) in
    subst (λ hs. IsTableOf authors (ancestors C hs) c.new.result.items) (sym none)
    (subst (IsTableOf authors (ancestors C [])) (sym c.new.ensures.items) (table_of_none authors C (one_hash C (subst IsSound is c.requires.sound))))
