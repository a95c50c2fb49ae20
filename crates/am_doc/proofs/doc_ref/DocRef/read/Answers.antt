use Rattle.std.proofs.Common.{ℕ, List, sym, subst, inl, inr}
use Rattle.am_colmeta.specs.Judgement.{AreCompressed}
use Rattle.am_doc.specs.Fronts.{Front}
use Rattle.am_doc.specs.Spelling.{SpellsBehind}
use Rattle.am_doc.specs.Reading.{front_of}
use Rattle.am_doc.proofs.doc_ref.DocRef.read.Goals as goal

pub returns-in-None : goal.returns-in-None
returns-in-None c =
    let f = front_of c.in-Some.front in
    let plain : AreCompressed f.metas → ⊥ = λ h. absurd (cc (c.if-compressed.ensures.some.1 h)) in
    let plain_rows : AreCompressed f.rows → ⊥ = λ h. absurd (cc (c.if-compressed-2.ensures.some.1 h)) in
    record {
      judged = (
        λ k.
            let same = (c.in-Some.ensures.only k.parts k.rest k.is_front k.bytes_are).0 in
            elim k.compressed [
              | inl h ↦ plain (subst (λ (g : Front). AreCompressed g.metas) (sym same) h)
              | inr h ↦ plain_rows (subst (λ (g : Front). AreCompressed g.rows) (sym same) h)
            ],
        λ t s.
            let same = c.in-Some.ensures.only s.front s.rest s.is_front s.bytes_are in
            c.in-None.ensures.none t plain plain_rows (subst (λ (r : List ℕ). SpellsBehind f r t) (sym same.1) (subst (λ (g : Front). SpellsBehind g s.rest t) (sym same.0) s.behind)),
      );
    }
