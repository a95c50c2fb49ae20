use Rattle.std.proofs.Common.{ℕ, List, sym, subst, inl, inr}
use Rattle.am_colmeta.specs.Judgement.{AreCompressed}
use Rattle.am_doc.specs.Fronts.{Front}
use Rattle.am_doc.specs.Reading.{front_of}
use Rattle.am_doc.specs.Spelling.{SpellsBehind}
use Rattle.am_doc.proofs.OneJudgement.{spelled_is_plain}
use Rattle.am_doc.proofs.doc_ref.DocRef.spelled.Goals as goal

pub unreachable-requires : goal.unreachable-requires
unreachable-requires c =
    let s = c.requires.1 in
    c.in_default.ensures.only s.front s.rest s.is_front s.bytes_are

pub known-requires-clause-known : goal.known-requires-clause-known
known-requires-clause-known c =
    let t = c.requires.0 in
    let s = c.requires.1 in
    let f = front_of c.in-Some.front in
    let there = c.in-Some.ensures.some in
    let same = c.in-Some.ensures.only s.front s.rest s.is_front s.bytes_are in
    let behind = subst (λ (r : List ℕ). SpellsBehind f r t) (sym same.1) (subst (λ (g : Front). SpellsBehind g s.rest t) (sym same.0) s.behind) in
    let plain : AreCompressed f.metas → ⊥ = λ h. spelled_is_plain c.args.contents.now t s (record { parts = f; rest = c.in-Some.rest.now; is_front = there.0; bytes_are = there.1; compressed = inl h }) in
    let plain_rows : AreCompressed f.rows → ⊥ = λ h. spelled_is_plain c.args.contents.now t s (record { parts = f; rest = c.in-Some.rest.now; is_front = there.0; bytes_are = there.1; compressed = inr h }) in
    (t, behind, plain, plain_rows)

pub returns : goal.returns
returns c = record {
  front = front_of c.in-Some.front;
  rest = c.in-Some.rest.now;
  is_front = c.in-Some.ensures.some.0;
  bytes_are = c.in-Some.ensures.some.1;
  behind = c.known.ensures;
}
