-- Contents are judged in one way.
use Rattle.std.proofs.Common.{◌≡◌, ℕ, List, [], ◌∷◌, Result, Ok, Err, refl, sym, ap, ◌∙◌, subst, inl, inr}
use Rattle.std.specs.Prelude.{IsBitSet}
use Rattle.std.specs.List.{AllByRecursion}
use Rattle.std.proofs.lemmas.List.Elements.{All-contains, All-from_recursion}
use Rattle.am_types.specs.declared.Table.{Table}
use Rattle.am_colmeta.specs.Judgement.{AreCompressed, AreKnown}
use Rattle.am_doc.specs.declared.fault.DocFault.{DocFault}
use Rattle.am_doc.specs.declared.fault.DocFault.TheVariants.{BadDocument, CompressedColumn}
use Rattle.am_doc.specs.Fronts.{Front, IsCompressed}
use Rattle.am_doc.specs.Spelling.{meta_specifications, row_specifications, SpellsTable, Judges}
use Rattle.am_doc.proofs.OneTable.{front_splits, one_table}

abbrev IsPlain : ℕ → Type 0
IsPlain s = IsBitSet s 3 → ⊥

none_compressed : (known : List ℕ) → AllByRecursion IsPlain known → (listed : List (ℕ × ℕ)) → AreKnown known listed → AreCompressed listed → ⊥
none_compressed known plain [] k h = h
none_compressed known plain (pair ∷ listed) k (inl h) = All-contains IsPlain known pair.0 (All-from_recursion IsPlain known plain) k.0 h
none_compressed known plain (pair ∷ listed) k (inr h) = none_compressed known plain listed k.1 h

no : (n : ℕ) → n ≡ 0 → (n ≡ 0 → ⊥) → ⊥
no n e f = f e

plain_metas : AllByRecursion IsPlain meta_specifications
plain_metas = (no 0 refl, (no 0 refl, (no 0 refl, (no 0 refl, (no 0 refl, (no 0 refl, (no 0 refl, (no 0 refl, (no 0 refl, tt)))))))))

plain_rows : AllByRecursion IsPlain row_specifications
plain_rows = (no 0 refl, (no 0 refl, (no 0 refl, (no 0 refl, (no 0 refl, (no 0 refl, (no 0 refl, (no 0 refl, (no 0 refl, (no 0 refl, (no 0 refl, (no 0 refl, (no 0 refl, (no 0 refl, (no 0 refl, (no 0 refl, tt))))))))))))))))

-- a spelled table lists no column that is compressed
pub spelled_is_plain : (bytes : List ℕ) (t : Table) → SpellsTable bytes t → IsCompressed bytes → ⊥
spelled_is_plain bytes t s k =
    let same : k.parts ≡ s.front = (front_splits k.parts s.front k.rest s.rest k.is_front s.is_front (sym k.bytes_are ∙ s.bytes_are)).0 in
    elim k.compressed [
      | inl h ↦ none_compressed meta_specifications plain_metas s.front.metas (subst (AreKnown meta_specifications) s.behind.metas_listed s.behind.are_metas.known) (subst (λ (f : Front). AreCompressed f.metas) same h)
      | inr h ↦ none_compressed row_specifications plain_rows s.front.rows (subst (AreKnown row_specifications) s.behind.rows_listed s.behind.are_rows.known) (subst (λ (f : Front). AreCompressed f.rows) same h)
    ]

pub one_judgement : (bytes : List ℕ) (x y : Result Table DocFault) → Judges bytes x → Judges bytes y → x ≡ y
one_judgement bytes (Ok t) (Ok u) p q = ap (λ (v : Table). Ok v) (one_table bytes t u p q)
one_judgement bytes (Ok t) (Err CompressedColumn) p q = absurd (spelled_is_plain bytes t p q)
one_judgement bytes (Ok t) (Err BadDocument) p q = absurd (q.1 t p)
one_judgement bytes (Err CompressedColumn) (Ok t) p q = absurd (spelled_is_plain bytes t q p)
one_judgement bytes (Err CompressedColumn) (Err CompressedColumn) p q = refl
one_judgement bytes (Err CompressedColumn) (Err BadDocument) p q = absurd (q.0 p)
one_judgement bytes (Err BadDocument) (Ok t) p q = absurd (p.1 t q)
one_judgement bytes (Err BadDocument) (Err CompressedColumn) p q = absurd (p.0 q)
one_judgement bytes (Err BadDocument) (Err BadDocument) p q = refl
