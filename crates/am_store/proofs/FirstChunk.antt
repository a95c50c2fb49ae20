-- What the first chunk of some bytes gives, or what is wrong with it.
use Rattle.std.proofs.Common.{ℕ, zero, suc, ◌≡◌, ◌<◌, Bool, true, false, List, [], ◌∷◌, ◌++◌, Result, Ok, Err, subst, refl, sym, arith, inl}
use Rattle.std.proofs.lemmas.List.Elements.{All-nil, All-push}
use Rattle.am_types.specs.declared.Change.{Change}
use Rattle.am_types.specs.declared.Hash.{Hash}
use Rattle.am_types.specs.declared.Table.{Table}
use Rattle.am_types.specs.Bytes.{IsHash}
use Rattle.am_types.specs.Deliver.{MayCome}
use Rattle.am_types.specs.Fine.{Fine}
use Rattle.am_frame.specs.Frames.{Chunk, IsChunk, chunk_of, chunk_bytes}
use Rattle.am_change.specs.Contents.{contents}
use Rattle.am_change.specs.Hashes.{own_hash}
use Rattle.am_delivery.specs.Waiting.{member_of}
use Rattle.am_doc.specs.declared.fault.DocFault.{DocFault}
use Rattle.am_doc.specs.declared.fault.DocFault.TheVariants as doc_fault
use Rattle.am_doc.specs.Fronts.{IsCompressed}
use Rattle.am_doc.specs.Spelling.{SpellsTable, Judges}
use Rattle.am_store.specs.declared.chunk.ChunkFault.{ChunkFault}
use Rattle.am_store.specs.declared.chunk.ChunkFault.TheVariants as chunk_fault
use Rattle.am_store.specs.Files.{HoldsChange, Holds, Begins, HasFault}
use Rattle.am_store.specs.Reading.{MatchBad, IsWrongWith, GivesPairs, ReadsOne}

pub kind_zero : (k : ℕ) → k < 2 → (k ≡ 1 → ⊥) → k ≡ 0
kind_zero zero l e = refl
kind_zero (suc zero) l e = absurd (e refl)
kind_zero (suc (suc k)) l e = absurd (omega arith)

pub begins : (kind : ℕ) (P : List ℕ → Type 0) (contents rest : List ℕ) → IsChunk (chunk_of kind contents) → P contents → Begins kind P (chunk_bytes (chunk_of kind contents) ++ rest)
begins kind P contents rest is p = record { contents = contents; rest = rest; is_chunk = is; bytes_are = refl; has = p }

-- the first chunk is of this kind
module _ (k kind : ℕ) (bytes contents rest : List ℕ) (e : k ≡ kind) (b : bytes ≡ chunk_bytes (chunk_of k contents) ++ rest) where
  pub begins_kind : (P : List ℕ → Type 0) → IsChunk (chunk_of k contents) → P contents → Begins kind P bytes
  begins_kind P is p = subst (λ n. Begins n P bytes) e (record { contents = contents; rest = rest; is_chunk = is; bytes_are = b; has = p })

  pub reads_one : (P : Chunk → Type 0) → IsChunk (chunk_of k contents) → P (chunk_of kind contents) → ReadsOne bytes rest P
  reads_one P is p = record { chunk = chunk_of k contents; is_chunk = is; bytes_are = b; has = subst (λ n. P (chunk_of n contents)) (sym e) p }

  pub wrong_here : (only : Bool) (fault : ChunkFault) → MatchBad fault (IsWrongWith only (chunk_of kind contents)) → MatchBad fault (HasFault only bytes)
  wrong_here only (chunk_fault.Bad f) w = subst (λ b. HasFault only b f) (sym b) (subst (λ n. HasFault only (chunk_bytes (chunk_of n contents) ++ rest) f) (sym e) (w rest))
  wrong_here only chunk_fault.NoMemory w = tt

-- ---- changes

pub holds_change : (only : Bool) (k : Chunk) (c : Change) → HoldsChange k c → Holds only k (c ∷ [])
holds_change true k c h = (c, h, refl)
holds_change false k c h = inl (c, h, refl)

pub gives_change : (only : Bool) (bytes : List ℕ) (h : Hash) (c : Change) → Fine c → bytes ≡ contents c → h ≡ own_hash c → IsHash h → GivesPairs only (chunk_of 1 bytes) ((h, c) ∷ [])
gives_change only bytes h c fine is own hashed = record {
  holds = holds_change only (chunk_of 1 bytes) c (record { kind = refl; fine = fine; contents_are = is });
  own_hashes = λ i. record { hash = own i; change = c } ∷ [];
  may_come = All-push MayCome [] (member_of (h, c)) (All-nil MayCome) (record { hash = hashed; fine = fine });
}

-- ---- documents

compressed_is_no_table : (t : Table) → ◌≡◌ {A = Result Table DocFault} (Ok t) (Err doc_fault.CompressedColumn) → ⊥
compressed_is_no_table t e = cc

-- contents that spell a table are not compressed
pub plain : ((bytes : List ℕ) (x y : Result Table DocFault) → Judges bytes x → Judges bytes y → x ≡ y) → (bytes : List ℕ) (t : Table) → SpellsTable bytes t → IsCompressed bytes → ⊥
plain law bytes t s k = compressed_is_no_table t (law bytes (Ok t) (Err doc_fault.CompressedColumn) s k)
