-- Any chunk gives some changes or is wrong in some way, and any bytes are a file or have a first bad chunk.
use Rattle.std.proofs.Common.{arith, ℕ, ◌≡◌, ◌<◌, ◌+◌, ◌⊎◌, Bool, true, false, List, [], ◌∷◌, ◌++◌, length, flat_map, Option, Some, None, Result, Ok, Err, refl, sym, ◌∙◌, subst, inl, inr}
use Rattle.std.specs.Prelude.{All}
use Rattle.std.specs.List.{AllZip}
use Rattle.std.specs.Bool.{⊤}
use Rattle.std.proofs.lemmas.List.{append-nil}
use Rattle.std.proofs.lemmas.List.Elements.{All-nil, All-push}
use Rattle.am_types.specs.declared.Change.{Change}
use Rattle.am_types.specs.declared.Hash.{Hash}
use Rattle.am_types.specs.declared.Table.{Table}
use Rattle.am_types.specs.Order.{hash_cmp, Ascends}
use Rattle.am_types.specs.Members.{Member, changes, heads}
use Rattle.am_types.specs.Documents.{History}
use Rattle.am_frame.specs.Frames.{Chunk, IsChunk, chunk_of, chunk_bytes}
use Rattle.am_frame.specs.Faults as frame
use Rattle.am_frame.proofs.ReadLaws.{bytes-more}
use Rattle.am_frame.specs.declared.FrameFault.{FrameFault}
use Rattle.am_frame.specs.declared.FrameFault.TheVariants as frame_fault
use Rattle.am_change.specs.declared.ChangeFault.{ChangeFault}
use Rattle.am_change.specs.declared.ChangeFault.TheVariants as change_fault
use Rattle.am_change.specs.Fronts.{IsCompressed}
use Rattle.am_change.specs.Hashes.{own_hash}
use Rattle.am_change.specs.Judgement.{Judges}
use Rattle.am_doc.specs.declared.fault.DocFault.{DocFault}
use Rattle.am_doc.specs.declared.fault.DocFault.TheVariants as doc_fault
use Rattle.am_doc.specs.Fronts as document
use Rattle.am_doc.specs.Spelling as spelling
use Rattle.am_histories.specs.Laws.{AreHashedBy, IsRebuilt}
use Rattle.am_histories.specs.Existence.{HistoryOrNone}
use Rattle.am_rebuild.specs.Documents.{bare}
use Rattle.am_rebuild.specs.Judged.{first_apart, IsTheHistory}
use Rattle.am_rebuild.proofs.Apart.{none_apart}
use Rattle.am_rebuild.proofs.Documents.{whole, other, no_history_of}
use Rattle.am_rebuild.proofs.Judging.{apart_heads}
use Rattle.am_store.specs.declared.fault.LoadFault.{LoadFault}
use Rattle.am_store.specs.declared.fault.LoadFault.TheVariants.{DocumentHere, CompressedColumn, BadChange, BadDocument, NoHistory, HeadsMismatch}
use Rattle.am_store.specs.Files.{Holds, AreOfNoChange, AreOfNoTable, TellNoHistory, TellOtherHeads, HasFault}
use Rattle.am_store.specs.AnyFile.{IsTold, IsBad, IsRead}
use Rattle.am_store.proofs.FirstChunk.{begins, plain, holds_change}
use Rattle.am_store.proofs.ReadSteps.{zip_push}
use Rattle.am_store.proofs.Verdicts.{of_frame}

-- ---- changes

pub change_is_told : (only : Bool) (bytes : List ℕ) (r : Result Change ChangeFault) → IsChunk (chunk_of 1 bytes) → Judges bytes r → (r ≡ Err change_fault.NoMemory → ⊥) → IsTold only (chunk_of 1 bytes)
change_is_told only bytes (Ok c) is judged known = inl (c ∷ [], holds_change only (chunk_of 1 bytes) c (record { kind = refl; fine = judged.0; contents_are = judged.1 }))
change_is_told only bytes (Err change_fault.CompressedColumn) is judged known = inr (CompressedColumn, λ rest. inl (begins 1 IsCompressed bytes rest is judged))
change_is_told only bytes (Err change_fault.BadChange) is judged known = inr (BadChange, λ rest. begins 1 AreOfNoChange bytes rest is (record { plain = judged.0; none = judged.1 }))
change_is_told only bytes (Err change_fault.NoMemory) is judged known = absurd (known refl)

-- ---- documents

module _ (history_or_none : HistoryOrNone) (is_rebuilt : IsRebuilt) (bytes : List ℕ) (is : IsChunk (chunk_of 0 bytes)) (t : Table) (spelled : spelling.SpellsTable bytes t) (uncompressed : document.IsCompressed bytes → ⊥) where
  stated_ascend : Ascends hash_cmp t.heads
  stated_ascend = subst (Ascends hash_cmp) (sym spelled.behind.heads) spelled.behind.ascend

  module _ (R : List Member) (hashed : AreHashedBy own_hash R) (history : History (bare t) R) where
    the_history : IsTheHistory own_hash (bare t) R
    the_history = record {
      history = history;
      hashed = hashed;
      one = λ C h k. sym (is_rebuilt own_hash (bare t) C h k) ∙ is_rebuilt own_hash (bare t) R hashed history;
    }

    heads_told : (o : Option Hash) → first_apart (heads R) t.heads ≡ o → IsTold false (chunk_of 0 bytes)
    heads_told None e =
        let found = whole t R (changes R) the_history (none_apart (heads R) t.heads e) refl in
        inl (changes R, inr (record { kind = refl; plain = uncompressed; table = t; spelled = spelled; history = found.0.history; heads_are = found.1 }))
    heads_told (Some h) e =
        let found = other t R h the_history (apart_heads R history.valid (heads R) t.heads h refl stated_ascend e) in
        inr (HeadsMismatch h, λ rest. begins 0 (TellOtherHeads h) bytes rest is (record { plain = uncompressed; table = t; spelled = spelled; cs = found.0; history = found.1.history; apart = found.2 }))

  table_is_told : IsTold false (chunk_of 0 bytes)
  table_is_told = elim (history_or_none own_hash (bare t)) [
    | inl s ↦ heads_told s.0 s.1 s.2 (first_apart (heads s.0) t.heads) refl
    | inr n ↦ inr (NoHistory, λ rest. begins 0 TellNoHistory bytes rest is (record { plain = uncompressed; table = t; spelled = spelled; none = no_history_of t n }))
  ]

pub document_is_told : HistoryOrNone → IsRebuilt → ((bytes : List ℕ) (x y : Result Table DocFault) → spelling.Judges bytes x → spelling.Judges bytes y → x ≡ y)
    → (bytes : List ℕ) (r : Result Table DocFault) → IsChunk (chunk_of 0 bytes) → spelling.Judges bytes r → IsTold false (chunk_of 0 bytes)
document_is_told history_or_none is_rebuilt one_judgement bytes (Ok t) is judged = table_is_told history_or_none is_rebuilt bytes is t judged (plain one_judgement bytes t judged)
document_is_told history_or_none is_rebuilt one_judgement bytes (Err doc_fault.CompressedColumn) is judged = inr (CompressedColumn, λ rest. inr (begins 0 document.IsCompressed bytes rest is judged))
document_is_told history_or_none is_rebuilt one_judgement bytes (Err doc_fault.BadDocument) is judged = inr (BadDocument, λ rest. begins 0 AreOfNoTable bytes rest is (record { plain = judged.0; none = judged.1 }))

pub document_here_is_told : (bytes : List ℕ) → IsChunk (chunk_of 0 bytes) → IsTold true (chunk_of 0 bytes)
document_here_is_told bytes is = inr (DocumentHere, λ rest. begins 0 (λ contents. ⊤) bytes rest is tt)

-- ---- files

of_bad_frame : (only : Bool) (bytes : List ℕ) (f : FrameFault) → frame.HasFault bytes f → HasFault only bytes (of_frame f)
of_bad_frame only bytes frame_fault.BadMagic h = h
of_bad_frame only bytes frame_fault.Truncated h = h
of_bad_frame only bytes frame_fault.BadLength h = h
of_bad_frame only bytes frame_fault.BadChecksum h = h
of_bad_frame only bytes (frame_fault.ChunkType type) h = h
of_bad_frame only bytes frame_fault.CompressedChunk h = h

-- the bytes are chunks and the rest, and each of the chunks gives some changes
pub record HasHeld (only : Bool) (bytes rest : List ℕ) : Type 0 where
  pub chunks : List Chunk
  pub lists : List (List Change)
  pub bytes_are : bytes ≡ flat_map chunk_bytes chunks ++ rest
  pub each : All IsChunk chunks
  pub hold : AllZip (Holds only) chunks lists

-- so far each chunk gives changes, or the first bad one is known
abbrev pub IsReadTo : Bool → List ℕ → List ℕ → Type 0
IsReadTo only bytes rest = HasHeld only bytes rest ⊎ IsBad only bytes

module _ (only : Bool) (bytes : List ℕ) where
  pub at_first : IsReadTo only bytes bytes
  at_first = inl (record { chunks = []; lists = []; bytes_are = refl; each = All-nil IsChunk; hold = tt })

  module _ (rest : List ℕ) (more : 0 < length rest) where
    bad_here : HasHeld only bytes rest → (f : LoadFault) → HasFault only rest f → IsBad only bytes
    bad_here held f bad = (
      length held.chunks + 1,
      f,
      record { before = held.chunks; lists = held.lists; rest = rest; bytes_are = held.bytes_are; each = held.each; hold = held.hold; more = more; bad = bad; number = refl },
    )

    pub at_bad_frame : IsReadTo only bytes rest → (f : FrameFault) → frame.HasFault rest f → IsRead only bytes
    at_bad_frame so_far f bad = elim so_far [
      | inl held ↦ inr (bad_here held (of_frame f) (of_bad_frame only rest f bad))
      | inr known ↦ inr known
    ]

    module _ (chunk : Chunk) (later : List ℕ) (is : IsChunk chunk) (next : rest ≡ chunk_bytes chunk ++ later) where
      held_more : HasHeld only bytes rest → (cs : List Change) → Holds only chunk cs → HasHeld only bytes later
      held_more held cs holds = record {
        chunks = held.chunks ++ chunk ∷ [];
        lists = held.lists ++ cs ∷ [];
        bytes_are = bytes-more bytes rest later held.chunks chunk held.bytes_are next;
        each = All-push IsChunk held.chunks chunk held.each is;
        hold = zip_push (Holds only) held.chunks held.lists chunk cs held.hold holds;
      }

      pub at_next : IsReadTo only bytes rest → IsTold only chunk → IsReadTo only bytes later
      at_next so_far told = elim so_far [
        | inl held ↦ elim told [
          | inl gives ↦ inl (held_more held gives.0 gives.1)
          | inr wrong ↦ inr (bad_here held wrong.0 (subst (λ b. HasFault only b wrong.0) (sym next) (wrong.1 later)))
        ]
        | inr known ↦ inr known
      ]

  pub at_last : (rest : List ℕ) → length rest ≡ 0 → IsReadTo only bytes rest → IsRead only bytes
  at_last (x ∷ rest) none so_far = absurd (omega (arith, none))
  at_last [] none so_far = elim so_far [
    | inl held ↦ inl (
      flat_map (λ l. l) held.lists,
      record {
        chunks = held.chunks;
        lists = held.lists;
        file = record { bytes_are = held.bytes_are ∙ append-nil (flat_map chunk_bytes held.chunks); each = held.each };
        hold = held.hold;
        are = refl;
      },
    )
    | inr known ↦ inr known
  ]
